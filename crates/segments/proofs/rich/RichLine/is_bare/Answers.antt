use Rattle.segments.proofs.Common.{◌≡◌, ℕ, true, nat_eq, length, sym, ap, ◌∙◌, arith, nat_tests, LineContent}
use Rattle.segments.proofs.Common.{characters, plain_line}
use Rattle.segments.proofs.PlainLaws.{bare}
use Rattle.segments.proofs.rich.RichLine.is_bare.Goals as goal

no_more : (n : ℕ) → nat_eq n 0 ≡ true → n ≡ 0
no_more n is = grind (arith, nat_tests)

pub returns-then-len-eq0 : goal.returns-then-len-eq0
returns-then-len-eq0 c is =
    let toggles = c.self.inside.toggles in let marks = c.self.inside.marks in
    let toggled : length toggles.items ≡ 0 = omega (arith, c.if-len-eq0.true, c.len.ensures, toggles.ok.0) in
    let marked : length marks.items ≡ 0 = omega (
      arith,
      no_more c.len-then-len-eq0.result is,
      c.len-then-len-eq0.ensures,
      marks.ok.0,
    ) in
    sym c.self.view_is ∙ bare c.self.inside.text toggles.items marks.items toggled marked
    ∙ ap (λ (line : LineContent). plain_line (characters line.columns)) c.self.view_is
