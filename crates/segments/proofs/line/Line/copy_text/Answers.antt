use Rattle.segments.proofs.Common.{◌≡◌, sym, ap, subst, ◌∙◌, IfOk, chars, slice_range, string_bytes, LineContent}
use Rattle.segments.proofs.Common.{characters, content}
use Rattle.segments.proofs.PlainLaws.{characters-plain}
use Rattle.segments.proofs.line.Line.copy_text.Goals as goal

pub returns-in-Plain : goal.returns-in-Plain
returns-in-Plain c =
    let same = sym (characters-plain c.in-Plain.text)
    ∙ ap (λ (line : LineContent). characters line.columns) (ap content (sym c.in-Plain.is) ∙ c.self.view_is) in
    subst (λ xs. IfOk c.copy.result (λ text. chars (string_bytes text) ≡ slice_range xs c.args.from c.args.to)) same
    c.copy.ensures
