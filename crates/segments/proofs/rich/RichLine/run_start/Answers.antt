use Rattle.segments.proofs.Common.{◌-◌, take, sym, ap, ◌∙◌, arith, suffix_len}
use Rattle.segments.proofs.RichLaws.{as_long, same_text}
use Rattle.segments.proofs.rich.RichLine.run_start.Goals as goal

pub run_start-requires : goal.run_start-requires
run_start-requires g c = omega (arith, c.requires, as_long c.self.inside c.self.view_is)

pub returns-clause-value : goal.returns-clause-value
returns-clause-value g c =
    let column = c.args.column in
    c.run_start.ensures.value ∙ ap (λ text. column - suffix_len g.T.CharacterTest.test (take column text))
    (sym (same_text c.self.inside c.self.view_is))
