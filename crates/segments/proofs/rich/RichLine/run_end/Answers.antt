use Rattle.segments.proofs.Common.{◌+◌, drop, sym, ap, ◌∙◌, arith, prefix_len}
use Rattle.segments.proofs.RichLaws.{as_long, same_text}
use Rattle.segments.proofs.rich.RichLine.run_end.Goals as goal

pub run_end-requires : goal.run_end-requires
run_end-requires g c = omega (arith, c.requires, as_long c.self.inside c.self.view_is)

pub returns-clause-value : goal.returns-clause-value
returns-clause-value g c =
    let column = c.args.column in
    c.run_end.ensures.value ∙ ap (λ text. column + prefix_len g.T.CharacterTest.test (drop column text))
    (sym (same_text c.self.inside c.self.view_is))

pub returns-clause-bound : goal.returns-clause-bound
returns-clause-bound g c =
    omega (arith, c.run_end.ensures.bound, as_long c.self.inside c.self.view_is)
