use Rattle.segments.proofs.Common.{◌+◌, ◌<◌, length, ap, ◌∙◌, arith, on_ok_weaker, changed, LineContent, toggled_more}
use Rattle.segments.proofs.ChangeLaws.{columns_flipped}
use Rattle.segments.proofs.RichLaws.{as_long}
use Rattle.segments.proofs.rich.RichLine.toggle.Goals as goal

pub invariant_of-self : goal.invariant_of-self
invariant_of-self c = (
  c.flip.ensures.lie 0 (length c.self.inside.text) c.self.invariant.0 (omega arith)
      (omega (arith, c.requires, as_long c.self.inside c.self.view_is)),
  c.self.invariant.1,
)

pub returns-clause-columns : goal.returns-clause-columns
returns-clause-columns c =
    let text = c.self.inside.text in
    let within : c.args.column < length text =
    omega (arith, c.requires, as_long c.self.inside c.self.view_is) in
    on_ok_weaker c.flip.result (λ flips.
    columns_flipped c.args.column c.args.slots.now text c.flip.new.toggles.items c.self.inside.toggles.items within
    flips
    ∙ ap (λ (line : LineContent). changed (toggled_more c.args.slots.now) c.args.column (c.args.column + 1)
    line.columns) c.self.view_is) c.flip.ensures.slots
