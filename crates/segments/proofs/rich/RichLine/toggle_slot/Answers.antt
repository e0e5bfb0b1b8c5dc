use Rattle.segments.proofs.Common.{◌+◌, ◌<◌, length, ap, ◌∙◌, arith, on_ok_weaker, changed, LineContent, toggled_more}
use Rattle.segments.proofs.ChangeLaws.{columns_flipped}
use Rattle.segments.proofs.RichLaws.{as_long}
use Rattle.std.specs.FinSet as set
use Rattle.segments.proofs.rich.RichLine.toggle_slot.Goals as goal

pub invariant_of-self : goal.invariant_of-self
invariant_of-self c = (
  c.flip_slot.ensures.lie 0 (length c.self.inside.text) c.self.invariant.0 (omega arith)
      (omega (arith, c.requires.within, as_long c.self.inside c.self.view_is)),
  c.self.invariant.1,
)

pub returns-clause-columns : goal.returns-clause-columns
returns-clause-columns c =
    let text = c.self.inside.text in
    let slots = set.insert set.empty c.args.slot.0 in
    let within : c.args.column < length text =
    omega (arith, c.requires.within, as_long c.self.inside c.self.view_is) in
    on_ok_weaker c.flip_slot.result (λ flips.
    columns_flipped c.args.column slots text c.flip_slot.new.toggles.items c.self.inside.toggles.items within flips
    ∙ ap (λ (line : LineContent). changed (toggled_more slots) c.args.column (c.args.column + 1) line.columns)
    c.self.view_is) c.flip_slot.ensures.slots
