use Rattle.text_model.proofs.Common.{◌≡◌, ◌++◌, map, take, drop, with_slot}
use Rattle.text_model.proofs.plain_store.set_tag.Given as goal

abbrev pub invariant-loop-cell : goal.invariant-loop-cell
invariant-loop-cell l =
    l.cells ≡ map (with_slot l.slot.0 l.is_on) (take l.cell-index l.initial.cells) ++ drop l.cell-index l.initial.cells
