use Rattle.segments.proofs.Common.{◌≡◌, drop, any_of}
use Rattle.std.specs.FinSet as set
use Rattle.segments.proofs.rich.RichLine.has_toggle.Given as goal

abbrev pub invariant-loop-entry : goal.invariant-loop-entry
invariant-loop-entry l =
    set.contains (any_of l.entry-items) l.slot.0 ≡ set.contains (any_of (drop l.entry-index l.entry-items)) l.slot.0
