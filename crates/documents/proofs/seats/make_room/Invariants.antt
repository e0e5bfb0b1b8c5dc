use Rattle.documents.proofs.Common.{◌≤◌, length, IsLonger}
use Rattle.documents.proofs.seats.make_room.Given as goal

abbrev pub invariant-loop : goal.invariant-loop
invariant-loop g l = IsLonger l.value l.initial.list.items l.list.items × (l.counter ≤ length l.list.items)
