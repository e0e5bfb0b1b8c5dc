use Rattle.edit_ops.proofs.Common.{◌≡◌, ◌+◌, length}
use Rattle.edit_ops.proofs.RunLaws.{Merging}
use Rattle.edit_ops.proofs.runs.union.Given as goal

abbrev pub invariant-loop : goal.invariant-loop
invariant-loop l = record {
  left : length l.left.items + l.counter ≡ length l.initial.left.items;
  merges : Merging l.spans l.left.items l.runs.items l.run;
}
