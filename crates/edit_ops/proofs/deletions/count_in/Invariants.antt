use Rattle.edit_ops.proofs.Common.{◌≡◌, take, sum_by}
use Rattle.edit_ops.proofs.DeltaLaws.{long}
use Rattle.edit_ops.proofs.deletions.count_in.Given as goal

abbrev pub invariant-loop-span : goal.invariant-loop-span
invariant-loop-span l = l.count ≡ sum_by long (take l.span-index l.spans)
