use Rattle.line_tree.proofs.Common.{◌≡◌, ◌-◌, length, vec_len, take}
use Rattle.line_tree.proofs.TableLaws.{Written}
use Rattle.std.specs.FinMap as finite
use Rattle.line_tree.proofs.mark_names.write.Given as goal

abbrev pub invariant-loop-number : goal.invariant-loop-number
invariant-loop-number l = record {
  table : Written l.initial.names.items l.names.items (take l.index (finite.entries l.line.marks)) l.name;
  len : vec_len l.names ≡ vec_len l.initial.names;
}

abbrev pub decreases-loop-number : goal.decreases-loop-number
decreases-loop-number l = length (finite.entries l.line.marks) - l.index
