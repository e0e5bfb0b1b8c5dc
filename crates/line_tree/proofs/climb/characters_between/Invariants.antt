use Rattle.line_tree.proofs.Common.{◌≡◌, ◌+◌, records, characters_before}
use Rattle.line_tree.proofs.climb.characters_between.Given as goal

abbrev pub invariant-loop-i : goal.invariant-loop-i
invariant-loop-i g l = record {
  value : characters_before (records l.store) l.node l.from + l.characters
      ≡ characters_before (records l.store) l.node l.i;
}
