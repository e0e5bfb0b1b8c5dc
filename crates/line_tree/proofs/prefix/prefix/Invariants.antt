use Rattle.line_tree.proofs.Common.{IsTree, lines_in, no_text, records, sum_behind}
use Rattle.line_tree.proofs.SearchLaws.{Passes}
use Rattle.line_tree.proofs.prefix.prefix.Given as goal

abbrev pub invariant-loop-level : goal.invariant-loop-level
invariant-loop-level g l = record {
  tree : IsTree (records l.store) l.level l.at;
  passes : Passes (λ s. s.lines) sum_behind (lines_in (records l.store) l.fn.height l.fn.root)
      (lines_in (records l.store) l.level l.at) l.fn.k l.rest (record { sum = no_text }) l.before;
}

abbrev pub decreases-loop-level : goal.decreases-loop-level
decreases-loop-level g l = l.level
