use Rattle.line_tree.proofs.Common.{ℕ, ◌+◌, ◌-◌, ◌≤◌, lines_in, records, IsLineAt}
use Rattle.line_tree.proofs.NextLaws.{Ends}
use Rattle.line_tree.proofs.walk.climb.Given as goal

abbrev pub invariant-loop-level : goal.invariant-loop-level
invariant-loop-level g l = record {
  ends : (k : ℕ) → IsLineAt (lines_in (records l.store) l.fn.height l.fn.root) k l.fn.name →
      Ends (records l.store) (l.fn.height - l.level) l.level l.fn.root l.at k;
  ticks : g.C.Ticks.count l.ticks ≤ g.C.Ticks.count l.fn.ticks + l.level;
}
