use Rattle.line_tree.proofs.Common.{◌≡◌, ℕ, ◌+◌, ◌-◌, take, lines_in, records, total, Begins, IsLineAt}
use Rattle.line_tree.proofs.climb.start_of.Given as goal

abbrev pub invariant-loop-level : goal.invariant-loop-level
invariant-loop-level g l = record {
  begins : (k : ℕ) → IsLineAt (lines_in (records l.store) l.fn.height l.fn.root) k l.fn.name →
      (b : ℕ) × Begins (records l.store) (l.fn.height - l.level) l.level l.fn.root l.at b
      × (l.start + b ≡ (total (take k (lines_in (records l.store) l.fn.height l.fn.root))).characters);
}
