use Rattle.line_tree.proofs.Common.{◌≡◌, ℕ, ◌≤◌, counting, no_text, lines_in, records, rooms, spares, without_mark}
use Rattle.line_tree.proofs.Common.{IsLineAt}
use Rattle.line_tree.proofs.ClimbingLaws.{Climbs}
use Rattle.line_tree.proofs.taking.take_up.Given as goal

abbrev pub invariant-loop-level : goal.invariant-loop-level
invariant-loop-level g l = record {
  climbs : (k : ℕ) → IsLineAt (lines_in (records l.fn.store) l.fn.height l.fn.root) k l.fn.name →
      Climbs (records l.fn.store) (records l.store) l.fn.height l.fn.root k (without_mark l.fn.number.0)
      (counting 0 0 l.gone) no_text l.level l.at;
  within : l.level ≤ l.fn.height;
  spares : spares l.store ≡ spares l.fn.store;
  rooms : rooms l.store ≡ rooms l.fn.store;
}
