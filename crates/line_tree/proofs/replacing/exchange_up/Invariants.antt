use Rattle.line_tree.proofs.Common.{◌≡◌, ℕ, ◌≤◌, IsWithin, lines_in, records, rooms, spares, total, IsLineAt}
use Rattle.line_tree.proofs.Common.{LineContent, Records, IsStale}
use Rattle.line_tree.proofs.ClimbingLaws.{Climbs}
use Rattle.line_tree.proofs.replacing.exchange_up.Given as goal

abbrev pub invariant-loop-level : goal.invariant-loop-level
invariant-loop-level g l = record {
  climbs : (m : Records) (new : LineContent) →
      IsStale m new (records l.fn.store) l.fn.height l.fn.root l.fn.name l.fn.exchange.gone.now l.fn.exchange.more.now
      → (k : ℕ) → IsLineAt (lines_in m l.fn.height l.fn.root) k l.fn.name
      → Climbs m (records l.store) l.fn.height l.fn.root k (λ _. new) l.fn.exchange.gone.now l.fn.exchange.more.now
      l.level l.at;
  within : l.level ≤ l.fn.height;
  went : (m : Records) (new : LineContent) →
      IsStale m new (records l.fn.store) l.fn.height l.fn.root l.fn.name l.fn.exchange.gone.now l.fn.exchange.more.now
      → IsWithin l.fn.exchange.gone.now (total (lines_in m l.level l.at));
  spares : spares l.store ≡ spares l.fn.store;
  rooms : rooms l.store ≡ rooms l.fn.store;
}
