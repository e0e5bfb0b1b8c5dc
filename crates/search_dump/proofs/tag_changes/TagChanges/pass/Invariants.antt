use Rattle.search_dump.proofs.Common.{outlook, AreAhead, IsKnown, ℕ, ◌<◌, ◌⊎◌, length, IsApart}
use Rattle.search_dump.proofs.tag_changes.TagChanges.pass.Given as goal

abbrev pub invariant-loop-at : goal.invariant-loop-at
invariant-loop-at g l = record {
  known : (k : ℕ) → k < length l.sight.names.now.tags.now.tags → IsApart l.fn.rows k ⊎ (k < l.at) →
      IsKnown (outlook l.sight) l.place l.self.next.items k;
  ahead : AreAhead (outlook l.sight) l.place l.self.next.items;
}
