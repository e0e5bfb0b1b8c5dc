use Rattle.search_dump.proofs.Common.{ℕ, ◌⊎◌, ◌<◌, ◌≡◌, length, slots_of, slot_of_row, turned_at, AreKept, IsApart}
use Rattle.search_dump.proofs.TurnLaws.{IsEither}
use Rattle.std.specs.FinSet as set
use Rattle.search_dump.proofs.tag_changes.TagChanges.turned.Given as goal

abbrev pub invariant-loop-at : goal.invariant-loop-at
invariant-loop-at l =
    let slots = slots_of l.names.tags.now.tags in
    let rows = length l.names.tags.now.tags in
    record {
      turned : (change : ℕ → ℕ) → AreKept change l.names.widget.0 slots rows l.self.next.items →
          (at : ℕ) → at < rows → IsApart l.fn.rows at ⊎ (at < l.at)
          → set.contains l.turned (slot_of_row l.names.widget.0 slots at)
          ≡ turned_at change l.place l.tags (slot_of_row l.names.widget.0 slots at);
      either : (change : ℕ → ℕ) → AreKept change l.names.widget.0 slots rows l.self.next.items →
          (q : ℕ) → IsEither change l.place l.tags l.turned q;
    }
