use Rattle.mark_table.proofs.Common.{◌≡◌, ◌-◌, ◌<◌, ◌≤◌, ℕ, Some, length, slice_get, MarkNo, marks_at, numbers_of, IsAt}
use Rattle.mark_table.proofs.marks.MarkTable.first_at.Given as goal

abbrev pub invariant-loop-number : goal.invariant-loop-number
invariant-loop-number g l = record {
  within : l.first ≤ length l.self.marks;
  found : l.first < length l.self.marks → (l.from ≤ l.first)
      × IsAt (marks_at l.offset (g.S.TextStore.content l.store).marks) (numbers_of l.self.marks) l.first;
  least : (index place : ℕ) (number : MarkNo) → index < l.index →
      slice_get (marks_at l.offset (g.S.TextStore.content l.store).marks) index ≡ Some number
      → slice_get (numbers_of l.self.marks) place ≡ Some number.0 → l.from ≤ place → l.first ≤ place;
  reached : l.from ≤ l.place;
  none : (place : ℕ) → l.from ≤ place → place < l.place →
      ¬ IsAt (marks_at l.offset (g.S.TextStore.content l.store).marks) (numbers_of l.self.marks) place;
}

abbrev pub decreases-loop-number : goal.decreases-loop-number
decreases-loop-number g l = length (marks_at l.offset (g.S.TextStore.content l.store).marks) - l.index
