use Rattle.mark_table.proofs.Common.{◌≡◌, ◌-◌, ◌<◌, ◌≤◌, ℕ, Some, length, slice_get, MarkNo, marks_at, numbers_of, IsAt}
use Rattle.mark_table.proofs.marks.MarkTable.last_at.Given as goal

abbrev pub invariant-loop-number : goal.invariant-loop-number
invariant-loop-number g l = record {
  found : 0 < l.places → (l.places ≤ l.upto)
      × IsAt (marks_at l.offset (g.S.TextStore.content l.store).marks) (numbers_of l.self.marks) (l.places - 1);
  greatest : (index place : ℕ) (number : MarkNo) → index < l.index →
      slice_get (marks_at l.offset (g.S.TextStore.content l.store).marks) index ≡ Some number
      → slice_get (numbers_of l.self.marks) place ≡ Some number.0 → place < l.upto → place < l.places;
  none : (place : ℕ) → l.near ≤ place → place < l.upto →
      ¬ IsAt (marks_at l.offset (g.S.TextStore.content l.store).marks) (numbers_of l.self.marks) place;
  short : l.near ≤ l.upto;
  under : l.near ≤ length l.self.marks;
}

abbrev pub decreases-loop-number : goal.decreases-loop-number
decreases-loop-number g l = length (marks_at l.offset (g.S.TextStore.content l.store).marks) - l.index
