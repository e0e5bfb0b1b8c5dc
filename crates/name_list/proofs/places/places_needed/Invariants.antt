use Rattle.name_list.proofs.Common.{◌≡◌, ℕ, ◌≤◌, false, length, is_taken}
use Rattle.name_list.proofs.places.places_needed.Given as goal

abbrev pub invariant-loop-needed : goal.invariant-loop-needed
invariant-loop-needed l = record {
  within : l.needed ≤ length l.places;
  free : (number : ℕ) → l.needed ≤ number → is_taken l.places number ≡ false;
}

abbrev pub decreases-loop-needed : goal.decreases-loop-needed
decreases-loop-needed l = l.needed
