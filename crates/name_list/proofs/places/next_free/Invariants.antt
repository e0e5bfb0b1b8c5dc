use Rattle.name_list.proofs.Common.{◌≡◌, ℕ, ◌-◌, ◌<◌, ◌≤◌, true, length, is_taken}
use Rattle.name_list.proofs.places.next_free.Given as goal

abbrev pub invariant-loop-number : goal.invariant-loop-number
invariant-loop-number l = record {
  above : l.from ≤ l.number;
  within : l.number ≤ length l.places;
  taken : (number : ℕ) → l.from ≤ number → number < l.number → is_taken l.places number ≡ true;
}

abbrev pub decreases-loop-number : goal.decreases-loop-number
decreases-loop-number l = length l.places - l.number
