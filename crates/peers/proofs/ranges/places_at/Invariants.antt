use Rattle.peers.proofs.Common.{◌≡◌, ℕ, ◌≤◌, length, All, shown, widget_at}
use Rattle.peers.proofs.PlaceLaws.{Found}
use Rattle.peers.proofs.ranges.places_at.Given as goal

abbrev pub invariant-loop-index : goal.invariant-loop-index
invariant-loop-index g l = record {
  same : l.document ≡ l.initial.document;
  found : Found l.initial.document (widget_at l.initial.document l.seat) l.position l.words l.index l.places.items;
  within : All (λ (place : ℕ). place ≤ length (shown l.initial.document (widget_at l.initial.document l.seat)))
      l.places.items;
}
