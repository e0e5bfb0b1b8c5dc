use Rattle.peers.proofs.Common.{ℕ, ◌≤◌, length, string_bytes, All, shown, widget_at}
use Rattle.peers.proofs.GotLaws.{AreGot}
use Rattle.peers.proofs.texts.got_list.Given as goal

abbrev pub invariant-loop-rest : goal.invariant-loop-rest
invariant-loop-rest g l = record {
  got : AreGot l.document (widget_at l.document l.seat) l.fn.places l.rest (string_bytes l.initial.list)
      (string_bytes l.list);
  within : All (λ (place : ℕ). place ≤ length (shown l.document (widget_at l.document l.seat))) l.rest;
}

abbrev pub decreases-loop-rest : goal.decreases-loop-rest
decreases-loop-rest g l = length l.rest
