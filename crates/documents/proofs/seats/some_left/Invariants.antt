use Rattle.documents.proofs.Common.{◌≡◌, take, [], texts_of, seats_left}
use Rattle.documents.proofs.seats.some_left.Given as goal

abbrev pub invariant-loop-place : goal.invariant-loop-place
invariant-loop-place l = seats_left (texts_of l.names) (take l.place l.seats.entries) ≡ []
