use Rattle.documents.proofs.Common.{◌≡◌, ◌-◌, length, texts_of, seats_left}
use Rattle.documents.proofs.SeatLaws.{left_from}
use Rattle.documents.proofs.seats.remove_seats.Given as goal

abbrev pub invariant-loop-place : goal.invariant-loop-place
invariant-loop-place l =
    (left_from (texts_of l.names) l.place l.seats.entries ≡ seats_left (texts_of l.names) l.fn.seats.entries)
    × (l.seats.limit ≡ l.fn.seats.limit)

abbrev pub decreases-loop-place : goal.decreases-loop-place
decreases-loop-place l = length l.seats.entries - l.place
