use Rattle.documents.proofs.Common.{◌<◌, length, sym, ◌∙◌, arith, chars, nat_tests, texts_of, seats_left}
use Rattle.documents.proofs.SeatLaws.{left-out, left-some}
use Rattle.documents.proofs.seats.some_left.Goals as goal

pub returns-then-not-is_among : goal.returns-then-not-is_among
returns-then-not-is_among c =
    let some : 0 < length (seats_left (texts_of c.args.names.now) c.args.seats.now.entries) =
    left-some c.args.seats.now.entries (texts_of c.args.names.now) c.loop-place.place (chars c.name.result.now)
    c.name.ensures (sym c.is_among.ensures ∙ c.if-not-is_among.true) in
    grind (arith, nat_tests, some)

pub loop-place-preserved : goal.loop-place-preserved
loop-place-preserved c =
    left-out c.args.seats.now.entries (texts_of c.args.names.now) c.loop-place.place (chars c.name.result.now)
    c.name.ensures (sym c.is_among.ensures ∙ c.if-not-is_among.false)
    ∙ c.loop-place.invariant
