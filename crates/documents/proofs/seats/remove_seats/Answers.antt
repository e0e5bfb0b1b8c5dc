use Rattle.documents.proofs.Common.{sym, ap, ◌∙◌, chars, Names, texts_of}
use Rattle.documents.proofs.SeatLaws.{left_from, left-kept, left-removed}
use Rattle.documents.proofs.seats.remove_seats.Goals as goal

pub loop-place-preserved-then-is_among : goal.loop-place-preserved-then-is_among
loop-place-preserved-then-is_among c =
    let names = texts_of c.args.names.now in
    let place = c.loop-place.place in
    let seats = c.loop-place.seats.entries in (
      ap (λ (s : Names). left_from names place s.entries) c.remove.ensures.value
          ∙ left-removed seats names place (chars c.name.result.now) c.name.ensures (sym c.is_among.ensures
          ∙ c.if-is_among.true) ∙ c.loop-place.invariant.0,
      ap (λ (s : Names). s.limit) c.remove.ensures.value ∙ c.loop-place.invariant.1,
    )

pub loop-place-preserved : goal.loop-place-preserved
loop-place-preserved c =
    let names = texts_of c.args.names.now in
    let place = c.loop-place.place in
    let seats = c.loop-place.seats.entries in (
      left-kept seats names place (chars c.name.result.now) c.name.ensures (sym c.is_among.ensures
          ∙ c.if-is_among.false) ∙ c.loop-place.invariant.0,
      c.loop-place.invariant.1,
    )
