use Rattle.documents.proofs.Common.{◌≡◌, ◌+◌, ◌++◌, ◌∷◌, ◌<◌, List, [], arith, map, take, subst, sym, ap, ◌∙◌, chars}
use Rattle.documents.proofs.Common.{All, map-append, All-append, All-cons, All-nil, texts_of, TagSlot, MOST_WIDGETS}
use Rattle.documents.proofs.Common.{numbers_gone}
use Rattle.documents.proofs.SeatLaws.{gone-in, gone-out}
use Rattle.documents.proofs.seats.slots_named.Goals.{then-is_among+in_ok-push, else-is_among}
use Rattle.documents.proofs.seats.slots_named.Goals as goal

pub loop-place-preserved : goal.loop-place-preserved
loop-place-preserved c =
    let seats = c.args.seats.now.entries in
    let names = texts_of c.args.names.now in
    let place = c.loop-place.place in
    let name = chars c.name.result.now in
    let before = c.loop-place.slots.items in
    let Below : TagSlot → Type 0 = λ slot. slot.0 < MOST_WIDGETS in
    let P : List TagSlot → Type 0 = λ slots. (map (λ (slot : TagSlot). slot.0) slots
    ≡ numbers_gone names (take (place + 1) seats)) × All (λ (slot : TagSlot). slot.0 < MOST_WIDGETS) slots in
    elim c.if-is_among.branch [
      | then-is_among+in_ok-push w ↦
          let slot : TagSlot = record { 0 = w.number.result } in
          let more = gone-in seats names place slot.0 name c.name.ensures w.number.ensures.value (sym c.is_among.ensures
          ∙ w.if-is_among.true) in
          let below : slot.0 < MOST_WIDGETS = (let b = w.number.ensures.below in let l = c.requires in
          omega (arith, b, l)) in
          subst P (sym w.in_ok-push.ensures.items ∙ sym (ap (λ v. v.items) w.slots-is)) (
            map-append (λ (s : TagSlot). s.0) before (slot ∷ []) ∙ ap (λ ns. ns ++ slot.0 ∷ []) c.loop-place.invariant.0
                ∙ sym more,
            All-append Below before (slot ∷ []) c.loop-place.invariant.1 (All-cons Below slot [] below (All-nil Below)),
          )
      | else-is_among w ↦
          subst P (sym (ap (λ v. v.items) w.slots-is)) (
            c.loop-place.invariant.0
                ∙ sym (gone-out seats names place name c.name.ensures (sym c.is_among.ensures ∙ w.if-is_among.false)),
            c.loop-place.invariant.1,
          )
    ]
