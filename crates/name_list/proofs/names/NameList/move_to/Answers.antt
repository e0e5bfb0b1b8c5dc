use Rattle.name_list.proofs.Common.{◌≡◌, length, sym, ap, ◌∙◌, subst, slice_get, map, arith, values_of, AreApart}
use Rattle.name_list.proofs.Common.{AreKept, IsIndex, IsIndexTo, named}
use Rattle.name_list.proofs.PlaceLaws.{AreApart-index, AreApart-move, within_index, stood_before_move, IsIndexTo-move}
use Rattle.name_list.proofs.PlaceLaws.{AreKept-move, whole_written}
use Rattle.name_list.proofs.ViewLaws.{AreNames-kept, map-move_index, number_at}
use Rattle.name_list.proofs.names.NameList.move_to.Goals as goal

pub note_places-requires-clause-apart : goal.note_places-requires-clause-apart
note_places-requires-clause-apart c =
    let inside = c.self.inside in
    let from = number_at inside.numbers.entries _ c.args.self.now c.args.from c.self.view_is c.requires.from in
    let to = number_at inside.numbers.entries _ c.args.self.now c.args.to c.self.view_is c.requires.to in
    let moved = ap values_of c.move_index.ensures.entries
    ∙ map-move_index (λ e. e.1) inside.numbers.entries c.args.from c.args.to in
    subst AreApart (sym moved) (AreApart-move _ c.args.from c.args.to _ from.1 to.0
    (AreApart-index _ inside.places.items c.self.invariant.index))

pub note_places-requires-clause-within : goal.note_places-requires-clause-within
note_places-requires-clause-within c = λ at number is.
    let inside = c.self.inside in
    let from = number_at inside.numbers.entries _ c.args.self.now c.args.from c.self.view_is c.requires.from in
    let to = number_at inside.numbers.entries _ c.args.self.now c.args.to c.self.view_is c.requires.to in
    let moved = ap values_of c.move_index.ensures.entries
    ∙ map-move_index (λ e. e.1) inside.numbers.entries c.args.from c.args.to in
    let old = stood_before_move _ c.args.from c.args.to _ from.1 to.0 number (
      at,
      ap (λ ns. slice_get ns at) (sym moved)
          ∙ is,
    ) in
    rw c.deref_mut.ensures.value (within_index _ inside.places.items c.self.invariant.index old.0 number old.1)

pub note_places-requires-clause-front : goal.note_places-requires-clause-front
note_places-requires-clause-front c =
    let inside = c.self.inside in
    let from = number_at inside.numbers.entries _ c.args.self.now c.args.from c.self.view_is c.requires.from in
    let to = number_at inside.numbers.entries _ c.args.self.now c.args.to c.self.view_is c.requires.to in
    let moved = ap values_of c.move_index.ensures.entries
    ∙ map-move_index (λ e. e.1) inside.numbers.entries c.args.from c.args.to in
    rw c.deref_mut.ensures.value (subst (λ ns. IsIndexTo ns 0 inside.places.items) (sym moved)
    (IsIndexTo-move _ c.args.from c.args.to _ from.1 to.0 inside.places.items c.self.invariant.index))

pub invariant_of-self : goal.invariant_of-self
invariant_of-self c =
    let inside = c.self.inside in
    let from = number_at inside.numbers.entries _ c.args.self.now c.args.from c.self.view_is c.requires.from in
    let to = number_at inside.numbers.entries _ c.args.self.now c.args.to c.self.view_is c.requires.to in
    let moved = ap values_of c.move_index.ensures.entries
    ∙ map-move_index (λ e. e.1) inside.numbers.entries c.args.from c.args.to in
    let same : length c.note_places.new.places ≡ length inside.places.items = c.note_places.auto.places
    ∙ ap length c.deref_mut.ensures.value in
    rw (whole_written inside.places.items c.note_places.new.places inside.places.len same
    (omega (arith, inside.places.ok.0)))
    (subst (λ ns. AreKept ns c.note_places.new.places inside.free inside.limit) (sym moved)
    (AreKept-move _ inside.places.items c.note_places.new.places c.args.from c.args.to _ inside.free inside.limit
    c.self.invariant from.1 to.0 (subst (λ ns. IsIndex ns c.note_places.new.places) moved c.note_places.ensures) same))

pub returns-clause-value : goal.returns-clause-value
returns-clause-value c =
    let inside = c.self.inside in
    rw (← c.self.view_is) (ap (λ entries. record { entries = entries; limit = inside.limit })
    (ap (map named) c.move_index.ensures.entries
    ∙ map-move_index named inside.numbers.entries c.args.from c.args.to))

pub returns-clause-sound : goal.returns-clause-sound
returns-clause-sound c = AreNames-kept c.move_index.new.self.entries _ _ c.self.inside.limit
    c.move_index.ensures.unique (invariant_of-self c)
