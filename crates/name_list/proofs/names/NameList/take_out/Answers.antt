use Rattle.name_list.proofs.Common.{◌≡◌, None, length, sym, ap, ◌∙◌, subst, slice_get, slice_set, map, length-set}
use Rattle.name_list.proofs.Common.{arith, values_of, option_map, slice_get-map, slice_get_within, AreApart, AreKept}
use Rattle.name_list.proofs.Common.{IsIndex, IsIndexTo, named}
use Rattle.name_list.proofs.ListLaws.{AreApart-remove, get_remove, before_removal}
use Rattle.name_list.proofs.PlaceLaws.{AreApart-index, within_index, IsIndexTo-remove, AreKept-remove, whole_written}
use Rattle.name_list.proofs.ViewLaws.{map-remove}
use Rattle.name_list.proofs.names.NameList.take_out.Goals as goal

pub index_mut-requires : goal.index_mut-requires
index_mut-requires c =
    let inside = c.self.inside in
    let here = slice_get-map (λ e. e.1) inside.numbers.entries c.args.place
    ∙ ap (option_map (λ e. e.1)) (sym c.shift_remove_index.ensures.entry ∙ c.unwrap-number.ensures) in
    let below = within_index _ inside.places.items c.self.invariant.index c.args.place _ here in
    omega (arith, inside.places.ok.0)

pub note_places-requires-clause-apart : goal.note_places-requires-clause-apart
note_places-requires-clause-apart c =
    let inside = c.self.inside in
    let here = slice_get-map (λ e. e.1) inside.numbers.entries c.args.place
    ∙ ap (option_map (λ e. e.1)) (sym c.shift_remove_index.ensures.entry ∙ c.unwrap-number.ensures) in
    let removed = ap values_of c.shift_remove_index.ensures.entries
    ∙ map-remove (λ e. e.1) inside.numbers.entries c.args.place in
    subst AreApart (sym removed) (AreApart-remove _ c.args.place (slice_get_within _ c.args.place _ here)
    (AreApart-index _ inside.places.items c.self.invariant.index))

pub note_places-requires-clause-within : goal.note_places-requires-clause-within
note_places-requires-clause-within c = λ at number is.
    let inside = c.self.inside in
    let here = slice_get-map (λ e. e.1) inside.numbers.entries c.args.place
    ∙ ap (option_map (λ e. e.1)) (sym c.shift_remove_index.ensures.entry ∙ c.unwrap-number.ensures) in
    let removed = ap values_of c.shift_remove_index.ensures.entries
    ∙ map-remove (λ e. e.1) inside.numbers.entries c.args.place in
    let old = sym (get_remove _ c.args.place at (slice_get_within _ c.args.place _ here))
    ∙ ap (λ ns. slice_get ns at) (sym removed) ∙ is in
    rw (c.deref_mut.ensures.value, length-set)
    (within_index _ inside.places.items c.self.invariant.index (before_removal c.args.place at) number old)

pub note_places-requires-clause-front : goal.note_places-requires-clause-front
note_places-requires-clause-front c =
    let inside = c.self.inside in
    let here = slice_get-map (λ e. e.1) inside.numbers.entries c.args.place
    ∙ ap (option_map (λ e. e.1)) (sym c.shift_remove_index.ensures.entry ∙ c.unwrap-number.ensures) in
    let removed = ap values_of c.shift_remove_index.ensures.entries
    ∙ map-remove (λ e. e.1) inside.numbers.entries c.args.place in
    rw c.deref_mut.ensures.value
    (subst (λ ns. IsIndexTo ns c.args.place (slice_set inside.places.items c.unwrap-number.result.1 None))
    (sym removed) (IsIndexTo-remove _ inside.places.items c.args.place _ c.self.invariant.index here))

pub invariant_of-self : goal.invariant_of-self
invariant_of-self c =
    let inside = c.self.inside in
    let here = slice_get-map (λ e. e.1) inside.numbers.entries c.args.place
    ∙ ap (option_map (λ e. e.1)) (sym c.shift_remove_index.ensures.entry ∙ c.unwrap-number.ensures) in
    let removed = ap values_of c.shift_remove_index.ensures.entries
    ∙ map-remove (λ e. e.1) inside.numbers.entries c.args.place in
    let freed = slice_set inside.places.items c.unwrap-number.result.1 None in
    let count = length-set inside.places.items c.unwrap-number.result.1 None in
    let same : length c.note_places.new.places ≡ length freed = c.note_places.auto.places
    ∙ ap length c.deref_mut.ensures.value in
    rw (whole_written freed c.note_places.new.places inside.places.len same (omega (arith, inside.places.ok.0, count)))
    (subst (λ ns. AreKept ns c.note_places.new.places c.min-self-inside.result inside.limit) (sym removed)
    (AreKept-remove _ inside.places.items c.note_places.new.places c.args.place _ inside.free c.min-self-inside.result
    inside.limit c.self.invariant here (subst (λ ns. IsIndex ns c.note_places.new.places) removed c.note_places.ensures) (same
    ∙ count) c.min-self-inside.ensures))

pub returns : goal.returns
returns c =
    let inside = c.self.inside in
    rw (← c.self.view_is) (ap (λ entries. record { entries = entries; limit = inside.limit })
    (ap (map named) c.shift_remove_index.ensures.entries ∙ map-remove named inside.numbers.entries c.args.place))
