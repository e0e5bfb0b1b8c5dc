use Rattle.name_list.proofs.Common.{◌∙◌, Some, ap, arith, length-set, map, slice_set, subst, sym, values_of, length-map}
use Rattle.name_list.proofs.Common.{map_push, AreKept, AreNames, named}
use Rattle.name_list.proofs.PlaceLaws.{free_below, AreKept-placed, AreKept-push}
use Rattle.name_list.proofs.ViewLaws.{AreNames-kept, entries-new, numbers_seen}
use Rattle.name_list.proofs.names.NameList.create.Goals as goal

pub overflow_cast-number : goal.overflow_cast-number
overflow_cast-number c =
    let inside = c.self.inside in
    let count = c.len-place.ensures.len ∙ sym (length-map inside.numbers.entries (λ e. e.1)) in
    let below = free_below _ inside.places.items inside.free c.len-place.result inside.limit c.self.invariant count
    c.if-place-self.false in
    let small = c.self.invariant.small in
    omega arith

pub invariant_of-self-in_err-insert : goal.invariant_of-self-in_err-insert
invariant_of-self-in_err-insert c =
    let inside = c.self.inside in
    let count = c.len-place.ensures.len ∙ sym (length-map inside.numbers.entries (λ e. e.1)) in
    let placed = AreKept-placed _ inside.places.items _ inside.free c.len-place.result inside.limit c.self.invariant
    count c.if-place-self.false c.in_ok-add_place.ensures.ok in
    subst (λ numbers. AreKept numbers c.add_place.new.places.items inside.free inside.limit)
    (sym (ap values_of c.in_err-insert.ensures.err)) placed.0

pub index_mut-requires : goal.index_mut-requires
index_mut-requires c =
    let inside = c.self.inside in
    let count = c.len-place.ensures.len ∙ sym (length-map inside.numbers.entries (λ e. e.1)) in
    let placed = AreKept-placed _ inside.places.items _ inside.free c.len-place.result inside.limit c.self.invariant
    count c.if-place-self.false c.in_ok-add_place.ensures.ok in
    omega arith

pub overflow_add-number : goal.overflow_add-number
overflow_add-number c =
    let inside = c.self.inside in
    let count = c.len-place.ensures.len ∙ sym (length-map inside.numbers.entries (λ e. e.1)) in
    let below = free_below _ inside.places.items inside.free c.len-place.result inside.limit c.self.invariant count
    c.if-place-self.false in
    let small = c.self.invariant.small in
    omega arith

pub next_free-self-inside-requires : goal.next_free-self-inside-requires
next_free-self-inside-requires c =
    let inside = c.self.inside in
    let count = c.len-place.ensures.len ∙ sym (length-map inside.numbers.entries (λ e. e.1)) in
    let placed = AreKept-placed _ inside.places.items _ inside.free c.len-place.result inside.limit c.self.invariant
    count c.if-place-self.false c.in_ok-add_place.ensures.ok in
    let within = placed.1 in
    omega (arith, c.deref.ensures.len)

pub invariant_of-self-2 : goal.invariant_of-self-2
invariant_of-self-2 c =
    let inside = c.self.inside in
    let count = c.len-place.ensures.len ∙ sym (length-map inside.numbers.entries (λ e. e.1)) in
    let placed = AreKept-placed _ inside.places.items _ inside.free c.len-place.result inside.limit c.self.invariant
    count c.if-place-self.false c.in_ok-add_place.ensures.ok in
    let next = c.next_free-self-inside.ensures in
    let added = entries-new inside.numbers c.insert.new.self.entries c.args.name inside.free _ c.args.self.now
    c.self.view_is c.requires c.in_ok-insert.ensures.entries in
    subst (λ numbers. AreKept numbers (slice_set c.add_place.new.places.items inside.free (Some c.len-place.result))
    c.next_free-self-inside.result inside.limit)
    (sym (ap values_of added ∙ map_push (λ e. e.1) inside.numbers.entries (c.args.name, inside.free)))
    (AreKept-push _ c.add_place.new.places.items inside.free c.next_free-self-inside.result c.len-place.result
    inside.limit placed.0 placed.1 (sym count) c.if-place-self.false next.above
    (rw (c.deref.ensures.value, length-set) at next.within)
    (rw c.deref.ensures.value at next.taken) (rw c.deref.ensures.value at next.free))

pub returns-clause-below : goal.returns-clause-below
returns-clause-below c =
    let inside = c.self.inside in
    let count = c.len-place.ensures.len ∙ sym (length-map inside.numbers.entries (λ e. e.1)) in
    rw (← c.self.view_is) (free_below _ inside.places.items inside.free c.len-place.result inside.limit
    c.self.invariant count c.if-place-self.false)

pub returns-clause-least : goal.returns-clause-least
returns-clause-least c = rw (← c.self.view_is) (rw numbers_seen c.self.invariant.least)

pub returns-clause-last : goal.returns-clause-last
returns-clause-last c =
    let inside = c.self.inside in
    let added = entries-new inside.numbers c.insert.new.self.entries c.args.name inside.free _ c.args.self.now
    c.self.view_is c.requires c.in_ok-insert.ensures.entries in
    rw (← c.self.view_is) (ap (λ entries. record { entries = entries; limit = inside.limit }) (ap (map named) added
    ∙ map_push named inside.numbers.entries (c.args.name, inside.free)))

pub returns-then-place-self-clause-sound : goal.returns-then-place-self-clause-sound
returns-then-place-self-clause-sound c = subst AreNames c.self.view_is
    (AreNames-kept c.self.inside.numbers.entries c.self.inside.places.items c.self.inside.free c.self.inside.limit
    c.len-place.ensures.unique c.self.invariant)

pub returns-clause-sound : goal.returns-clause-sound
returns-clause-sound c = AreNames-kept c.insert.new.self.entries _ _ c.self.inside.limit c.in_ok-insert.ensures.unique
    (invariant_of-self-2 c)
