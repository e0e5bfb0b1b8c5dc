use Rattle.name_list.proofs.Common.{None, Some, sym, ap, ◌∙◌, none-some, same_Some, slice_get_past, slice_get-get_or}
use Rattle.name_list.proofs.Common.{MatchOption-at_none}
use Rattle.name_list.proofs.PlaceLaws.{unnoted}
use Rattle.name_list.proofs.ViewLaws.{numbers_seen}
use Rattle.name_list.proofs.names.NameList.place_with.Goals as goal

pub returns-in_err-place-clause-value : goal.returns-in_err-place-clause-value
returns-in_err-place-clause-value c =
    let past = MatchOption-at_none _ _ (c.in_err-place.was {u = tt}) c.get.ensures.lookup.3 in
    let none = slice_get_past c.self.inside.places.items c.args.number (rw c.deref.ensures.value at past) in
    rw (c.from_residual.ensures, ← c.self.view_is, numbers_seen)
    (unnoted _ c.self.inside.places.items c.args.number c.self.invariant.index (λ at is. none-some _ (sym none ∙ is)))

pub returns-in_err-place-2-clause-value : goal.returns-in_err-place-2-clause-value
returns-in_err-place-2-clause-value c =
    let found = c.in_ok-place.ensures.lookup in
    let read = slice_get-get_or c.deref.result.now c.args.number None found.3.0
    ∙ ap (λ p. Some p) (sym (found.3.1 None) ∙ c.in_err-place-2.was {u = tt}) in
    let free = rw c.deref.ensures.value at read in
    rw (c.from_residual-in_err-place-2.ensures, ← c.self.view_is, numbers_seen)
    (unnoted _ c.self.inside.places.items c.args.number c.self.invariant.index (λ at is.
    none-some _ (same_Some _ _ (sym free ∙ is))))

pub returns-clause-value : goal.returns-clause-value
returns-clause-value c =
    let found = c.in_ok-place.ensures.lookup in
    let read = slice_get-get_or c.deref.result.now c.args.number None found.3.0
    ∙ ap (λ p. Some p) (sym (found.3.1 None) ∙ c.in_ok-place-2.was {u = tt}) in
    let noted = rw c.deref.ensures.value at read in
    rw (← c.self.view_is, numbers_seen) (c.self.invariant.index.there _ c.args.number noted)

pub returns-clause-only : goal.returns-clause-only
returns-clause-only c =
    let found = c.in_ok-place.ensures.lookup in
    let read = slice_get-get_or c.deref.result.now c.args.number None found.3.0
    ∙ ap (λ p. Some p) (sym (found.3.1 None) ∙ c.in_ok-place-2.was {u = tt}) in
    let noted = rw c.deref.ensures.value at read in
    rw (← c.self.view_is, numbers_seen) (λ other is. same_Some _ _ (same_Some _ _
    (sym (c.self.invariant.index.placed other c.args.number is) ∙ noted)))
