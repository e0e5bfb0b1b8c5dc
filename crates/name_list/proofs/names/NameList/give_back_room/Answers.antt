use Rattle.name_list.proofs.Common.{ap, subst, sym, values_of, AreKept}
use Rattle.name_list.proofs.PlaceLaws.{AreKept-trimmed}
use Rattle.name_list.proofs.ViewLaws.{AreNames-kept}
use Rattle.name_list.proofs.names.NameList.give_back_room.Goals as goal

pub invariant_of-self : goal.invariant_of-self
invariant_of-self c =
    let inside = c.self.inside in
    subst (λ numbers. AreKept numbers c.give_back_places.new.places.items inside.free inside.limit)
    (sym (ap values_of c.shrink_to.ensures.entries))
    (AreKept-trimmed _ inside.places.items c.give_back_places.new.places.items inside.free inside.limit c.self.invariant
    c.give_back_places.ensures)

pub invariant_of-self-else-len-saturating_sub : goal.invariant_of-self-else-len-saturating_sub
invariant_of-self-else-len-saturating_sub c =
    let inside = c.self.inside in
    AreKept-trimmed _ inside.places.items c.give_back_places.new.places.items inside.free inside.limit c.self.invariant
    c.give_back_places.ensures

pub returns-then-len-saturating_sub-clause-sound : goal.returns-then-len-saturating_sub-clause-sound
returns-then-len-saturating_sub-clause-sound c =
    AreNames-kept c.shrink_to.new.self.entries _ _ c.self.inside.limit
    (rw c.shrink_to.ensures.entries c.len-len.ensures.unique) (invariant_of-self c)

pub returns-else-len-saturating_sub-clause-sound : goal.returns-else-len-saturating_sub-clause-sound
returns-else-len-saturating_sub-clause-sound c =
    AreNames-kept c.self.inside.numbers.entries _ _ c.self.inside.limit c.len-len.ensures.unique
    (invariant_of-self-else-len-saturating_sub c)
