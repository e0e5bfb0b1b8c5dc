use Rattle.name_list.proofs.Common.{sym, subst, ◌∙◌, AreNames}
use Rattle.name_list.proofs.ViewLaws.{AreNames-kept, place_seen}
use Rattle.name_list.proofs.names.NameList.place.Goals as goal

pub returns-then-len-le-FEW_NAMES-clause-sound : goal.returns-then-len-le-FEW_NAMES-clause-sound
returns-then-len-le-FEW_NAMES-clause-sound c = subst AreNames c.self.view_is
    (AreNames-kept c.self.inside.numbers.entries c.self.inside.places.items c.self.inside.free c.self.inside.limit
    c.len.ensures.unique c.self.invariant)

pub returns-clause-value : goal.returns-clause-value
returns-clause-value c = rw (← c.self.view_is) (c.get_index_of.ensures.index
    ∙ sym (place_seen c.args.name.now c.utf8.name c.self.inside.numbers.entries))

pub returns-clause-sound : goal.returns-clause-sound
returns-clause-sound c = subst AreNames c.self.view_is
    (AreNames-kept c.self.inside.numbers.entries c.self.inside.places.items c.self.inside.free c.self.inside.limit
    c.get_index_of.ensures.unique c.self.invariant)
