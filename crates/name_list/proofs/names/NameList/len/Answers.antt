use Rattle.name_list.proofs.Common.{subst, AreNames}
use Rattle.name_list.proofs.ViewLaws.{AreNames-kept}
use Rattle.name_list.proofs.names.NameList.len.Goals as goal

pub returns-clause-sound : goal.returns-clause-sound
returns-clause-sound c = subst AreNames c.self.view_is
    (AreNames-kept c.self.inside.numbers.entries c.self.inside.places.items c.self.inside.free c.self.inside.limit c.len.ensures.unique
    c.self.invariant)
