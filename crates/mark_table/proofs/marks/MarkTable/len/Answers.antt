use Rattle.mark_table.proofs.Common.{subst, AreMarks}
use Rattle.mark_table.proofs.MarkLaws.{AreMarks-kept}
use Rattle.mark_table.proofs.marks.MarkTable.len.Goals as goal

pub returns-clause-sound : goal.returns-clause-sound
returns-clause-sound c = subst AreMarks c.self.view_is
    (AreMarks-kept c.self.inside.names c.self.inside.gravities.items c.len.ensures.sound c.self.invariant)
