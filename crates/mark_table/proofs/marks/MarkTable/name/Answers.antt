use Rattle.mark_table.proofs.MarkLaws.{names_seen}
use Rattle.mark_table.proofs.marks.MarkTable.name.Goals as goal

pub returns : goal.returns
returns c =
    rw (← c.self.view_is) (rw (names_seen c.self.inside.gravities.items c.self.inside.names.entries) c.name.ensures)
