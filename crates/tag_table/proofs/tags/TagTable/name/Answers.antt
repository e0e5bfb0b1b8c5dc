use Rattle.tag_table.proofs.TagLaws.{names_seen}
use Rattle.tag_table.proofs.tags.TagTable.name.Goals as goal

pub returns : goal.returns
returns c = rw (← c.self.view_is) (rw (names_seen c.self.inside.names.entries) c.name.ensures)
