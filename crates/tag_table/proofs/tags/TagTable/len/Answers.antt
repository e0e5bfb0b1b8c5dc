use Rattle.tag_table.proofs.TagLaws.{AreTags-seen}
use Rattle.tag_table.proofs.tags.TagTable.len.Goals as goal

pub returns-clause-sound : goal.returns-clause-sound
returns-clause-sound c = AreTags-seen c.self.view_is c.len.ensures.sound c.self.invariant
