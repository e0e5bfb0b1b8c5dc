use Rattle.raw_nodes.proofs.UpdateLaws.{named-made}
use Rattle.text_tests.proofs.nodes.lines.Goals as goal

pub line-requires : goal.line-requires
line-requires g c = named-made _ _ _ _ c.make-name.ensures.records

pub give_back-given-requires : goal.give_back-given-requires
give_back-given-requires g c = named-made _ _ _ _ c.make-name.ensures.records

pub lines-requires : goal.lines-requires
lines-requires g c = named-made _ _ _ _ c.make-name.ensures.records

pub size-requires : goal.size-requires
size-requires g c = named-made _ _ _ _ c.make-name.ensures.records
