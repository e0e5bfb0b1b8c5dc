use Rattle.raw_nodes.proofs.UpdateLaws.{named-made}
use Rattle.text_tests.proofs.nodes.a_line_to_change.Goals as goal

pub line_mut-requires : goal.line_mut-requires
line_mut-requires g c = named-made _ _ _ _ c.make-name.ensures.records
