use Rattle.raw_nodes.proofs.UpdateLaws.{named-made}
use Rattle.text_tests.proofs.nodes.marks_and_toggles.Goals as goal

pub marks-requires : goal.marks-requires
marks-requires g c = named-made _ _ _ _ c.make-name.ensures.records

pub has_toggle-requires-clause-name : goal.has_toggle-requires-clause-name
has_toggle-requires-clause-name g c = named-made _ _ _ _ c.make-name.ensures.records

pub is_odd-requires-clause-name : goal.is_odd-requires-clause-name
is_odd-requires-clause-name g c = named-made _ _ _ _ c.make-name.ensures.records

pub turn_odd_slots-requires : goal.turn_odd_slots-requires
turn_odd_slots-requires g c = named-made _ _ _ _ c.make-name.ensures.records

pub is_bare-requires : goal.is_bare-requires
is_bare-requires g c = named-made _ _ _ _ c.make-name.ensures.records
