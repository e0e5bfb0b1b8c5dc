use Rattle.raw_nodes.proofs.UpdateLaws.{inner-made, named-made, still-made, still-updated}
use Rattle.text_tests.proofs.nodes.links.Goals as goal

pub parent-requires : goal.parent-requires
parent-requires g c = still-made _ _ _ _ _ c.make-top.ensures.records (named-made _ _ _ _ c.make-below.ensures.records)

pub set_child-requires-clause-name : goal.set_child-requires-clause-name
set_child-requires-clause-name g c =
    (named-made _ _ _ _ c.make-top.ensures.records, inner-made _ _ _ c.make-top.ensures.records)

pub set_parent-requires : goal.set_parent-requires
set_parent-requires g c = still-updated _ _ _ _ _ c.set_child.ensures.records
    (still-made _ _ _ _ _ c.make-top.ensures.records (named-made _ _ _ _ c.make-below.ensures.records))

pub slot-requires : goal.slot-requires
slot-requires g c = still-updated _ _ _ _ _ c.set_parent.ensures.records
    (still-updated _ _ _ _ _ c.set_child.ensures.records
    (still-made _ _ _ _ _ c.make-top.ensures.records (named-made _ _ _ _ c.make-below.ensures.records)))

pub parent-requires-2 : goal.parent-requires-2
parent-requires-2 g c = still-updated _ _ _ _ _ c.set_parent.ensures.records
    (still-updated _ _ _ _ _ c.set_child.ensures.records
    (still-made _ _ _ _ _ c.make-top.ensures.records (named-made _ _ _ _ c.make-below.ensures.records)))

pub children-requires : goal.children-requires
children-requires g c = still-updated _ _ _ _ _ c.set_parent.ensures.records
    (still-updated _ _ _ _ _ c.set_child.ensures.records (named-made _ _ _ _ c.make-top.ensures.records))

pub child-requires-clause-name : goal.child-requires-clause-name
child-requires-clause-name g c = still-updated _ _ _ _ _ c.set_parent.ensures.records
    (still-updated _ _ _ _ _ c.set_child.ensures.records (named-made _ _ _ _ c.make-top.ensures.records))

pub child-requires-2-clause-name : goal.child-requires-2-clause-name
child-requires-2-clause-name g c = still-updated _ _ _ _ _ c.set_parent.ensures.records
    (still-updated _ _ _ _ _ c.set_child.ensures.records (named-made _ _ _ _ c.make-top.ensures.records))
