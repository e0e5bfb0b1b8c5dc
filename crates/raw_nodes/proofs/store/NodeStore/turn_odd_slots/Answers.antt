use Rattle.raw_nodes.proofs.Common.{ap, ◌∙◌}
use Rattle.text_model.specs.SlotSets.{differing}
use Rattle.raw_nodes.proofs.StoreLaws.{never_spare, place_of, says}
use Rattle.raw_nodes.proofs.store.NodeStore.turn_odd_slots.Goals as goal

pub node-requires : goal.node-requires
node-requires g c = place_of c.args.self.now c.args.name c.requires

pub returns-in-Line-clause-value : goal.returns-in-Line-clause-value
returns-in-Line-clause-value g c =
    says c.args.self.now c.args.name c.requires c.node.ensures (λ r. differing c.args.slots.now r.sum.parity)
    c.in-Line.is
    c.turn_odd_slots.ensures

pub returns-in-Inner-clause-value : goal.returns-in-Inner-clause-value
returns-in-Inner-clause-value g c =
    says c.args.self.now c.args.name c.requires c.node.ensures (λ r. differing c.args.slots.now r.sum.parity)
    c.in-Inner.is
    (c.turn_odd_slots-in-Inner.ensures ∙ ap (λ z. differing c.args.slots.now z.toggles.parity) c.deref.ensures)

pub returns-in-Spare-clause-value : goal.returns-in-Spare-clause-value
returns-in-Spare-clause-value g c =
    absurd (never_spare c.args.self.now c.args.name c.requires c.node.ensures c.in-Spare.is)
