use Rattle.raw_nodes.proofs.Common.{ap, ◌∙◌}
use Rattle.raw_nodes.proofs.StoreLaws.{never_spare, place_of, says}
use Rattle.std.specs.FinSet as set
use Rattle.raw_nodes.proofs.store.NodeStore.is_odd.Goals as goal

pub node-requires : goal.node-requires
node-requires g c = place_of c.args.self.now c.args.name c.requires.name

pub returns-in-Line-clause-value : goal.returns-in-Line-clause-value
returns-in-Line-clause-value g c =
    says c.args.self.now c.args.name c.requires.name c.node.ensures (λ r. set.contains r.sum.parity c.args.slot.0)
    c.in-Line.is
    c.is_odd.ensures

pub returns-in-Inner-clause-value : goal.returns-in-Inner-clause-value
returns-in-Inner-clause-value g c =
    says c.args.self.now c.args.name c.requires.name c.node.ensures (λ r. set.contains r.sum.parity c.args.slot.0)
    c.in-Inner.is
    (c.parity.ensures ∙ ap (λ z. set.contains z.toggles.parity c.args.slot.0) c.deref.ensures)

pub returns-in-Spare-clause-value : goal.returns-in-Spare-clause-value
returns-in-Spare-clause-value g c =
    absurd (never_spare c.args.self.now c.args.name c.requires.name c.node.ensures c.in-Spare.is)
