use Rattle.raw_nodes.proofs.Common.{refl}
use Rattle.raw_nodes.proofs.StoreLaws.{never_spare, place_of, says}
use Rattle.raw_nodes.proofs.store.NodeStore.size.Goals as goal

pub node-requires : goal.node-requires
node-requires g c = place_of c.args.self.now c.args.name c.requires

pub returns-in-Line-clause-value : goal.returns-in-Line-clause-value
returns-in-Line-clause-value g c =
    says c.args.self.now c.args.name c.requires c.node.ensures (λ r. (r.sum.lines, r.sum.characters)) c.in-Line.is
    (λ i. (1, c.len.ensures i))

pub returns-in-Inner-clause-value : goal.returns-in-Inner-clause-value
returns-in-Inner-clause-value g c =
    says c.args.self.now c.args.name c.requires c.node.ensures (λ r. (r.sum.lines, r.sum.characters)) c.in-Inner.is refl

pub returns-in-Spare-clause-value : goal.returns-in-Spare-clause-value
returns-in-Spare-clause-value g c =
    absurd (never_spare c.args.self.now c.args.name c.requires c.node.ensures c.in-Spare.is)
