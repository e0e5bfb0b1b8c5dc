use Rattle.raw_nodes.proofs.Common.{CountsFit, plus, record_in, link_name, subst}
use Rattle.raw_nodes.proofs.StoreLaws.{never_spare, place_of, says, told}
use Rattle.raw_nodes.proofs.store.NodeStore.add_sum_to.Goals as goal

pub node-requires : goal.node-requires
node-requires g c = place_of c.args.self.now c.args.name c.requires.name

pub returns-in-Line-clause-value : goal.returns-in-Line-clause-value
returns-in-Line-clause-value g c =
    says c.args.self.now c.args.name c.requires.name c.node.ensures (λ r. plus c.args.sum.now r.sum) c.in-Line.is
    c.add_to.ensures

pub returns-in-Inner-clause-value : goal.returns-in-Inner-clause-value
returns-in-Inner-clause-value g c =
    says c.args.self.now c.args.name c.requires.name c.node.ensures (λ r. plus c.args.sum.now r.sum) c.in-Inner.is
    c.add_to-in-Inner.ensures

pub returns-in-Spare-clause-value : goal.returns-in-Spare-clause-value
returns-in-Spare-clause-value g c =
    absurd (never_spare c.args.self.now c.args.name c.requires.name c.node.ensures c.in-Spare.is)

pub add_to-requires : goal.add_to-requires
add_to-requires g c =
    subst (λ held. CountsFit c.args.sum.now (record_in held (link_name c.node.result.now.parent)).sum) c.in-Line.is
    (told c.args.self.now c.args.name c.requires.name c.node.ensures (λ r. CountsFit c.args.sum.now r.sum)
    c.requires.fits)

pub add_to-requires-in-Inner : goal.add_to-requires-in-Inner
add_to-requires-in-Inner g c =
    subst (λ held. CountsFit c.args.sum.now (record_in held (link_name c.node.result.now.parent)).sum) c.in-Inner.is
    (told c.args.self.now c.args.name c.requires.name c.node.ensures (λ r. CountsFit c.args.sum.now r.sum)
    c.requires.fits)
