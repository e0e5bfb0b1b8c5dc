use Rattle.raw_nodes.proofs.Common.{◌≡◌, ◌∙◌}
use Rattle.raw_nodes.proofs.NameLaws.{parent_said}
use Rattle.raw_nodes.proofs.StoreLaws.{place_of, read, used}
use Rattle.raw_nodes.proofs.store.NodeStore.parent.Goals as goal

pub node-requires : goal.node-requires
node-requires g c = place_of c.args.self.now c.args.name c.requires

pub returns-clause-value : goal.returns-clause-value
returns-clause-value g c =
    read c.args.self.now c.args.name c.requires c.node.ensures (λ r. c.name.result ≡ r.parent)
    (c.name.ensures ∙ parent_said c.node.result.now.held _ (used c.args.self.now c.args.name c.requires c.node.ensures))
