use Rattle.raw_nodes.proofs.Common.{◌≡◌, ◌∙◌}
use Rattle.raw_nodes.proofs.NameLaws.{slot_said}
use Rattle.raw_nodes.proofs.StoreLaws.{place_of, read, used}
use Rattle.raw_nodes.proofs.store.NodeStore.slot.Goals as goal

pub node-requires : goal.node-requires
node-requires g c = place_of c.args.self.now c.args.name c.requires

pub returns : goal.returns
returns g c =
    read c.args.self.now c.args.name c.requires c.node.ensures (λ r. c.slot.result ≡ r.slot)
    (c.slot.ensures ∙ slot_said c.node.result.now.held _ (used c.args.self.now c.args.name c.requires c.node.ensures))
