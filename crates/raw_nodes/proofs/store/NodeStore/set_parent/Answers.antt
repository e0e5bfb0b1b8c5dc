use Rattle.raw_nodes.proofs.Common.{ap, refl, ◌∙◌, is_used, link_name, record_in, room_in, with_parent, with_slot}
use Rattle.raw_nodes.specs.Names.{records}
use Rattle.raw_nodes.proofs.NameLaws.{parented, room_slot, used_slot}
use Rattle.raw_nodes.proofs.StoreLaws.{changed, kept, place_of, used}
use Rattle.raw_nodes.proofs.store.NodeStore.set_parent.Goals as goal

pub node_mut-node-requires : goal.node_mut-node-requires
node_mut-node-requires g c = place_of c.args.self.now c.args.name c.requires

pub invariant_of-self : goal.invariant_of-self
invariant_of-self g c =
    let held = c.node_mut-node.result.now.held in
    let stays = ap is_used c.set_slot.ensures ∙ used_slot held _ ∙ used c.args.self.now c.args.name c.requires
    c.node_mut-node.ensures.value in
    kept c.args.self.now c.args.name c.requires c.node_mut-node.ensures.value _ stays refl refl
    (ap room_in c.set_slot.ensures ∙ room_slot held _)

pub returns-clause-records : goal.returns-clause-records
unfolding records
returns-clause-records g c =
    let held = c.node_mut-node.result.now.held in
    let used = used c.args.self.now c.args.name c.requires c.node_mut-node.ensures.value in
    let stays = ap is_used c.set_slot.ensures ∙ used_slot held _ ∙ used in
    changed c.args.self.now c.args.name c.requires c.node_mut-node.ensures.value _ stays
    (λ r. with_parent r c.args.parent c.args.slot)
    (ap (λ k. record_in k (link_name c.of-node.result)) c.set_slot.ensures
    ∙ ap (record_in (with_slot held c.args.slot)) c.of-node.ensures ∙ parented held _ c.args.parent c.args.slot used)
