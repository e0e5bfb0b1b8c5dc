use Rattle.raw_nodes.proofs.Common.{ap, refl, sym, room_in, with_child}
use Rattle.raw_nodes.specs.Names.{records}
use Rattle.raw_nodes.proofs.NameLaws.{lodged}
use Rattle.raw_nodes.proofs.StoreLaws.{changed, has_room, kept, place_of}
use Rattle.raw_nodes.proofs.store.NodeStore.set_child.Goals as goal

pub node_mut-requires : goal.node_mut-requires
node_mut-requires g c = place_of c.args.self.now c.args.name c.requires.name.0

pub branch_mut-branch-requires : goal.branch_mut-branch-requires
branch_mut-branch-requires g c =
    has_room c.args.self.now c.args.name c.requires.name.0 c.node_mut.ensures.value c.requires.name.1

pub invariant_of-self : goal.invariant_of-self
invariant_of-self g c =
    kept c.args.self.now c.args.name c.requires.name.0 c.node_mut.ensures.value _ refl refl refl
    (sym (ap room_in c.branch_mut-branch.ensures.value))

pub returns-clause-records : goal.returns-clause-records
unfolding records
returns-clause-records g c =
    changed c.args.self.now c.args.name c.requires.name.0 c.node_mut.ensures.value _ refl
    (λ r. with_child r c.args.i c.args.child)
    (lodged c.node_mut.result.now.held c.branch_mut-branch.result.now c.set_child.new.self _ c.args.i c.of.result
    c.args.child
    c.branch_mut-branch.ensures.value c.set_child.ensures.children c.set_child.ensures.sum c.of.ensures)
