use Rattle.raw_nodes.proofs.Common.{ap, refl, sym, room_in, with_sum}
use Rattle.raw_nodes.specs.Names.{records}
use Rattle.raw_nodes.proofs.NameLaws.{summed}
use Rattle.raw_nodes.proofs.StoreLaws.{changed, has_room, kept, place_of}
use Rattle.raw_nodes.proofs.store.NodeStore.set_sum.Goals as goal

pub node_mut-requires : goal.node_mut-requires
node_mut-requires g c = place_of c.args.self.now c.args.name c.requires.0

pub branch_mut-requires : goal.branch_mut-requires
branch_mut-requires g c = has_room c.args.self.now c.args.name c.requires.0 c.node_mut.ensures.value c.requires.1

pub invariant_of-self : goal.invariant_of-self
invariant_of-self g c =
    kept c.args.self.now c.args.name c.requires.0 c.node_mut.ensures.value _ refl refl refl
    (sym (ap room_in c.branch_mut.ensures.value))

pub returns-clause-records : goal.returns-clause-records
unfolding records
returns-clause-records g c =
    changed c.args.self.now c.args.name c.requires.0 c.node_mut.ensures.value _ refl (λ r. with_sum r c.args.sum.now)
    (summed c.node_mut.result.now.held c.branch_mut.result.now c.set_sum.new.self _ c.args.sum.now
    c.branch_mut.ensures.value
    c.set_sum.ensures.children c.set_sum.ensures.sum)
