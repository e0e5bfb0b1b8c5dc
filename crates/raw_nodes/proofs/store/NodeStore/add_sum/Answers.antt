use Rattle.raw_nodes.proofs.Common.{ap, refl, sym, subst, plus, room_in, record_in, with_sum, link_name, CountsFit}
use Rattle.raw_nodes.specs.Names.{records}
use Rattle.raw_nodes.proofs.NameLaws.{recounted}
use Rattle.raw_nodes.proofs.StoreLaws.{changed, has_room, kept, place_of, told}
use Rattle.raw_nodes.proofs.store.NodeStore.add_sum.Goals as goal

pub node_mut-requires : goal.node_mut-requires
node_mut-requires g c = place_of c.args.self.now c.args.name c.requires.name.0

pub branch_mut-branch-requires : goal.branch_mut-branch-requires
branch_mut-branch-requires g c =
    has_room c.args.self.now c.args.name c.requires.name.0 c.node_mut.ensures.value c.requires.name.1

pub invariant_of-self : goal.invariant_of-self
invariant_of-self g c =
    kept c.args.self.now c.args.name c.requires.name.0 c.node_mut.ensures.value _ refl refl refl
    (sym (ap room_in c.branch_mut-branch.ensures.value))

pub returns-clause-records : goal.returns-clause-records
unfolding records
returns-clause-records g c =
    let more = c.args.more.now in
    changed c.args.self.now c.args.name c.requires.name.0 c.node_mut.ensures.value _ refl
    (λ r. with_sum r (plus r.sum more))
    (recounted c.node_mut.result.now.held c.branch_mut-branch.result.now c.add_sum.new.self _ (λ s. plus s more)
    c.branch_mut-branch.ensures.value c.add_sum.ensures.children c.add_sum.ensures.sum)

pub add_sum-requires : goal.add_sum-requires
add_sum-requires g c =
    let more = c.args.more.now in
    subst (λ k. CountsFit (record_in k (link_name c.node_mut.result.now.parent)).sum more)
    c.branch_mut-branch.ensures.value
    (told c.args.self.now c.args.name c.requires.name.0 c.node_mut.ensures.value (λ r. CountsFit r.sum more)
    c.requires.fits)
