use Rattle.raw_nodes.proofs.Common.{ap, refl, sym, subst, less, room_in, record_in, with_sum, link_name, counting}
use Rattle.raw_nodes.proofs.Common.{HasCounts, Room}
use Rattle.raw_nodes.specs.Names.{records}
use Rattle.raw_nodes.proofs.NameLaws.{recounted}
use Rattle.raw_nodes.proofs.StoreLaws.{changed, has_room, kept, place_of, told}
use Rattle.raw_nodes.proofs.store.NodeStore.lose_counts.Goals as goal

pub node_mut-requires : goal.node_mut-requires
node_mut-requires g c = place_of c.args.self.now c.args.name c.requires.name.0

pub branch_mut-branch-requires : goal.branch_mut-branch-requires
branch_mut-branch-requires g c =
    has_room c.args.self.now c.args.name c.requires.name.0 c.node_mut.ensures.value c.requires.name.1

pub invariant_of-self : goal.invariant_of-self
invariant_of-self g c =
    kept c.args.self.now c.args.name c.requires.name.0 c.node_mut.ensures.value _ refl refl refl
    (sym (ap room_in c.branch_mut-branch.ensures.value))

pub returns-clause-records : goal.returns-clause-records
unfolding records
returns-clause-records g c =
    let rest = less c.args.lines c.args.characters c.args.marks in
    changed c.args.self.now c.args.name c.requires.name.0 c.node_mut.ensures.value _ refl (λ r. with_sum r (rest r.sum))
    (recounted c.node_mut.result.now.held c.branch_mut-branch.result.now c.lose_counts.new.self _ rest
    c.branch_mut-branch.ensures.value (ap (λ (z : Room). z.children) c.lose_counts.ensures.room)
    c.lose_counts.ensures.sum)

pub lose_counts-requires : goal.lose_counts-requires
lose_counts-requires g c =
    let gone = counting c.args.lines c.args.characters c.args.marks in
    subst (λ k. HasCounts gone (record_in k (link_name c.node_mut.result.now.parent)).sum)
    c.branch_mut-branch.ensures.value
    (told c.args.self.now c.args.name c.requires.name.0 c.node_mut.ensures.value (λ r. HasCounts gone r.sum)
    c.requires.counts)
