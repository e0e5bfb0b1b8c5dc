use Rattle.raw_nodes.proofs.Common.{ap, refl, sym, subst, room_in, record_in, with_sum, link_name, CanExchange}
use Rattle.raw_nodes.proofs.Common.{exchanged}
use Rattle.raw_nodes.specs.Names.{records}
use Rattle.raw_nodes.proofs.NameLaws.{recounted}
use Rattle.raw_nodes.proofs.StoreLaws.{changed, has_room, kept, place_of, told}
use Rattle.raw_nodes.proofs.store.NodeStore.exchange.Goals as goal

pub node_mut-requires : goal.node_mut-requires
node_mut-requires g c = place_of c.args.self.now c.args.name c.requires.name.0

pub branch_mut-branch-requires : goal.branch_mut-branch-requires
branch_mut-branch-requires g c =
    has_room c.args.self.now c.args.name c.requires.name.0 c.node_mut.ensures.value c.requires.name.1

pub invariant_of-self : goal.invariant_of-self
invariant_of-self g c =
    kept c.args.self.now c.args.name c.requires.name.0 c.node_mut.ensures.value _ refl refl refl
    (sym (ap room_in c.branch_mut-branch.ensures.value))

pub returns-clause-records : goal.returns-clause-records
unfolding records
returns-clause-records g c =
    let both = c.args.exchange.now in
    changed c.args.self.now c.args.name c.requires.name.0 c.node_mut.ensures.value _ refl
    (λ r. with_sum r (exchanged both.gone.now both.more.now r.sum))
    (recounted c.node_mut.result.now.held c.branch_mut-branch.result.now c.exchange.new.self _
    (exchanged both.gone.now both.more.now)
    c.branch_mut-branch.ensures.value c.exchange.ensures.children c.exchange.ensures.sum)

pub exchange-requires : goal.exchange-requires
exchange-requires g c =
    let both = c.args.exchange.now in
    subst (λ k. CanExchange both.gone.now both.more.now both.is_level
    (record_in k (link_name c.node_mut.result.now.parent)).sum)
    c.branch_mut-branch.ensures.value
    (told c.args.self.now c.args.name c.requires.name.0 c.node_mut.ensures.value
    (λ r. CanExchange both.gone.now both.more.now both.is_level r.sum) c.requires.sum)
