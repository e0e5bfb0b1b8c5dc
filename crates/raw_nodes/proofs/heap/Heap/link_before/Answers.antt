use Rattle.raw_nodes.proofs.Common.{◌∙◌, ap, refl, subst, sym, map-set, IfSome, IsPlace, number_in, put_at, before_of}
use Rattle.raw_nodes.proofs.Common.{befores_of, after_of, content_of, link_name, NodePtr, Option}
use Rattle.raw_nodes.proofs.ChainLaws.{same_at}
use Rattle.raw_nodes.proofs.heap.Heap.link_before.Goals as goal

pub node_mut-requires : goal.node_mut-requires
node_mut-requires c = subst (λ o. IfSome o (IsPlace c.args.self.now.places)) c.in-Some.is c.requires

pub returns-clause-contents : goal.returns-clause-contents
returns-clause-contents c =
    let h = c.args.self.now in let x = c.node_mut.result.now in
    same_at content_of h.values (number_in h.places c.in-Some.name) x _ c.node_mut.ensures.value refl

pub returns-clause-afters : goal.returns-clause-afters
returns-clause-afters c =
    let h = c.args.self.now in let x = c.node_mut.result.now in
    same_at after_of h.values (number_in h.places c.in-Some.name) x _ c.node_mut.ensures.value refl

pub returns-clause-befores : goal.returns-clause-befores
returns-clause-befores c =
    let h = c.args.self.now in let x = c.node_mut.result.now in
    map-set before_of h.values (number_in h.places c.in-Some.name) _
    ∙ ap (λ (o : Option NodePtr). put_at h.places (befores_of h.values) o (link_name c.args.before)) (sym c.in-Some.is)
