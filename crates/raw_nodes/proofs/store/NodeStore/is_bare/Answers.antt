use Rattle.raw_nodes.proofs.Common.{◌≡◌, true, sym, ap, ◌∙◌, subst, IsBare, link_name, record_in}
use Rattle.raw_nodes.proofs.NameLaws.{bare_branch, bare_room}
use Rattle.raw_nodes.proofs.StoreLaws.{never_spare, place_of, read}
use Rattle.raw_nodes.proofs.store.NodeStore.is_bare.Goals as goal

pub node-requires : goal.node-requires
node-requires g c = place_of c.args.self.now c.args.name c.requires

pub returns-in-Line-clause-yes : goal.returns-in-Line-clause-yes
returns-in-Line-clause-yes g c =
    read c.args.self.now c.args.name c.requires c.node.ensures (λ r. c.is_bare.result ≡ true → IsBare r.sum) (λ yes.
    subst IsBare (c.sum.ensures ∙ sym (ap (λ k. (record_in k (link_name c.node.result.now.parent)).sum) c.in-Line.is))
    (c.is_bare.ensures.yes yes))

pub returns-in-Inner-clause-yes : goal.returns-in-Inner-clause-yes
returns-in-Inner-clause-yes g c =
    read c.args.self.now c.args.name c.requires c.node.ensures
    (λ r. c.is_bare-in-Inner.result ≡ true → IsBare r.sum) (λ yes.
    subst IsBare (sym (ap (λ k. (record_in k (link_name c.node.result.now.parent)).sum) c.in-Inner.is))
    (bare_branch c.in-Inner.branch _ c.deref.ensures (c.is_bare-in-Inner.ensures.yes yes)))

pub returns-in-Line-clause-no : goal.returns-in-Line-clause-no
returns-in-Line-clause-no g c =
    read c.args.self.now c.args.name c.requires c.node.ensures (λ r. IsBare r.sum → c.is_bare.result ≡ true) (λ bare.
    c.is_bare.ensures.no (subst IsBare (ap (λ k. (record_in k (link_name c.node.result.now.parent)).sum) c.in-Line.is
    ∙ sym c.sum.ensures) bare))

pub returns-in-Inner-clause-no : goal.returns-in-Inner-clause-no
returns-in-Inner-clause-no g c =
    read c.args.self.now c.args.name c.requires c.node.ensures
    (λ r. IsBare r.sum → c.is_bare-in-Inner.result ≡ true) (λ bare.
    c.is_bare-in-Inner.ensures.no (bare_room c.in-Inner.branch _ c.deref.ensures
    (subst IsBare (ap (λ k. (record_in k (link_name c.node.result.now.parent)).sum) c.in-Inner.is) bare)))

pub returns-in-Spare-clause-no : goal.returns-in-Spare-clause-no
returns-in-Spare-clause-no g c =
    absurd (never_spare c.args.self.now c.args.name c.requires c.node.ensures c.in-Spare.is)
