use Rattle.raw_nodes.proofs.Common.{◌≡◌, ap, sym, map, link_name, is_some, ◌∙◌, Room, count_by}
use Rattle.raw_nodes.proofs.NameLaws.{childless}
use Rattle.raw_nodes.proofs.StoreLaws.{place_of, read, says, used}
use Rattle.raw_nodes.proofs.store.NodeStore.children.Goals as goal

pub node-requires : goal.node-requires
node-requires g c = place_of c.args.self.now c.args.name c.requires

pub returns-in-Inner : goal.returns-in-Inner
returns-in-Inner g c =
    says c.args.self.now c.args.name c.requires c.node.ensures (λ r. count_by is_some r.children) c.in-Inner.is
    (c.count.ensures ∙ ap (λ (z : Room). count_by is_some (map link_name z.children)) c.deref.ensures)

pub returns-in_default : goal.returns-in_default
returns-in_default g c =
    let used = used c.args.self.now c.args.name c.requires c.node.ensures in
    read c.args.self.now c.args.name c.requires c.node.ensures (λ r. 0 ≡ count_by is_some r.children)
    (sym (ap (count_by is_some) (childless c.node.result.now.held _ used c.in_default.not-Inner)))
