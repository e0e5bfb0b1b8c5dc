use Rattle.raw_nodes.proofs.Common.{◌≡◌, None, ap, get_or, map, link_name, ◌∙◌, Room}
use Rattle.raw_nodes.proofs.NameLaws.{childless, none_at}
use Rattle.raw_nodes.proofs.StoreLaws.{place_of, read, says, used}
use Rattle.raw_nodes.proofs.store.NodeStore.child.Goals as goal

pub node-requires : goal.node-requires
node-requires g c = place_of c.args.self.now c.args.name c.requires.name

pub returns-in-Inner-clause-value : goal.returns-in-Inner-clause-value
returns-in-Inner-clause-value g c =
    says c.args.self.now c.args.name c.requires.name c.node.ensures (λ r. get_or r.children c.args.i None) c.in-Inner.is
    (c.child.ensures ∙ ap (λ (z : Room). get_or (map link_name z.children) c.args.i None) c.deref.ensures)

pub returns-in_default : goal.returns-in_default
returns-in_default g c =
    let used = used c.args.self.now c.args.name c.requires.name c.node.ensures in
    record {
      value = read c.args.self.now c.args.name c.requires.name c.node.ensures
          (λ r. None ≡ get_or r.children c.args.i None)
          (none_at _ c.args.i (childless c.node.result.now.held _ used c.in_default.not-Inner));
      tick = c.tick.ensures;
    }
