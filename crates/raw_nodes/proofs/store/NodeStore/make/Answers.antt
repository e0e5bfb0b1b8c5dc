use Rattle.raw_nodes.proofs.Common.{◌≡◌, ◌+◌, ◌-◌, ap, arith, set, subst, sym, refl, ◌∙◌, number_in, IsChain, marks_of}
use Rattle.raw_nodes.proofs.Common.{nexts_of, blank, record_in, records_in, NodePtr, Node, Option}
use lib.ListN.{length-set}
use Rattle.raw_nodes.specs.Names.{records}
use Rattle.raw_nodes.proofs.ChainLaws.{chain_head, followed_set, is_spare, listed_set, made_chain, made_count}
use Rattle.raw_nodes.proofs.ChainLaws.{room_moved}
use Rattle.raw_nodes.proofs.MapLaws.{len_made}
use Rattle.raw_nodes.proofs.NameLaws.{entry_none, place_within, spare_room, written_records}
use Rattle.std.specs.FinMap as finite
use Rattle.raw_nodes.proofs.store.NodeStore.make.Goals as goal

pub node_mut-node-requires : goal.node_mut-node-requires
unfolding records
node_mut-node-requires g c =
    let a = c.args.self.now in
    (chain_head a.heap.places a.heap.values a.spares a.first_spare c.unwrap-name.result c.unwrap-name.ensures
    a.chained).place

pub invariant_of-self : goal.invariant_of-self
unfolding records
invariant_of-self g c =
    let a = c.args.self.now in let h = a.heap in let p = c.unwrap-name.result in let x = c.node_mut-node.result.now in
    let e = c.node_mut-node.ensures.value in
    let head = chain_head h.places h.values a.spares a.first_spare p c.unwrap-name.ensures a.chained in
    let i = number_in h.places p in let within = place_within h.places h.values p h.paired head.place in
    let free = is_spare h.values i x a.spares within e c.requires.spare head.mark in
    let w : Node = record {
      parent = c.none-node.result;
      before = x.before;
      after = x.after;
      held = c.hold-held.result;
    } in
    let moved = room_moved h.values i x w within e in let none = spare_room x.held free in
    let held = c.hold-held.ensures.room in let left = c.hold-held.ensures.rooms in
    let roomed = a.roomed in let fitting = a.fitting in let capacity = c.hold-held.ensures.capacity in
    record {
      listed = listed_set h.places h.values i x w a.last e refl a.listed;
      whole = a.whole ∙ sym (length-set h.values i w);
      small = a.small;
      chained = subst (λ (o : Option NodePtr).
          ∥ IsChain h.places (marks_of (set h.values i w)) (nexts_of (set h.values i w)) (a.spares - 1) o ∥₁)
          (sym c.name-self.ensures)
          (made_chain h.places h.values a.spares p x w within e c.requires.spare head);
      counted = made_count h.values i x w a.spares within e free c.hold-held.ensures.used a.counted;
      followed = followed_set h.places h.values i x w e refl a.followed;
      apart = a.apart;
      roomed = omega (arith, moved, none, held, left, roomed);
      fitting = omega (arith, fitting, capacity);
    }

pub returns-clause-fresh : goal.returns-clause-fresh
unfolding records
returns-clause-fresh g c =
    let a = c.args.self.now in let h = a.heap in let p = c.unwrap-name.result in let x = c.node_mut-node.result.now in
    let e = c.node_mut-node.ensures.value in
    let head = chain_head h.places h.values a.spares a.first_spare p c.unwrap-name.ensures a.chained in
    let i = number_in h.places p in let within = place_within h.places h.values p h.paired head.place in
    let free = is_spare h.values i x a.spares within e c.requires.spare head.mark in
    let w : Node = record {
      parent = c.none-node.result;
      before = x.before;
      after = x.after;
      held = c.hold-held.result;
    } in
    entry_none h.places h.values p x h.paired within e free

pub returns-clause-records : goal.returns-clause-records
unfolding records
returns-clause-records g c =
    let a = c.args.self.now in let h = a.heap in let p = c.unwrap-name.result in let x = c.node_mut-node.result.now in
    let e = c.node_mut-node.ensures.value in
    let head = chain_head h.places h.values a.spares a.first_spare p c.unwrap-name.ensures a.chained in
    let i = number_in h.places p in let within = place_within h.places h.values p h.paired head.place in
    let free = is_spare h.values i x a.spares within e c.requires.spare head.mark in
    let w : Node = record {
      parent = c.none-node.result;
      before = x.before;
      after = x.after;
      held = c.hold-held.result;
    } in
    written_records h.places h.values p w h.paired head.place c.hold-held.ensures.used
    ∙ ap (finite.insert (records_in h.places h.values) p) (ap (record_in w.held) c.none-node.ensures
    ∙ c.hold-held.ensures.says)

pub returns-clause-total : goal.returns-clause-total
unfolding records
returns-clause-total g c =
    let a = c.args.self.now in let h = a.heap in let p = c.unwrap-name.result in let x = c.node_mut-node.result.now in
    let e = c.node_mut-node.ensures.value in
    let head = chain_head h.places h.values a.spares a.first_spare p c.unwrap-name.ensures a.chained in
    let i = number_in h.places p in let within = place_within h.places h.values p h.paired head.place in
    let free = is_spare h.values i x a.spares within e c.requires.spare head.mark in
    let w : Node = record {
      parent = c.none-node.result;
      before = x.before;
      after = x.after;
      held = c.hold-held.result;
    } in
    let some = c.requires.spare in let less : (a.spares - 1) + 1 ≡ a.spares = omega (arith, some) in
    len_made (records_in h.places h.values) _ p (blank c.args.line) a.spares (a.spares - 1)
    (entry_none h.places h.values p x h.paired within e free)
    (written_records h.places h.values p w h.paired head.place c.hold-held.ensures.used
    ∙ ap (finite.insert (records_in h.places h.values) p) (ap (record_in w.held) c.none-node.ensures
    ∙ c.hold-held.ensures.says))
    less
