use Rattle.raw_nodes.proofs.Common.{◌≡◌, ◌+◌, ap, arith, set, sym, refl, ◌∙◌, number_in, room_in, is_used, line_in}
use Rattle.raw_nodes.proofs.Common.{records_in, slot_in, Node}
use lib.ListN.{length-set}
use Rattle.raw_nodes.specs.Names.{records}
use Rattle.raw_nodes.proofs.ChainLaws.{count-le, followed_set, given_chain, given_count, listed_set, room_moved}
use Rattle.raw_nodes.proofs.MapLaws.{len_given}
use Rattle.raw_nodes.proofs.NameLaws.{in_use, line_said, name_place, place_within, read_entry, removed_records}
use Rattle.raw_nodes.proofs.store.NodeStore.give_back.Goals as goal

pub node_mut-node-requires : goal.node_mut-node-requires
unfolding records
node_mut-node-requires g c = let h = c.args.self.now.heap in
    name_place h.places h.values c.args.name h.paired c.requires

pub overflow_add-self : goal.overflow_add-self
unfolding records
overflow_add-self g c =
    let a = c.args.self.now in let h = a.heap in let p = c.args.name in let x = c.node_mut-node.result.now in
    let e = c.node_mut-node.ensures.value in
    let i = number_in h.places p in let place = name_place h.places h.values p h.paired c.requires in
    let within = place_within h.places h.values p h.paired place in
    let used = in_use h.places h.values p x h.paired c.requires e in
    let w : Node = record {
      parent = c.of-node.result;
      before = x.before;
      after = x.after;
      held = c.replace-held.new.dest;
    } in
    let more = given_count h.values i x w a.spares within e used (ap is_used c.replace-held.ensures.after) a.counted in
    let few = count-le (set h.values i w) in let long = length-set h.values i w in let whole = a.whole in
    let small = a.small in
    record { fits = omega (arith, more, few, long, whole, small) }

pub put_back-requires : goal.put_back-requires
unfolding records
put_back-requires g c =
    let a = c.args.self.now in let h = a.heap in let p = c.args.name in let x = c.node_mut-node.result.now in
    let e = c.node_mut-node.ensures.value in
    let i = number_in h.places p in let place = name_place h.places h.values p h.paired c.requires in
    let within = place_within h.places h.values p h.paired place in
    let used = in_use h.places h.values p x h.paired c.requires e in
    let w : Node = record {
      parent = c.of-node.result;
      before = x.before;
      after = x.after;
      held = c.replace-held.new.dest;
    } in
    let moved = room_moved h.values i x w within e in let none = ap room_in c.replace-held.ensures.after in
    let held = ap room_in c.replace-held.ensures.value in
    let roomed = a.roomed in let fitting = a.fitting in omega (arith, moved, none, held, roomed, fitting)

pub invariant_of-self : goal.invariant_of-self
unfolding records
invariant_of-self g c =
    let a = c.args.self.now in let h = a.heap in let p = c.args.name in let x = c.node_mut-node.result.now in
    let e = c.node_mut-node.ensures.value in
    let i = number_in h.places p in let place = name_place h.places h.values p h.paired c.requires in
    let within = place_within h.places h.values p h.paired place in
    let used = in_use h.places h.values p x h.paired c.requires e in
    let w : Node = record {
      parent = c.of-node.result;
      before = x.before;
      after = x.after;
      held = c.replace-held.new.dest;
    } in
    let free = ap is_used c.replace-held.ensures.after in
    let moved = room_moved h.values i x w within e in let none = ap room_in c.replace-held.ensures.after in
    let held = ap room_in c.replace-held.ensures.value in
    let roomed = a.roomed in let fitting = a.fitting in let more = c.put_back.ensures.rooms in
    let capacity = c.put_back.ensures.capacity in
    record {
      listed = listed_set h.places h.values i x w a.last e refl a.listed;
      whole = a.whole ∙ sym (length-set h.values i w);
      small = a.small;
      chained = given_chain h.places h.values a.spares a.first_spare p x w place h.paired e used free
          (ap slot_in c.replace-held.ensures.after) c.of-node.ensures a.chained;
      counted = given_count h.values i x w a.spares within e used free a.counted;
      followed = followed_set h.places h.values i x w e refl a.followed;
      apart = a.apart;
      roomed = omega (arith, moved, none, held, more, roomed);
      fitting = omega (arith, fitting, capacity);
    }

pub returns-clause-line : goal.returns-clause-line
unfolding records
returns-clause-line g c =
    let a = c.args.self.now in let h = a.heap in let p = c.args.name in let x = c.node_mut-node.result.now in
    let e = c.node_mut-node.ensures.value in
    let i = number_in h.places p in let place = name_place h.places h.values p h.paired c.requires in
    let within = place_within h.places h.values p h.paired place in
    let used = in_use h.places h.values p x h.paired c.requires e in
    read_entry h.places h.values p x h.paired c.requires e (λ r. c.put_back.result ≡ r.line)
    (c.put_back.ensures.line ∙ ap line_in c.replace-held.ensures.value ∙ sym (line_said x.held _ used))

pub returns-clause-records : goal.returns-clause-records
unfolding records
returns-clause-records g c =
    let a = c.args.self.now in let h = a.heap in let p = c.args.name in let x = c.node_mut-node.result.now in
    let e = c.node_mut-node.ensures.value in
    let i = number_in h.places p in let place = name_place h.places h.values p h.paired c.requires in
    let within = place_within h.places h.values p h.paired place in
    let used = in_use h.places h.values p x h.paired c.requires e in
    let w : Node = record {
      parent = c.of-node.result;
      before = x.before;
      after = x.after;
      held = c.replace-held.new.dest;
    } in
    let free = ap is_used c.replace-held.ensures.after in
    removed_records h.places h.values p w h.paired place free

pub returns-clause-total : goal.returns-clause-total
unfolding records
returns-clause-total g c =
    let a = c.args.self.now in let h = a.heap in let p = c.args.name in let x = c.node_mut-node.result.now in
    let e = c.node_mut-node.ensures.value in
    let i = number_in h.places p in let place = name_place h.places h.values p h.paired c.requires in
    let within = place_within h.places h.values p h.paired place in
    let used = in_use h.places h.values p x h.paired c.requires e in
    let w : Node = record {
      parent = c.of-node.result;
      before = x.before;
      after = x.after;
      held = c.replace-held.new.dest;
    } in
    let free = ap is_used c.replace-held.ensures.after in
    len_given (records_in h.places h.values) _ p a.spares (a.spares + 1) c.requires
    (removed_records h.places h.values p w h.paired place free) refl
