use Rattle.line_tree.proofs.Common.{◌≡◌, ◌+◌, ◌-◌, suc, sym, ap, ◌∙◌, subst, arith, None, insert, CanPut, Fills}
use Rattle.line_tree.proofs.Common.{sum_all, kids, row, plus, records, sum_at}
use Rattle.line_tree.proofs.BehindLaws.{Base, Climbs, above-of, base-of, climbed, named-behind, parent-behind}
use Rattle.line_tree.proofs.BehindLaws.{some-parent}
use Rattle.line_tree.proofs.InsertLaws.{has-now, low-can_put, low-inserts, low-sum, one-fits, one-inserts, one-sum}
use Rattle.line_tree.proofs.RoomLaws.{len-puts, len-resummed}
use Rattle.line_tree.proofs.ShiftLaws.{has-room, shifted-fills, shifted-fits, shifted-row, shifted-sum}
use Rattle.line_tree.proofs.TreeLaws.{named-tree, row-tree}
use Rattle.line_tree.proofs.behind.insert_behind.Given.{Over}
use Rattle.line_tree.proofs.behind.insert_behind.Goals.{After-slot-slot}
use Rattle.std.specs.FinMap as finite
use Rattle.line_tree.proofs.behind.insert_behind.Goals as goal

pub parent-requires : goal.parent-requires
parent-requires g c = let m = records c.args.store.now in
    named-behind m c.args.height c.args.root c.args.k c.args.added.now.line c.in-Some.name c.requires.node c.requires.insert
    (c.requires.behind c.in-Some.name c.in-Some.is).0
    (c.requires.behind c.in-Some.name c.in-Some.is).1

pub unwrap-node-requires : goal.unwrap-node-requires
unwrap-node-requires g c = let m = records c.args.store.now in
    parent-behind m c.args.height c.args.root c.args.k c.args.added.now.line c.in-Some.name c.requires.node c.requires.insert
    (c.requires.behind c.in-Some.name c.in-Some.is).0
    (c.requires.behind c.in-Some.name c.in-Some.is).1 c.parent.result c.parent.ensures.value

pub slot-slot-requires : goal.slot-slot-requires
slot-slot-requires g c = let m = records c.args.store.now in
    named-behind m c.args.height c.args.root c.args.k c.args.added.now.line c.in-Some.name c.requires.node c.requires.insert
    (c.requires.behind c.in-Some.name c.in-Some.is).0
    (c.requires.behind c.in-Some.name c.in-Some.is).1

-- the node above the line that is named, and that the new one can stand in its row
base : (g : Over) (c : After-slot-slot g) → Base (records c.args.store.now) c.args.height c.args.root c.args.k
    c.args.added.now.line c.unwrap-node.result c.slot-slot.result
base g c = let at = c.requires.behind c.in-Some.name c.in-Some.is in
    base-of (records c.args.store.now) c.args.height c.args.root c.args.k c.args.added.now.line c.in-Some.name
    c.requires.node c.requires.insert at.0 at.1 c.parent.result c.parent.ensures.value c.unwrap-node.result
    c.unwrap-node.ensures c.slot-slot.result c.slot-slot.ensures

can-put : (g : Over) (c : After-slot-slot g) →
    CanPut (records c.args.store.now) c.unwrap-node.result (c.slot-slot.result + 1) c.args.added.now.line
can-put g c = let m = records c.args.store.now in let b = base g c in let p = c.unwrap-node.result in
    let x = c.args.added.now.line in
    subst (λ n. CanPut m p n x) b.place (low-can_put m p (c.args.k - b.before) x b.can)

pub overflow_add-slot : goal.overflow_add-slot
overflow_add-slot g c = let m = records c.args.store.now in
    let b = base g (goal.at.overflow_add-slot g c).After-slot-slot in
    let small = b.small in omega (arith, small)

pub child-requires-clause-name : goal.child-requires-clause-name
child-requires-clause-name g c = let m = records c.args.store.now in
    let b = base g (goal.at.child-requires-clause-name g c).After-slot-slot in
    named-tree m 1 c.unwrap-node.result b.tree

pub shift-requires : goal.shift-requires
shift-requires g c = let m = records c.args.store.now in
    let b = base g (goal.at.shift-requires g c).After-slot-slot in
    record {
      put = can-put g (goal.at.shift-requires g c).After-slot-slot;
      few = has-room m c.unwrap-node.result (row-tree m 0 c.unwrap-node.result b.tree) c.child.result
          c.child.ensures.value (sym c.is_some.ensures ∙ c.if-is_some.false);
    }

pub add-requires : goal.add-requires
add-requires g c = let m = records c.args.store.now in
    let b = base g (goal.at.add-requires g c).After-slot-slot in
    let can = can-put g (goal.at.add-requires g c).After-slot-slot in
    let few = has-room m c.unwrap-node.result (row-tree m 0 c.unwrap-node.result b.tree) c.child.result
    c.child.ensures.value (sym c.is_some.ensures ∙ c.if-is_some.false) in
    record {
      row = shifted-row m c.unwrap-node.result (c.slot-slot.result + 1) c.args.added.now.line can few
          (records c.shift.new.store) c.shift.ensures.records;
      sum =
          let p = c.unwrap-node.result in
          shifted-sum m c.unwrap-node.result (c.slot-slot.result + 1) c.args.added.now.line can few
          (records c.shift.new.store) c.shift.ensures.records c.args.added.now.more (ap (plus (sum_at m p))
          c.requires.more ∙ low-sum m p (c.args.k - b.before) c.args.added.now.line b.can
          ∙ ap (λ n. sum_all m (insert (kids m p) n c.args.added.now.line)) b.place);
      fits = shifted-fits m c.unwrap-node.result (c.slot-slot.result + 1) c.args.added.now.line can few
          (records c.shift.new.store) c.shift.ensures.records;
    }

pub loop-level-init : goal.loop-level-init
loop-level-init g c = let m = records c.args.store.now in
    let b = base g (goal.at.loop-level-init g c).After-slot-slot in
    let can = can-put g (goal.at.loop-level-init g c).After-slot-slot in
    let few = has-room m c.unwrap-node.result (row-tree m 0 c.unwrap-node.result b.tree) c.child.result
    c.child.ensures.value (sym c.is_some.ensures ∙ c.if-is_some.false) in
    let p = c.unwrap-node.result in let n = records c.add.new.store in
    let fills = subst (λ i. Fills m n p (insert (kids m p) i c.args.added.now.line)) (sym b.place)
    (shifted-fills m c.unwrap-node.result (c.slot-slot.result + 1) c.args.added.now.line can few (records c.shift.new.store)
    c.shift.ensures.records n c.add.ensures.records) in
    let ls = len-puts m n p (insert (kids m p) (c.args.k - b.before) c.args.added.now.line) None fills in
    let some = c.requires.node in
    record {
      climbs = record {
        before = b.before;
        sits = b.sits;
        low = b.low;
        high = b.high;
        inserts = low-inserts m p (c.args.k - b.before) c.args.added.now.line b.can n None fills;
      };
      within = omega (arith, some);
      len = omega (arith, ls);
      spares = c.add.ensures.spares ∙ c.shift.ensures.spares;
      rooms = c.add.ensures.rooms ∙ c.shift.ensures.rooms;
    }

pub unwrap-at-requires : goal.unwrap-at-requires
unwrap-at-requires g c = let m = records c.args.store.now in let l = records c.loop-level.store in
    some-parent m l c.args.height c.args.root c.args.k c.args.added.now.line c.loop-level.level c.loop-level.at
    c.loop-level-test.true c.loop-level.invariant.climbs c.parent-in-loop-level.result
    c.parent-in-loop-level.ensures.value

pub add-requires-in-loop-level : goal.add-requires-in-loop-level
add-requires-in-loop-level g c = let m = records c.args.store.now in let l = records c.loop-level.store in
    let a = above-of m l c.args.height c.args.root c.args.k c.args.added.now.line c.loop-level.level c.loop-level.at
    c.loop-level-test.true c.requires.insert c.loop-level.invariant.climbs c.parent-in-loop-level.result
    c.parent-in-loop-level.ensures.value c.unwrap-at.result c.unwrap-at.ensures in
    record {
      row = has-now m c.loop-level.level c.unwrap-at.result (c.args.k - a.before) c.args.added.now.line a.can a.found
          a.leads l None a.inserts;
      sum = ap (plus (sum_at l c.unwrap-at.result)) c.requires.more
          ∙ one-sum m c.loop-level.level c.unwrap-at.result (c.args.k - a.before) c.args.added.now.line a.can a.found
          a.leads l a.inserts;
      fits = one-fits m c.loop-level.level c.unwrap-at.result (c.args.k - a.before) c.args.added.now.line a.can a.found
          a.leads l a.inserts;
    }

pub loop-level-preserved : goal.loop-level-preserved
loop-level-preserved g c = let m = records c.args.store.now in
    let l = records c.loop-level.store in let n = records c.add-in-loop-level.new.store in
    let j = c.loop-level.level in let q = c.unwrap-at.result in
    let a = above-of m l c.args.height c.args.root c.args.k c.args.added.now.line c.loop-level.level c.loop-level.at
    c.loop-level-test.true c.requires.insert c.loop-level.invariant.climbs c.parent-in-loop-level.result
    c.parent-in-loop-level.ensures.value c.unwrap-at.result c.unwrap-at.ensures in
    let e : suc j ≡ j + 1 = omega arith in
    let ls = ap finite.len c.add-in-loop-level.ensures.records ∙ len-resummed l q (row (kids l q)) in
    record {
      climbs = subst (λ i. Climbs m n c.args.height c.args.root c.args.k c.args.added.now.line i q) e (record {
        before = a.before;
        sits = a.sits;
        low = a.low;
        high = a.high;
        inserts = one-inserts m c.loop-level.level c.unwrap-at.result (c.args.k - a.before) c.args.added.now.line a.can a.found a.leads l a.inserts n
            c.add-in-loop-level.ensures.records;
      });
      within = omega (arith, c.loop-level-test.true);
      len = ls ∙ c.loop-level.invariant.len;
      spares = c.add-in-loop-level.ensures.spares ∙ c.loop-level.invariant.spares;
      rooms = c.add-in-loop-level.ensures.rooms ∙ c.loop-level.invariant.rooms;
    }

pub returns-clause-yes : goal.returns-clause-yes
returns-clause-yes g c is = let m = records c.args.store.now in let l = records c.loop-level.store in
    let within = c.loop-level.invariant.within in
    climbed m l c.args.height c.args.root c.args.k c.args.added.now.line c.loop-level.level c.loop-level.at
    (omega (arith, within, c.loop-level-test.false)) c.loop-level.invariant.climbs
