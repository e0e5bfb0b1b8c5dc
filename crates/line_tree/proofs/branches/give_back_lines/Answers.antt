use Rattle.line_tree.proofs.Common.{◌+◌, take, sym, ap, ◌∙◌, subst, arith, IsSome, kids, nodes, records, rooms, spares}
use Rattle.line_tree.proofs.Common.{Without}
use Rattle.line_tree.proofs.AmongLaws.{among-take}
use Rattle.line_tree.proofs.GivingLaws.{gives-line, line-apart, line-named, line-roomless, no-line, without-line}
use Rattle.line_tree.proofs.RowLaws.{none_of, past}
use Rattle.line_tree.proofs.TreeLaws.{named-tree, row-tree}
use Rattle.line_tree.proofs.branches.give_back_lines.Goals.{in-Some, in_default}
use Rattle.line_tree.proofs.branches.give_back_lines.Goals as goal

pub child-requires-clause-name : goal.child-requires-clause-name
child-requires-clause-name g c = let m = records c.args.store.now in let p = c.args.node in
    let tree = c.requires.tree in
    subst (λ o. IsSome o) (sym (c.loop-slot.invariant.without.other p
    (λ a. no-line m p tree (among-take p c.loop-slot.slot (kids m p) a)))) (named-tree m 1 p tree)

pub child-requires-clause-index : goal.child-requires-clause-index
child-requires-clause-index g c = let few = (row-tree (records c.args.store.now) 0 c.args.node c.requires.tree).few in
    let all = c.requires.all in let less = c.loop-slot-test.true in omega arith

pub let_go-requires : goal.let_go-requires
let_go-requires g c = let m = records c.args.store.now in let p = c.args.node in let i = c.loop-slot.slot in
    let w = c.loop-slot.invariant.without in let tree = c.requires.tree in
    let at = sym (gives-line m (records c.loop-slot.store) p i c.child.result tree w c.child.ensures.value)
    ∙ c.in-Some.is in
    subst (λ o. IsSome o) (sym (w.other c.in-Some.line (line-apart m p i c.in-Some.line tree at)))
    (line-named m p i c.in-Some.line tree at)

pub loop-slot-preserved : goal.loop-slot-preserved
loop-slot-preserved g c = let m = records c.args.store.now in let p = c.args.node in let i = c.loop-slot.slot in
    let n = records c.loop-slot.store in let inv = c.loop-slot.invariant in let tree = c.requires.tree in
    let child = sym (gives-line m n p i c.child.result tree inv.without c.child.ensures.value) in
    elim c.match-child.branch [
      | in-Some w ↦
          let x = w.in-Some.line in let at = child ∙ w.in-Some.is in
          let spare = w.let_go.ensures.spares in let so_far = inv.spares in let s = ap (λ z. spares z) w.store-is in
          record {
            without = subst (λ z. Without m z (take (i + 1) (kids m p)))
                (sym (ap (λ z. records z) w.store-is ∙ w.let_go.ensures.records))
                (without-line m n (kids m p) i x at inv.without);
            spares = omega arith;
            rooms = ap (λ z. rooms z) w.store-is
                ∙ line-roomless m n p i x _ _ tree at inv.without w.let_go.ensures.rooms ∙ inv.rooms;
            nodes = ap (λ z. nodes z) w.store-is ∙ w.let_go.ensures.nodes ∙ inv.nodes;
          }
      | in_default w ↦
          let end = past (kids m p) i (child ∙ none_of c.child.result w.in_default.not-Some) in
          let all = c.requires.all in let less = c.loop-slot-test.true in absurd (omega arith)
    ]
