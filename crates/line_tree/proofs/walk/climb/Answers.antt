use Rattle.line_tree.proofs.Common.{ℕ, ◌+◌, ◌-◌, suc, refl, sym, ◌∙◌, arith, none-some, slice_get_within, kids}
use Rattle.line_tree.proofs.Common.{lines_in, records, HasRow, IsLineAt}
use Rattle.line_tree.proofs.PlaceLaws.{child-named, child-parent}
use Rattle.line_tree.proofs.PutLaws.{count-row}
use Rattle.line_tree.proofs.RowLaws.{child_is, past}
use Rattle.line_tree.proofs.TreeLaws.{named-row, row-tree}
use Rattle.line_tree.proofs.NextLaws.{Child, ends-above, ends-child, ends-last, ends-level, ends-line, ends-next}
use Rattle.line_tree.proofs.NextLaws.{ends-root}
use Rattle.line_tree.proofs.walk.climb.Given.{Over}
use Rattle.line_tree.proofs.walk.climb.Goals.{After-slot-slot}
use Rattle.line_tree.proofs.walk.climb.Goals as goal

pub loop-level-init : goal.loop-level-init
loop-level-init g c = record {
  ends = λ k at. ends-line (records c.args.store.now) c.args.height c.args.root c.args.name k c.requires.stands.tree at;
  ticks = omega arith;
}

pub parent-requires : goal.parent-requires
parent-requires g c = let m = records c.args.store.now in let j = c.loop-level.level in
    let e = ends-level m c.args.height j c.args.root c.loop-level.at c.requires.named.0 c.loop-level-test.true
    (c.loop-level.invariant.ends c.requires.named.0 c.requires.named.1) in
    child-named m j e.sits.0 e.sits.1 c.loop-level.at e.sits.4

pub slot-slot-requires : goal.slot-slot-requires
slot-slot-requires g c = let m = records c.args.store.now in let j = c.loop-level.level in
    let e = ends-level m c.args.height j c.args.root c.loop-level.at c.requires.named.0 c.loop-level-test.true
    (c.loop-level.invariant.ends c.requires.named.0 c.requires.named.1) in
    child-named m j e.sits.0 e.sits.1 c.loop-level.at e.sits.4

pub returns-in_err-up-clause-branch : goal.returns-in_err-up-clause-branch
returns-in_err-up-clause-branch g c k at = let m = records c.args.store.now in let j = c.loop-level.level in
    let e = ends-level m c.args.height j c.args.root c.loop-level.at k c.loop-level-test.true
    (c.loop-level.invariant.ends k at) in
    let up = child-parent m j e.sits.0 e.sits.1 c.loop-level.at e.sits.4 c.parent.result c.parent.ensures.value in
    absurd (none-some e.sits.0 (sym c.in_err-up.was ∙ up))

here : (g : Over) (c : After-slot-slot g) (k : ℕ)
    (at : IsLineAt (lines_in (records c.args.store.now) c.args.height c.args.root) k c.args.name)
    → Child (records c.args.store.now) (c.args.height - suc c.loop-level.level) c.loop-level.level c.args.root
    c.loop-level.at k c.in_ok-up.up c.slot-slot.result
here g c k at = let m = records c.args.store.now in let j = c.loop-level.level in
    let e = ends-level m c.args.height j c.args.root c.loop-level.at k c.loop-level-test.true
    (c.loop-level.invariant.ends k at) in
    ends-child m (c.args.height - suc j) j c.args.root c.loop-level.at k e c.parent.result c.parent.ensures.value
    c.in_ok-up.up c.in_ok-up.was c.slot-slot.result c.slot-slot.ensures

upper : (g : Over) (c : After-slot-slot g) → HasRow (records c.args.store.now) c.in_ok-up.up
upper g c = row-tree (records c.args.store.now) c.loop-level.level c.in_ok-up.up
    (here g c c.requires.named.0 c.requires.named.1).place.child.tree

pub overflow_add-slot : goal.overflow_add-slot
overflow_add-slot g c = let child = (here g c c.requires.named.0 c.requires.named.1).place.child in
    let few = (upper g c).few in
    let less = slice_get_within (kids (records c.args.store.now) c.in_ok-up.up) c.slot-slot.result c.loop-level.at
    child.at in omega arith

pub children-requires : goal.children-requires
children-requires g c = named-row (records c.args.store.now) c.in_ok-up.up (upper g c)

pub child-requires-clause-name : goal.child-requires-clause-name
child-requires-clause-name g c = children-requires g (goal.at.child-requires-clause-name g c).After-slot-slot

pub child-requires-clause-index : goal.child-requires-clause-index
child-requires-clause-index g c = let has = upper g (goal.at.child-requires-clause-index g c).After-slot-slot in
    let few = has.few in
    let all = count-row (records c.args.store.now) c.in_ok-up.up c.children.result has c.children.ensures in
    let less = c.if-slot-children.true in omega arith

pub returns-in_err-node-clause-branch : goal.returns-in_err-node-clause-branch
returns-in_err-node-clause-branch g c k at = let m = records c.args.store.now in let up = c.in_ok-up.up in
    let has = upper g (goal.at.returns-in_err-node-clause-branch g c).After-slot-slot in
    let all = count-row m up c.children.result has c.children.ensures in let less = c.if-slot-children.true in
    let end = past (kids m up) (c.slot-slot.result + 1)
    (sym (child_is m up has c.child.result (c.slot-slot.result + 1) c.child.ensures.value) ∙ c.in_err-node.was) in
    absurd (omega arith)

pub returns-then-slot-children-clause-branch : goal.returns-then-slot-children-clause-branch
returns-then-slot-children-clause-branch g c k at = let m = records c.args.store.now in let h = c.args.height in
    let j = c.loop-level.level in let up = c.in_ok-up.up in
    let step = (goal.at.returns-then-slot-children-clause-branch g c).After-slot-slot in
    let less = c.loop-level-test.true in
    let next = sym (child_is m up (upper g step) c.child.result (c.slot-slot.result + 1) c.child.ensures.value)
    ∙ c.in_ok-node.was in
    ends-next m (h - suc j) j h c.args.root c.loop-level.at k up c.slot-slot.result (here g step k at) (omega arith)
    c.requires.stands.balanced (record { node = c.in_ok-node.node; height = j }) refl next

pub loop-level-preserved : goal.loop-level-preserved
loop-level-preserved g c = let m = records c.args.store.now in let h = c.args.height in let j = c.loop-level.level in
    let up = c.in_ok-up.up in
    let step = (goal.at.loop-level-preserved g c).After-slot-slot in
    let all = count-row m up c.children.result (upper g step) c.children.ensures in
    let test = c.if-slot-children.false in
    let so_far = c.loop-level.invariant.ticks in let one = c.parent.ensures.tick in
    record {
      ends = λ k at. ends-above m h j c.args.root up k
          (ends-last m (h - suc j) j c.args.root c.loop-level.at k up c.slot-slot.result (here g step k at)
          (omega arith));
      ticks = omega arith;
    }

pub returns : goal.returns
returns g c = let end = c.loop-level-test.false in let some = c.loop-level.auto.level-end in
    let so_far = c.loop-level.invariant.ticks in
    record {
      branch = λ k at. ends-root (records c.args.store.now) c.args.height c.loop-level.level c.args.root c.loop-level.at
          k (omega arith) (c.loop-level.invariant.ends k at);
      ticks = omega arith;
    }
