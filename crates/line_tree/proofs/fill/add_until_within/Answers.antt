use Rattle.line_tree.proofs.Common.{◌≡◌, ◌+◌, ◌≤◌, sym, ◌∙◌, subst, arith, slice_get, kids, records, IsWithin, drop}
use Rattle.line_tree.proofs.Common.{row, sums}
use Rattle.line_tree.proofs.BelowLaws.{Below, adds, adds-fits, adds-none, all-added, none-below}
use Rattle.line_tree.proofs.ReplacingLaws.{within-both, within-first}
use Rattle.line_tree.proofs.RowLaws.{child_is, none_of}
use Rattle.line_tree.proofs.fill.add_until_within.Goals.{After-child, in-Some+else-is_within, in_default}
use Rattle.line_tree.proofs.fill.add_until_within.Given.{Over}
use Rattle.line_tree.proofs.fill.add_until_within.Goals as goal

-- the child at the slot
child : (g : Over) (c : After-child g) → c.child.result ≡ slice_get (kids (records c.args.store.now) c.args.node) c.loop-slot.slot
child g c = child_is (records c.args.store.now) c.args.node c.requires.row c.child.result c.loop-slot.slot c.child.ensures.value

pub loop-slot-init : goal.loop-slot-init
loop-slot-init g c = record { sum = none-below (records c.args.store.now) c.args.node _ c.requires.empty }

pub add_sum_to-requires-clause-name : goal.add_sum_to-requires-clause-name
add_sum_to-requires-clause-name g c =
    let at = (goal.at.add_sum_to-requires-clause-name g c).After-child in
    c.requires.row.each c.loop-slot.slot c.in-Some.child (sym (child g at) ∙ c.in-Some.is)

pub add_sum_to-requires-clause-fits : goal.add_sum_to-requires-clause-fits
add_sum_to-requires-clause-fits g c =
    let at = (goal.at.add_sum_to-requires-clause-fits g c).After-child in
    adds-fits (records c.args.store.now) c.args.node c.requires.row c.loop-slot.slot c.loop-slot-test.true
    c.loop-slot.sum c.loop-slot.invariant.sum c.in-Some.child (sym (child g at) ∙ c.in-Some.is) c.requires.fits

pub loop-slot-preserved : goal.loop-slot-preserved
loop-slot-preserved g c =
    let m = records c.args.store.now in
    let at = (goal.at.loop-slot-preserved g c).After-child in
    elim c.match-child.branch [
      | in-Some+else-is_within w ↦ record {
        sum = subst (Below m c.args.node (c.loop-slot.slot + 1)) (sym w.sum-is) (adds m c.args.node c.requires.row
            c.loop-slot.slot c.loop-slot-test.true c.loop-slot.sum c.loop-slot.invariant.sum w.in-Some.child
            (sym (child g at) ∙ w.in-Some.is) _ w.add_sum_to.ensures.value);
      }
      | in_default w ↦ record {
        sum = subst (Below m c.args.node (c.loop-slot.slot + 1)) (sym w.sum-is) (adds-none m c.args.node
            c.requires.row c.loop-slot.slot c.loop-slot-test.true c.loop-slot.sum c.loop-slot.invariant.sum
            (sym (child g at) ∙ none_of c.child.result w.in_default.not-Some));
      }
    ]

pub returns-clause-whole : goal.returns-clause-whole
returns-clause-whole g c = λ _.
    let past : 12 ≤ c.loop-slot.slot = omega (arith, c.loop-slot-test.false) in
    all-added (records c.args.store.now) c.args.node c.requires.row c.loop-slot.slot past c.loop-slot.sum
    c.loop-slot.invariant.sum

pub returns-then-is_within-clause-found : goal.returns-then-is_within-clause-found
returns-then-is_within-clause-found g c = λ _.
    let m = records c.args.store.now in
    let p = c.args.node in
    let at = (goal.at.returns-then-is_within-clause-found g c).After-child in
    let sum = c.add_sum_to.new.sum in
    let below = adds m p c.requires.row c.loop-slot.slot c.loop-slot-test.true c.loop-slot.sum
    c.loop-slot.invariant.sum c.in-Some.child (sym (child g at) ∙ c.in-Some.is) sum c.add_sum_to.ensures.value in
    within-both c.args.gone.now sum (sums m (row (kids m p))) (c.is_within.ensures.yes c.if-is_within.true)
    (subst (IsWithin sum) below (within-first sum (sums m (drop (c.loop-slot.slot + 1) (row (kids m p))))))
