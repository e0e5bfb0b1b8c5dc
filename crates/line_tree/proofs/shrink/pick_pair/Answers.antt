use Rattle.line_tree.proofs.Common.{◌-◌, sym, ◌∙◌, arith, kids, records}
use Rattle.line_tree.proofs.EvenLaws.{pair-past}
use Rattle.line_tree.proofs.RowLaws.{child_is}
use Rattle.line_tree.proofs.TreeLaws.{get-left, get-right}
use Rattle.line_tree.proofs.shrink.pick_pair.Goals as goal

pub returns-then-i-count : goal.returns-then-i-count
returns-then-i-count g c = let m = records c.args.store.now in let xs = kids m c.args.left in
    let ys = kids m c.args.right in
    let n = c.requires.count in
    child_is m c.args.left c.requires.left c.child.result c.args.i c.child.ensures.value
    ∙ sym (get-left xs ys c.args.i (omega (arith, c.if-i-count.true)))

pub returns-then-i-count-lt12 : goal.returns-then-i-count-lt12
returns-then-i-count-lt12 g c = let m = records c.args.store.now in let xs = kids m c.args.left in
    let ys = kids m c.args.right in
    let n = c.requires.count in
    child_is m c.args.right c.requires.right c.child-then-i-count-lt12.result (c.args.i - c.args.count)
    c.child-then-i-count-lt12.ensures.value
    ∙ sym (get-right xs ys (c.args.i - c.args.count) c.args.i (omega (arith, c.if-i-count.false)))

pub returns-else-i-count-lt12 : goal.returns-else-i-count-lt12
returns-else-i-count-lt12 g c = let m = records c.args.store.now in let xs = kids m c.args.left in
    let ys = kids m c.args.right in
    let n = c.requires.count in
    sym (pair-past xs ys c.args.i (omega (arith, c.if-i-count.false, c.if-i-count-lt12.false, c.requires.right.few)))
