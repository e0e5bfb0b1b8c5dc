use Rattle.line_tree.proofs.Common.{◌+◌, ◌≤◌, take, sym, ap, ◌∙◌, arith, sum_by, take-take, sum_by-take-le, kids}
use Rattle.line_tree.proofs.Common.{lines_at, records}
use Rattle.line_tree.proofs.RowLaws.{child_is, lines_is, none_of, step_no, step_yes}
use Rattle.line_tree.proofs.climb.before.Goals.{in-Some, in_default}
use Rattle.line_tree.proofs.climb.before.Goals as goal

pub lines-lines-requires : goal.lines-lines-requires
lines-lines-requires g c = let m = records c.args.store.now in
    c.requires.row.each c.loop-i.i c.in-Some.child
    (sym (child_is m c.args.node c.requires.row c.child.result c.loop-i.i c.child.ensures.value) ∙ c.in-Some.is)

pub overflow_add-lines : goal.overflow_add-lines
overflow_add-lines g c = let m = records c.args.store.now in let cs = kids m c.args.node in let i = c.loop-i.i in
    let here = sym (child_is m c.args.node c.requires.row c.child.result i c.child.ensures.value) ∙ c.in-Some.is in
    let more = step_yes (lines_at m) cs i c.in-Some.child here in
    let s = lines_is m c.in-Some.child c.lines-lines.result (c.requires.row.each i c.in-Some.child here)
    c.lines-lines.ensures.value in
    let value = c.loop-i.invariant.value in let fits = c.requires.fits in let within = c.requires.within in
    let shorter : i + 1 ≤ c.args.slot = omega (arith, c.loop-i-test.true) in
    let part = sum_by-take-le (lines_at m) (take c.args.slot cs) (i + 1) in
    let same = ap (sum_by (lines_at m)) (take-take (i + 1) c.args.slot cs shorter) in
    omega arith

pub loop-i-preserved : goal.loop-i-preserved
loop-i-preserved g c = let m = records c.args.store.now in let cs = kids m c.args.node in let i = c.loop-i.i in
    let child = child_is m c.args.node c.requires.row c.child.result i c.child.ensures.value in
    let value = c.loop-i.invariant.value in let so_far = c.loop-i.invariant.ticks in let one = c.child.ensures.tick in
    elim c.match-child.branch [
      | in-Some w ↦
          let here = sym child ∙ w.in-Some.is in
          let more = step_yes (lines_at m) cs i w.in-Some.child here in
          let s = lines_is m w.in-Some.child w.lines-lines.result (c.requires.row.each i w.in-Some.child here)
          w.lines-lines.ensures.value in
          let t = ap g.C.Ticks.count w.ticks-is in let two = w.lines-lines.ensures.tick in let now = w.lines-is in
          record { value = omega arith; ticks = omega arith }
      | in_default w ↦
          let same = step_no (lines_at m) cs i (sym child ∙ none_of c.child.result w.in_default.not-Some) in
          let t = ap g.C.Ticks.count w.ticks-is in let now = w.lines-is in
          record { value = omega arith; ticks = omega arith }
    ]
