use Rattle.line_tree.proofs.Common.{◌+◌, ◌≤◌, take, sym, ap, ◌∙◌, arith, sum_by, take-take, sum_by-take-le, kids}
use Rattle.line_tree.proofs.Common.{records, characters_at}
use Rattle.line_tree.proofs.RowLaws.{child_is, none_of, size_is, step_no, step_yes}
use Rattle.line_tree.proofs.climb.characters_between.Goals.{in-Some, in_default}
use Rattle.line_tree.proofs.climb.characters_between.Goals as goal

pub size-more-requires : goal.size-more-requires
size-more-requires g c = let m = records c.args.store.now in
    c.requires.row.each c.loop-i.i c.in-Some.child
    (sym (child_is m c.args.node c.requires.row c.child.result c.loop-i.i c.child.ensures.value) ∙ c.in-Some.is)

pub overflow_add-characters : goal.overflow_add-characters
overflow_add-characters g c =
    let m = records c.args.store.now in let cs = kids m c.args.node in let i = c.loop-i.i in
    let here = sym (child_is m c.args.node c.requires.row c.child.result i c.child.ensures.value) ∙ c.in-Some.is in
    let more = step_yes (characters_at m) cs i c.in-Some.child here in
    let size = ap (λ s. s.1) (size_is m c.in-Some.child c.size-more.result (c.requires.row.each i c.in-Some.child here)
    c.size-more.ensures.value) in
    let value = c.loop-i.invariant.value in let fits = c.requires.fits in let within = c.requires.within in
    let shorter : i + 1 ≤ c.args.to = omega (arith, c.loop-i-test.true) in
    let part = sum_by-take-le (characters_at m) (take c.args.to cs) (i + 1) in
    let same = ap (sum_by (characters_at m)) (take-take (i + 1) c.args.to cs shorter) in
    omega arith

pub loop-i-preserved : goal.loop-i-preserved
loop-i-preserved g c = let m = records c.args.store.now in let cs = kids m c.args.node in let i = c.loop-i.i in
    let child = child_is m c.args.node c.requires.row c.child.result i c.child.ensures.value in
    let value = c.loop-i.invariant.value in
    elim c.match-child.branch [
      | in-Some w ↦
          let here = sym child ∙ w.in-Some.is in
          let more = step_yes (characters_at m) cs i w.in-Some.child here in
          let size = ap (λ s. s.1) (size_is m w.in-Some.child w.size-more.result
          (c.requires.row.each i w.in-Some.child here) w.size-more.ensures.value) in
          let now = w.characters-is in
          record { value = omega arith }
      | in_default w ↦
          let same = step_no (characters_at m) cs i (sym child ∙ none_of c.child.result w.in_default.not-Some) in
          let now = w.characters-is in
          record { value = omega arith }
    ]
