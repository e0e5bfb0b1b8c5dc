use Rattle.text_cursor.proofs.Common.{◌+◌, ◌<◌, sym, subst, ◌∙◌, arith, IsSecond, behind_text}
use Rattle.text_cursor.proofs.LookLaws.{back-step}
use Rattle.text_cursor.proofs.cursors.next_line_back.Goals as goal

pub overflow_add-result : goal.overflow_add-result
overflow_add-result g c =
    let step = back-step c.index-parts-left.result c.requires.fit c.loop-left.invariant
    c.loop-left-test.true c.index-parts-left.is in
    let bound = step.bound in let within = c.next_line_in.ensures.bound in let small = c.requires.small in
    omega (arith, bound, within, small)

pub returns-then-last_line_in-gt0-clause-some : goal.returns-then-last_line_in-gt0-clause-some
returns-then-last_line_in-gt0-clause-some g c =
    let step = back-step c.index-parts-left.result c.requires.fit c.loop-left.invariant
    c.loop-left-test.true c.index-parts-left.is in
    subst (λ n. IsSecond (behind_text (g.S.TextStore.content c.args.store.now).cells c.args.fresh.now c.args.parts.now)
    (c.loop-left.far + n)) (sym c.next_line_in.ensures.value)
    (step.some (subst (λ n. 0 < n) c.last_line_in.ensures.value c.if-last_line_in-gt0.true))

pub overflow_add-far : goal.overflow_add-far
overflow_add-far g c =
    let step = back-step c.index-parts-left.result c.requires.fit c.loop-left.invariant
    c.loop-left-test.true c.index-parts-left.is in
    let bound = step.bound in let small = c.requires.small in omega (arith, bound, small)

pub loop-left-preserved : goal.loop-left-preserved
loop-left-preserved g c =
    let step = back-step c.index-parts-left.result c.requires.fit c.loop-left.invariant
    c.loop-left-test.true c.index-parts-left.is in
    step.none (sym c.last_line_in.ensures.value ∙ omega arith)
