use Rattle.text_cursor.proofs.Common.{◌+◌, ◌<◌, sym, subst, ◌∙◌, arith, IsSecond, front_text}
use Rattle.text_cursor.proofs.LookLaws.{on-step}
use Rattle.text_cursor.proofs.cursors.next_line_of.Goals as goal

pub returns-then-last_line_in-gt0-clause-some : goal.returns-then-last_line_in-gt0-clause-some
returns-then-last_line_in-gt0-clause-some g c =
    let step = on-step c.part-item.result c.requires.fit c.loop-part.invariant c.loop-part-test.true c.part-item.is in
    subst (λ n. IsSecond (front_text (g.S.TextStore.content c.args.store.now).cells c.args.fresh.now c.args.parts.now)
    (c.loop-part.far + n)) (sym c.next_line_in.ensures.value)
    (step.some (subst (λ n. 0 < n) c.last_line_in.ensures.value c.if-last_line_in-gt0.true))

pub loop-part-preserved : goal.loop-part-preserved
loop-part-preserved g c =
    let step = on-step c.part-item.result c.requires.fit c.loop-part.invariant c.loop-part-test.true c.part-item.is in
    step.none (sym c.last_line_in.ensures.value ∙ omega arith)
