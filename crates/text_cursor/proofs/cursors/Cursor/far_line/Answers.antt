use Rattle.text_cursor.proofs.Common.{◌-◌, length, ap, ap₂, sym, subst, ◌∙◌, arith, IsLastLine, front_text, last_line}
use Rattle.text_cursor.proofs.Common.{parts_len}
use Rattle.text_cursor.proofs.LookLaws.{far-fit, far-line-step, fit-both, last-same}
use Rattle.text_cursor.proofs.cursors.Cursor.far_line.Goals as goal

pub last_line_of-requires-clause-fit : goal.last_line_of-requires-clause-fit
last_line_of-requires-clause-fit g c =
    let cells = (g.S.TextStore.content c.args.store.now).cells in
    let own = c.args.self.now in
    let step = far-line-step
    c.index-block.result.now (far-fit cells c.requires.cursor (sym c.requires.old)) c.loop-left.invariant
    c.loop-left-test.true c.index-block.ensures in
    fit-both (length cells) own.fresh.items c.deref.result.now c.index-block.result.now.parts.items
    c.deref-in-loop-left.result.now c.deref.ensures.value c.deref-in-loop-left.ensures.value step.fit

pub last_line_of-requires-clause-below : goal.last_line_of-requires-clause-below
last_line_of-requires-clause-below g c =
    let cells = (g.S.TextStore.content c.args.store.now).cells in let step = far-line-step
    c.index-block.result.now (far-fit cells c.requires.cursor (sym c.requires.old)) c.loop-left.invariant
    c.loop-left-test.true c.index-block.ensures in
    let below = step.below in let counted = c.index-block.result.now.counted in
    let same = ap parts_len c.deref-in-loop-left.ensures.value in
    omega (arith, below, counted, same)

pub returns-in-Some : goal.returns-in-Some
returns-in-Some g c =
    let cells = (g.S.TextStore.content c.args.store.now).cells in
    let own = c.args.self.now in
    let step = far-line-step
    c.index-block.result.now (far-fit cells c.requires.cursor (sym c.requires.old)) c.loop-left.invariant
    c.loop-left-test.true c.index-block.ensures in
    let last = last-same cells own.fresh.items c.deref.result.now c.index-block.result.now.parts.items
    c.deref-in-loop-left.result.now c.loop-left.end c.deref.ensures.value
    c.deref-in-loop-left.ensures.value c.in-Some.ensures.some in
    step.some c.in-Some.line (subst (λ n. IsLastLine
    (front_text cells own.fresh.items c.index-block.result.now.parts.items) (c.loop-left.end - n) c.in-Some.line)
    (sym c.index-block.result.now.counted) last)

pub overflow_sub-end : goal.overflow_sub-end
overflow_sub-end g c =
    let cells = (g.S.TextStore.content c.args.store.now).cells in
    let step = far-line-step
    c.index-block.result.now (far-fit cells c.requires.cursor (sym c.requires.old)) c.loop-left.invariant
    c.loop-left-test.true c.index-block.ensures in
    step.below

pub loop-left-preserved : goal.loop-left-preserved
loop-left-preserved g c =
    let cells = (g.S.TextStore.content c.args.store.now).cells in
    let step = far-line-step
    c.index-block.result.now (far-fit cells c.requires.cursor (sym c.requires.old)) c.loop-left.invariant
    c.loop-left-test.true c.index-block.ensures in
    step.none (ap₂ (λ new parts. last_line (front_text cells new parts)) (sym c.deref.ensures.value)
    (sym c.deref-in-loop-left.ensures.value) ∙ c.in-None.ensures.none)
