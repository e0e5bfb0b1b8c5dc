use Rattle.text_cursor.proofs.Common.{◌≡◌, length, ap, ap₂, sym, subst, ◌∙◌, arith, lines, front_text, parts_len}
use Rattle.text_cursor.proofs.LookLaws.{FarPassed, far-behind-fit, far-none, far-small, far-step, fit-both, second-same}
use Rattle.text_cursor.proofs.cursors.Cursor.far_next.Goals as goal

pub next_line_of-requires-clause-fit : goal.next_line_of-requires-clause-fit
next_line_of-requires-clause-fit g c =
    let cells = (g.S.TextStore.content c.args.store.now).cells in
    let own = c.args.self.now in
    let step = far-step
    c.index-block.result.now (far-behind-fit cells c.requires.cursor (sym c.requires.old)) c.loop-left.invariant
    c.loop-left-test.true c.index-block.ensures in
    fit-both (length cells) own.fresh.items c.deref.result.now c.index-block.result.now.parts.items
    c.deref-in-loop-left.result.now c.deref.ensures.value c.deref-in-loop-left.ensures.value step.fit

pub next_line_of-requires-clause-small : goal.next_line_of-requires-clause-small
next_line_of-requires-clause-small g c =
    let cells = (g.S.TextStore.content c.args.store.now).cells in let step = far-step
    c.index-block.result.now (far-behind-fit cells c.requires.cursor (sym c.requires.old)) c.loop-left.invariant
    c.loop-left-test.true c.index-block.ensures in let small = far-small c.requires.cursor in
    let bound = step.bound in let counted = c.index-block.result.now.counted in
    let same = ap parts_len c.deref-in-loop-left.ensures.value in
    omega (arith, small, bound, counted, same)

pub overflow_add-result : goal.overflow_add-result
overflow_add-result g c =
    let cells = (g.S.TextStore.content c.args.store.now).cells in
    let own = c.args.self.now in
    let step = far-step
    c.index-block.result.now (far-behind-fit cells c.requires.cursor (sym c.requires.old)) c.loop-left.invariant
    c.loop-left-test.true c.index-block.ensures in
    let small = far-small c.requires.cursor in
    let bound = step.bound in
    let within = step.within c.in-Some.next (second-same cells own.fresh.items c.deref.result.now
    c.index-block.result.now.parts.items c.deref-in-loop-left.result.now c.deref.ensures.value
    c.deref-in-loop-left.ensures.value c.in-Some.ensures.some) in
    omega (arith, small, bound, within)

pub returns-in-Some : goal.returns-in-Some
returns-in-Some g c =
    let cells = (g.S.TextStore.content c.args.store.now).cells in
    let own = c.args.self.now in
    let step = far-step
    c.index-block.result.now (far-behind-fit cells c.requires.cursor (sym c.requires.old)) c.loop-left.invariant
    c.loop-left-test.true c.index-block.ensures in
    step.some c.in-Some.next (second-same cells own.fresh.items c.deref.result.now
    c.index-block.result.now.parts.items c.deref-in-loop-left.result.now c.deref.ensures.value
    c.deref-in-loop-left.ensures.value c.in-Some.ensures.some)

pub overflow_add-far : goal.overflow_add-far
overflow_add-far g c =
    let cells = (g.S.TextStore.content c.args.store.now).cells in
    let step = far-step
    c.index-block.result.now (far-behind-fit cells c.requires.cursor (sym c.requires.old)) c.loop-left.invariant
    c.loop-left-test.true c.index-block.ensures in
    let small = far-small c.requires.cursor in
    let bound = step.bound in omega (arith, small, bound)

pub loop-left-preserved : goal.loop-left-preserved
loop-left-preserved g c =
    let cells = (g.S.TextStore.content c.args.store.now).cells in
    let step = far-step
    c.index-block.result.now (far-behind-fit cells c.requires.cursor (sym c.requires.old)) c.loop-left.invariant
    c.loop-left-test.true c.index-block.ensures in
    step.none (ap₂ (λ new parts. lines (front_text cells new parts)) (sym c.deref.ensures.value)
    (sym c.deref-in-loop-left.ensures.value) ∙ c.in-None.ensures.none)

pub returns : goal.returns
returns g c =
    let cells = (g.S.TextStore.content c.args.store.now).cells in
    let own = c.args.self.now in
    let none : c.loop-left.left ≡ 0 = omega arith in
    far-none (far-behind-fit cells c.requires.cursor (sym c.requires.old))
    (subst (λ n. FarPassed cells own.fresh.items own.behind.far.items n c.loop-left.far) none c.loop-left.invariant)
