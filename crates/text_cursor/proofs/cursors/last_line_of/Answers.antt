use Rattle.text_cursor.proofs.Common.{◌+◌, ◌-◌, ◌<◌, sym, subst, ◌∙◌, arith, IsLastLine, front_text, parts_len}
use Rattle.text_cursor.proofs.LookLaws.{line-step}
use Rattle.text_cursor.proofs.cursors.last_line_of.Goals as goal

pub returns-then-line-gt0-clause-some : goal.returns-then-line-gt0-clause-some
returns-then-line-gt0-clause-some g c =
    let cells = (g.S.TextStore.content c.args.store.now).cells in
    let from = c.args.end - parts_len c.args.parts.now in
    let step = line-step
    c.index-parts-left.result c.requires.fit c.loop-left.invariant c.loop-left-test.true c.index-parts-left.is in
    let found = c.last_line_in-line.ensures.value in
    subst (λ n. IsLastLine (front_text cells c.args.fresh.now c.args.parts.now) from
    (c.loop-left.end - (c.index-parts-left.result.to - c.index-parts-left.result.from) + n)) (sym found)
    (step.some (subst (λ n. 0 < n) found c.if-line-gt0.true))

pub loop-left-preserved : goal.loop-left-preserved
loop-left-preserved g c =
    let cells = (g.S.TextStore.content c.args.store.now).cells in
    let step = line-step
    c.index-parts-left.result c.requires.fit c.loop-left.invariant c.loop-left-test.true c.index-parts-left.is in
    let found = c.last_line_in-line.ensures.value in
    step.none (sym found ∙ omega arith)
