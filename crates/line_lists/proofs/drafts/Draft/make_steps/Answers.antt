use Rattle.line_lists.proofs.Common.{◌+◌, drop, ◌∙◌, text_in}
use Rattle.line_lists.proofs.StepTexts.{goes-at, goes-on, step-fits}
use Rattle.line_lists.proofs.drafts.Draft.make_steps.Goals as goal

pub make_step-requires-clause-fits : goal.make_step-requires-clause-fits
make_step-requires-clause-fits g c =
    let first = text_in g.L.LineList.lines c.args.self.now in
    let text = text_in g.L.LineList.lines c.loop-step.self in
    let steps = c.args.steps.now in
    let step = c.step-item.result in
    let goes = goes-at steps first text step c.loop-step.step-index c.loop-step.len c.loop-step-test.true c.step-item.is
    c.loop-step.invariant.2 in
    step-fits steps (drop (c.loop-step.step-index + 1) steps) first text step c.loop-step.len goes

pub loop-step-preserved : goal.loop-step-preserved
loop-step-preserved g c =
    let first = text_in g.L.LineList.lines c.args.self.now in
    let text = text_in g.L.LineList.lines c.loop-step.self in
    let new = text_in g.L.LineList.lines c.make_step.new.self in
    let steps = c.args.steps.now in
    let step = c.step-item.result in
    let made = c.in_ok-len.ensures in
    let so_far = c.loop-step.invariant in
    let goes = goes-at steps first text step c.loop-step.step-index c.loop-step.len c.loop-step-test.true c.step-item.is
    so_far.2 in (
      made.list ∙ so_far.0,
      made.is,
      goes-on steps (drop (c.loop-step.step-index + 1) steps) first text new step
          c.loop-step.len c.in_ok-len.len goes made.new made.len made.some,
    )
