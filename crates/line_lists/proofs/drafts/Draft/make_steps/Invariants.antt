use Rattle.line_lists.proofs.Common.{◌≡◌, drop, IsTextIn, text_in}
use Rattle.line_lists.proofs.StepTexts.{Goes}
use Rattle.line_lists.proofs.drafts.Draft.make_steps.Given as goal

abbrev pub invariant-loop-step : goal.invariant-loop-step
invariant-loop-step g l =
    (l.self.list.now ≡ l.initial.self.list.now)
    × IsTextIn g.L.LineList.lines l.self
    × Goes l.steps (text_in g.L.LineList.lines l.initial.self)
    (drop l.step-index l.steps) (text_in g.L.LineList.lines l.self)
    l.len
