use Rattle.line_lists.proofs.Common.{IsCounted, plus, count_of, ◌≡◌, ◌<◌, ◌≤◌, List, [], ◌∷◌, length, get_or, sym}
use Rattle.line_lists.proofs.Common.{subst, ap, ◌∙◌, arith, Step, Fits, StepFitsIn, IfSome, IsChangedBy, after}
use Rattle.line_lists.proofs.Common.{content_of, whole}
use Rattle.line_lists.proofs.LineChangeLaws.{change-can, change-new}
use Rattle.line_lists.proofs.PlaceRows.{length-content}
use Rattle.line_lists.proofs.store.lone_change.Given.{Over}
use Rattle.line_lists.proofs.store.lone_change.Goals.{After-step-item, In-Some}
use Rattle.line_lists.proofs.store.lone_change.Goals as goal

one : (steps : List Step) (step : Step) → 1 ≤ length steps → length steps < 2 → step ≡ get_or steps 0 step →
    steps ≡ step ∷ []
one [] step some few is = absurd (omega (arith, some))
one (first ∷ []) step some few is = ap (λ s. s ∷ []) (sym is)
one (first ∷ second ∷ rest) step some few is = absurd (omega (arith, few))

-- the one step fits in the text
fits : (g : Over) (c : After-step-item g) → StepFitsIn c.step-item.result
    (length (whole (g.L.LineList.lines c.args.list.now)).columns)
fits g c =
    let list = g.L.LineList.lines c.args.list.now in
    let lone = one c.args.steps.now c.step-item.result c.in-len1.len_at_least c.in-len1.len_below c.step-item.is in
    subst (StepFitsIn c.step-item.result) (length-content list)
    (subst (λ steps. Fits steps (content_of list)) lone c.requires).0

changed : (g : Over) (c : In-Some g) →
    IsChangedBy c.step-item.result (g.L.LineList.lines c.args.list.now) c.in-Some.change
changed g c = subst (λ found. IfSome found (IsChangedBy c.step-item.result (g.L.LineList.lines c.args.list.now)))
    c.in-Some.is c.in_ok-change.ensures.changed

pub line_change-requires : goal.line_change-requires
line_change-requires g c = fits g (goal.at.line_change-requires g c).After-step-item

pub returns-clause-can : goal.returns-clause-can
returns-clause-can g c =
    change-can c.in-Some.change (g.L.LineList.are_lines c.args.list.now)
    (changed g (goal.at.returns-clause-can g c).In-Some)
    (subst (λ lines. IsCounted (plus (count_of lines) (count_of (c.in-Some.change.line ∷ [])))) c.line_change.ensures.same
    c.in_ok-count_line.ensures)

pub returns-clause-new : goal.returns-clause-new
returns-clause-new g c =
    let list = g.L.LineList.lines c.args.list.now in
    let at = goal.at.returns-clause-new g c in
    change-new c.in-Some.change (changed g at.In-Some) (fits g at.After-step-item)
    ∙ ap (λ steps. after steps (content_of list)) (sym (one c.args.steps.now c.step-item.result
    c.in-len1.len_at_least c.in-len1.len_below c.step-item.is))
