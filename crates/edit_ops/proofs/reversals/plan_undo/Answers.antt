use Rattle.edit_ops.proofs.Common.{true, sym, ◌∙◌, characters, replays, anchors_left, log_of}
use Rattle.edit_ops.proofs.ReplayLaws.{undo-fits-replay, undo-planned, plan-widgets}
use Rattle.edit_ops.proofs.reversals.plan_undo.Goals as goal

pub outline_group-requires-clause-fits : goal.outline_group-requires-clause-fits
outline_group-requires-clause-fits g c =
    undo-fits-replay c.args.rules.now.limits.now.chars c.args.text.now.history.history
    (characters (g.S.TextStore.content c.args.text.now.store).cells) c.in-Some.group c.requires.fits
    (sym c.last_undo.ensures ∙ c.in-Some.is)

pub returns-clause-widgets : goal.returns-clause-widgets
returns-clause-widgets g c =
    plan-widgets c.args.mark.0 (replays true c.in-Some.group) _ (g.S.TextStore.content c.args.text.now.store)
    (anchors_left c.in_ok-plan.plan.effects c.args.text.now.anchors.items) c.args.text.now.anchors.items
    (log_of c.args.text.now.history) (λ log. c.in_ok-plan.ensures.outcome log ∙ c.in_ok-outline.ensures.makes log)

pub returns-clause-outcome : goal.returns-clause-outcome
returns-clause-outcome g c =
    undo-planned c.args.mark.0 c.in-Some.group c.in_ok-plan.plan.effects _
    (g.S.TextStore.content c.args.text.now.store) c.args.text.now.anchors.items (log_of c.args.text.now.history)
    c.in_ok-plan.ensures.notes (sym c.last_undo.ensures ∙ c.in-Some.is)
    (λ log. c.in_ok-plan.ensures.outcome log ∙ c.in_ok-outline.ensures.makes log)
