use Rattle.std.proofs.Common.{◌≡◌, subst, sym, ap, ◌∙◌, IfSome}
use Rattle.edit_ops.specs.Keeping.{IsKept}
use Rattle.edit_ops.specs.Plans.{planned}
use Rattle.edit_ops.specs.Reversals.{redone}
use Rattle.edit_ops.specs.States.{Log, log_of, state_in}
use Rattle.edit_ops.proofs.ReversalLaws.{redone-kept}
use Rattle.command_tests.specs.declared.plans.TheConstants.{RECORDING}
use Rattle.command_tests.proofs.plans.redo.Goals as goal

pub returns : goal.returns
returns g c =
    let plan = c.expect-plan.result in
    let made = g.S.TextStore.outcome c.plan_redo.new.text.store plan.prepared in
    let is = c.commit.ensures
    ∙ ap (λ (log : Log). planned plan.effects made c.plan_redo.new.text.anchors.items log) c.plan_redo.ensures.same.1
    ∙ ap (λ anchors. planned plan.effects made anchors (log_of c.args.text.now.history)) c.plan_redo.ensures.same.2
    ∙ subst (λ found. IfSome found (λ plan. planned plan.effects
    (g.S.TextStore.outcome c.plan_redo.new.text.store plan.prepared) c.args.text.now.anchors.items
    (log_of c.args.text.now.history) ≡ redone 0 (state_in g.S.TextStore.content c.args.text.now)))
    c.expect-plan.ensures c.in_ok-plan_redo.ensures.outcome in
    subst (IsKept c.args.limits.now.chars RECORDING) (sym is)
    (redone-kept c.args.limits.now.chars 0 RECORDING _ c.requires)
