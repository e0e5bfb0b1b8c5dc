use Rattle.std.proofs.Common.{◌≤◌, List, [], ◌∷◌, subst, sym, ap, ◌∙◌, arith}
use Rattle.std.proofs.lemmas.List.Elements.{All-cons, All-nil}
use Rattle.edit_ops.specs.declared.spans.Span.{Span}
use Rattle.edit_ops.specs.Keeping.{IsKept}
use Rattle.edit_ops.specs.Plans.{planned}
use Rattle.edit_ops.specs.States.{Log, log_of}
use Rattle.edit_ops.proofs.KeepLaws.{deleted-kept}
use Rattle.command_tests.specs.declared.plans.TheConstants.{RECORDING}
use Rattle.command_tests.proofs.plans.delete.Goals as goal

pub returns : goal.returns
returns g c kept =
    let plan = c.in_ok-plan.plan in
    let made = g.S.TextStore.outcome c.plan_delete.new.text.store plan.prepared in
    let is = c.commit.ensures
    ∙ ap (λ (log : Log). planned plan.effects made c.plan_delete.new.text.anchors.items log) c.plan_delete.ensures.same.1
    ∙ ap (λ anchors. planned plan.effects made anchors (log_of c.args.text.now.history)) c.plan_delete.ensures.same.2
    ∙ c.in_ok-plan.ensures.outcome in
    let spans : List Span = record { from = 4; to = 6 } ∷ [] in
    let end = c.len-end.ensures in let some = c.requires in
    subst (IsKept c.args.limits.now.chars RECORDING) (sym is)
    (deleted-kept c.args.limits.now.chars 0 c.len-end.result RECORDING spans _ kept
    (omega (arith, end, some)) (omega (arith, end))
    (All-cons (λ (span : Span). span.to ≤ c.len-end.result) (record { from = 4; to = 6 }) [] (omega (arith, end, some))
    (All-nil (λ (span : Span). span.to ≤ c.len-end.result))))
