use Rattle.std.proofs.Common.{◌<◌, ◌≤◌, ◌+◌, ℕ, inl, inr, length, subst, sym, ap, ◌∙◌}
use Rattle.std.specs.Prelude.{is_ok}
use Rattle.std.proofs.lemmas.Bool.{cases_lt, false≢true}
use Rattle.undo_stack.specs.declared.actions.EditKind.TheVariants.{Insert}
use Rattle.edit_ops.specs.Insertions.{total}
use Rattle.edit_ops.specs.Keeping.{IsKept}
use Rattle.edit_ops.specs.Plans.{planned}
use Rattle.edit_ops.specs.States.{Log, log_of}
use Rattle.edit_ops.proofs.KeepLaws.{texts-kept}
use Rattle.command_tests.specs.declared.plans.TheConstants.{RECORDING}
use Rattle.command_tests.proofs.plans.insert.Goals as goal

not-above : (n limit : ℕ) → (limit < n → ⊥) → n ≤ limit
not-above n limit never = elim (cases_lt limit n) [
  | inl above ↦ absurd (never above)
  | inr within ↦ within
]

pub returns : goal.returns
returns g c kept =
    let plan = c.in_ok-plan.plan in
    let content = g.S.TextStore.content c.args.text.now.store in
    let made = g.S.TextStore.outcome c.plan_insert.new.text.store plan.prepared in
    let is = c.commit.ensures
    ∙ ap (λ (log : Log). planned plan.effects made c.plan_insert.new.text.anchors.items log) c.plan_insert.ensures.same.1
    ∙ ap (λ anchors. planned plan.effects made anchors (log_of c.args.text.now.history)) c.plan_insert.ensures.same.2
    ∙ c.in_ok-plan.ensures.outcome in
    let short = not-above (length content.cells + total c.in_ok-piece.field-0.items) c.args.limits.now.chars
    (λ less. false≢true (sym (ap is_ok (c.plan_insert.ensures.too_long.1 less)) ∙ ap is_ok c.in_ok-plan.was)) in
    subst (IsKept c.args.limits.now.chars RECORDING) (sym is)
    (texts-kept c.args.limits.now.chars 4 RECORDING Insert c.in_ok-piece.field-0.items _ kept c.requires short)
