use Rattle.documents.proofs.Common.{known-stand, ◌*◌, Ok, Empty, ap, sym, subst, ◌∙◌, log_of, state_of, next_group}
use Rattle.documents.proofs.Common.{edit_group, widget_at, parts_of, Change, Content, Document, planned-made}
use Rattle.documents.proofs.Common.{told-planned, FitsText, LimitTable, is_some, refl}
use Rattle.documents.proofs.ChangeLaws.{Leaves}
use Rattle.documents.proofs.PartsLaws.{pairs_of, stand}
use Rattle.documents.proofs.ReversalLaws.{CanRevert, IsReversal, can-revert, group-edits, leaves-group, moved_back}
use Rattle.documents.proofs.ReversalLaws.{reversal}
use Rattle.documents.proofs.ToldLaws.{left-refused}
use Rattle.documents.proofs.StateLaws.{stands-kept, stands-unedited, state_in, with_state}
use Rattle.documents.proofs.WellFormedLaws.{fits-kept}
use Rattle.documents.proofs.documents.Document.edit_group.Given.{Over}
use Rattle.documents.proofs.documents.Document.edit_group.Goals.{In-Some, In_ok-carry_out}
use Rattle.text_model.specs.Content as text
use Rattle.documents.proofs.documents.Document.edit_group.Goals as goal

pub plan_group-requires-clause-fits : goal.plan_group-requires-clause-fits
plan_group-requires-clause-fits g c =
    subst (λ (limits : LimitTable). FitsText limits.chars
    (text.characters (g.S.TextStore.content c.self.inside.text.store).cells) c.self.inside.text.history.history)
    (sym c.rules-rules.ensures.limits)
    (fits-kept c.args.caller.now.limits.now (parts_of g.S.TextStore.content c.self.inside) c.args.self.now
    c.self.view_is c.requires.formed)

-- the group, and what the plan makes of it
reverted : (g : Over) (c : In-Some g)
    → IsReversal c.args.caller.now.limits.now c.rules-rules.result.follows c.args.back
    (next_group c.args.back c.self.inside.text.history.history) (moved_back c.args.back (2 * c.number.result))
    (state_in (parts_of g.S.TextStore.content c.self.inside))
    (g.S.TextStore.outcome c.plan_group.new.text.store c.in-Some.plan.prepared) c.in-Some.plan.effects c.in-Some.plan.delta
reverted g c =
    let plan = c.in_ok-plan.ensures in
    reversal _ (λ plan. plan.effects) _ (next_group c.args.back c.self.inside.text.history.history)
    c.in_ok-plan.field-0 c.plan_group.ensures.none c.in_ok-plan.was c.in-Some.is c.rules-rules.ensures.limits
    plan.bounds plan.scalars plan.outcome plan.delta

pub carry_out-requires-clause-stand : goal.carry_out-requires-clause-stand
carry_out-requires-clause-stand g c =
    let group = reverted g (goal.at.carry_out-requires-clause-stand g c).In-Some in
    known-stand _ _ _ c.in-Some.plan.delta (ap (λ (content : Content). content.cells) c.in_ok-plan.ensures.same.0)
    group.knows

can : (g : Over) (c : In-Some g)
    → CanRevert (parts_of g.S.TextStore.content c.self.inside) c.args.self.now c.args.caller.now.seat c.number.result
can g c =
    can-revert c.args.caller.now.seat (stand c.self.invariant c.self.view_is) c.number.ensures.value
    c.reverts_nothing.ensures c.if-reverts_nothing.false
    (ap (λ (d : Document). is_some (next_group c.args.back d.history)) (sym c.self.view_is)
    ∙ ap is_some (reverted g c).is)

-- what is left where the group is undone or redone
left : (g : Over) (c : In_ok-carry_out g)
    → Leaves c.args.caller.now.limits.now (with_state (parts_of g.S.TextStore.content c.self.inside) (state_of
    (g.S.TextStore.content c.carry_out.new.text.store) c.carry_out.new.text.anchors.items
    (log_of c.carry_out.new.text.history))) c.args.self.now (Ok Empty)
    (edit_group c.args.back c.args.self.now (widget_at c.args.self.now c.args.caller.now.seat))
left g c =
    let same = c.in_ok-plan.ensures.same in
    let at = (goal.at.invariant_of-self-2 g c).In-Some in
    let group = reverted g at in
    leaves-group c.args.back (can g at) group.is group.sound c.requires.formed
    (planned-made c.in-Some.plan.effects c.in_ok-carry_out.ensures.made same.2 same.1 group.makes)

pub invariant_of-self-2 : goal.invariant_of-self-2
invariant_of-self-2 g c = (left g c).sound

pub returns-clause-does : goal.returns-clause-does
returns-clause-does g c = (left g c).does

pub returns-clause-told : goal.returns-clause-told
returns-clause-told g c = λ follows.
    let at = (goal.at.returns-clause-told g c).In-Some in
    let group = reverted g at in
    told-planned (pairs_of (parts_of g.S.TextStore.content c.self.inside)) c.in-Some.plan.delta _ _
    c.in_ok-carry_out.ensures.told (ap (λ (content : Content). content.cells) c.in_ok-plan.ensures.same.0)
    (c.rules-rules.ensures.follows ∙ follows)
    (sym (ap (λ (change : Change). change.edits) (group-edits c.args.back (can g at) group.is))) group.knows
    (ap (λ (d : Document). d.cells) c.self.view_is)

-- nothing is left where memory is wanted, or where there is no group
pub invariant_of-self : goal.invariant_of-self
invariant_of-self g c =
    let same = c.plan_group.ensures.same in
    (stands-unedited (stand c.self.invariant c.self.view_is) same.0 same.1 same.2).sound

pub returns-in_err-plan : goal.returns-in_err-plan
returns-in_err-plan g c =
    let same = c.plan_group.ensures.same in
    left-refused c.from_residual.result c.from_residual.ensures refl
    (stands-unedited (stand c.self.invariant c.self.view_is) same.0 same.1 same.2)

pub invariant_of-self-in_default : goal.invariant_of-self-in_default
invariant_of-self-in_default g c =
    let same = c.plan_group.ensures.same in
    (stands-unedited (stand c.self.invariant c.self.view_is) same.0 same.1 same.2).sound

pub invariant_of-self-in_err-carry_out : goal.invariant_of-self-in_err-carry_out
invariant_of-self-in_err-carry_out g c =
    (stands-kept g.S.TextStore.content (stand c.self.invariant c.self.view_is) c.in_ok-plan.ensures.same
    c.in_err-carry_out.ensures.refused).sound

pub returns-in_err-carry_out : goal.returns-in_err-carry_out
returns-in_err-carry_out g c =
    left-refused c.from_residual-in_err-carry_out.result c.from_residual-in_err-carry_out.ensures refl
    (stands-kept g.S.TextStore.content (stand c.self.invariant c.self.view_is) c.in_ok-plan.ensures.same
    c.in_err-carry_out.ensures.refused)
