use Rattle.command_effects.proofs.Common.{◌≡◌, sym, ap, subst, ◌∙◌, IfOk, get_or, ◌*◌, TakeMark, take_all, Fits, after}
use Rattle.command_effects.proofs.Common.{◌+◌, ◌++◌, ◌∷◌, []}
use Rattle.command_effects.proofs.TakeLaws.{drops, drops-fit, drops-after, drops-more}
use Rattle.command_effects.proofs.edits.prepare_drop.Goals as goal

pub prepare_owned-requires : goal.prepare_owned-requires
prepare_owned-requires g c =
    let content = g.S.TextStore.content c.args.store.now in
    let steps : c.loop-slot.steps ≡ drops c.args.slots.now = c.loop-slot.invariant
    ∙ ap drops (take_all c.loop-slot.slot-index c.args.slots.now c.loop-slot-test.false) in
    subst (λ ss. Fits ss content) (sym steps) (drops-fit c.args.slots.now content c.requires)

pub returns-clause-outcome : goal.returns-clause-outcome
returns-clause-outcome g c =
    let content = g.S.TextStore.content c.args.store.now in
    let steps : c.loop-slot.steps ≡ drops c.args.slots.now = c.loop-slot.invariant
    ∙ ap drops (take_all c.loop-slot.slot-index c.args.slots.now c.loop-slot-test.false) in
    subst (λ made. IfOk c.prepare_owned.result (λ change. g.S.TextStore.outcome c.prepare_owned.new.self change ≡ made))
    (ap (λ ss. after ss content) steps ∙ drops-after c.args.slots.now content) c.prepare_owned.ensures.outcome

pub loop-slot-preserved : goal.loop-slot-preserved
loop-slot-preserved g c =
    let slot = get_or c.args.slots.now c.loop-slot.slot-index _ in
    c.in_ok-push-3.ensures.ok
    ∙ ap (λ steps. steps ++ TakeMark (record { 0 = 2 * slot.0 + 1 }) ∷ [])
    (c.in_ok-push-2.ensures.ok ∙ ap (λ steps. steps ++ TakeMark (record { 0 = 2 * slot.0 }) ∷ [])
    c.in_ok-push.ensures.ok)
    ∙ drops-more c.args.slots.now c.loop-slot.slot-index _ c.loop-slot.steps c.loop-slot-test.true
    c.loop-slot.invariant
