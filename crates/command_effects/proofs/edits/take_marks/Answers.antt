use Rattle.command_effects.proofs.Common.{◌≡◌, sym, ap, subst, ◌∙◌, OnOk, take_all, Fits, after}
use Rattle.command_effects.proofs.TakeLaws.{takes, takes-fit, takes-after, takes-more}
use Rattle.command_effects.proofs.edits.take_marks.Goals as goal

pub loop-number-preserved : goal.loop-number-preserved
loop-number-preserved g c =
    c.in_ok-push.ensures.ok ∙ takes-more c.args.numbers.now c.loop-number.number-index _ c.loop-number.steps
    c.loop-number-test.true c.loop-number.invariant

pub make-requires : goal.make-requires
make-requires g c =
    let content = g.S.TextStore.content c.args.store.now in
    let steps : c.loop-number.steps ≡ takes c.args.numbers.now = c.loop-number.invariant
    ∙ ap takes (take_all c.loop-number.number-index c.args.numbers.now c.loop-number-test.false) in
    subst (λ ss. Fits ss content) (sym steps) (takes-fit c.args.numbers.now content)

pub returns-clause-ok : goal.returns-clause-ok
returns-clause-ok g c =
    let content = g.S.TextStore.content c.args.store.now in
    let steps : c.loop-number.steps ≡ takes c.args.numbers.now = c.loop-number.invariant
    ∙ ap takes (take_all c.loop-number.number-index c.args.numbers.now c.loop-number-test.false) in
    subst (λ made. OnOk c.make.result (g.S.TextStore.content c.make.new.store ≡ made))
    (ap (λ ss. after ss content) steps ∙ takes-after c.args.numbers.now content) c.make.ensures.ok
