use Rattle.edit_ops.proofs.Common.{[], ◌∷◌, ◌++◌, take, ap, sym, ◌∙◌, chars, chars-nil, take_more, runs_in, runs_of}
use Rattle.edit_ops.proofs.Common.{text_in, text_of}
use Rattle.edit_ops.proofs.RowLaws.{snoc}
use Rattle.edit_ops.proofs.inserted.inserted_by.Goals as goal

pub loop-step-init : goal.loop-step-init
loop-step-init c = record { text = ap chars c.new.ensures.bytes ∙ chars-nil; runs = c.new-2.ensures.items }

pub push-requires : goal.push-requires
push-requires c =
    rw c.step-item.is (c.requires c.loop-step.step-index c.step-item.result c.loop-step-test.true)

pub loop-step-preserved : goal.loop-step-preserved
loop-step-preserved c =
    let steps = c.args.steps.now in
    let i = c.loop-step.step-index in
    let step = c.step-item.result in
    let more = take_more steps i step c.loop-step-test.true
    ∙ ap (λ s. take i steps ++ s ∷ []) (sym c.step-item.is) in
    record {
      text = c.in_ok-push.ensures.text ∙ ap (λ xs. xs ++ text_of step) c.loop-step.invariant.text
          ∙ snoc text_of (take i steps) step ∙ ap text_in (sym more);
      runs = c.in_ok-push.ensures.runs ∙ ap (λ xs. xs ++ runs_of step) c.loop-step.invariant.runs
          ∙ snoc runs_of (take i steps) step ∙ ap runs_in (sym more);
    }
