use Rattle.edit_ops.proofs.Common.{◌≡◌, ℕ, ◌+◌, ◌++◌, [], ◌∷◌, length, ap, sym, ◌∙◌, arith, IsSome, option_to_list}
use Rattle.edit_ops.proofs.Common.{nil_from_length, length_push, in_spans}
use Rattle.edit_ops.proofs.RunLaws.{merging-first, merging-joined, merging-next, some_is, merged-in, apart-below}
use Rattle.edit_ops.proofs.RunLaws.{few-apart, in-within}
use Rattle.edit_ops.proofs.runs.union.Goals.{in-Some-pop+then-span-run+in_ok-push, in-Some-pop+else-span-run}
use Rattle.edit_ops.proofs.runs.union.Goals.{in_default-pop}
use Rattle.edit_ops.proofs.runs.union.Goals as goal

pub loop-init : goal.loop-init
loop-init c = record {
  left = omega arith;
  merges = rw c.in_ok-runs.ensures.items
      (merging-first c.args.spans.now c.in_ok-left.left.items c.pop.new.self.items c.in-Some.run'
      (c.pop.ensures.items ∙ ap (λ o. c.pop.new.self.items ++ option_to_list o) c.in-Some.is)
      c.in_ok-left.ensures.filled c.in_ok-left.ensures.ordered c.in_ok-left.ensures.covers);
}

pub loop-preserved : goal.loop-preserved
loop-preserved c =
    let before = c.loop.left.items in
    let left = c.pop-in-loop.new.self.items in
    let counted = c.loop.invariant.left in
    elim c.match-pop-2.branch [
      | in-Some-pop+then-span-run+in_ok-push w ↦
          let apart : before ≡ left ++ w.in-Some-pop.span ∷ [] = c.pop-in-loop.ensures.items
          ∙ ap (λ o. left ++ option_to_list o) w.in-Some-pop.is in
          record {
            left = let long : length before ≡ length left + 1 = ap length apart ∙ length_push left w.in-Some-pop.span in
                omega (arith, counted, long);
            merges = rw (w.runs-is, w.run-is, w.in_ok-push.ensures.items)
                (merging-next left w.in-Some-pop.span c.loop.invariant.merges apart w.if-span-run.true);
          }
      | in-Some-pop+else-span-run w ↦
          let apart : before ≡ left ++ w.in-Some-pop.span ∷ [] = c.pop-in-loop.ensures.items
          ∙ ap (λ o. left ++ option_to_list o) w.in-Some-pop.is in
          record {
            left = let long : length before ≡ length left + 1 = ap length apart ∙ length_push left w.in-Some-pop.span in
                omega (arith, counted, long);
            merges = rw (w.runs-is, w.run-is)
                (merging-joined left w.in-Some-pop.span c.loop.invariant.merges apart w.min.result w.if-span-run.false
                w.min.ensures);
          }
      | in_default-pop w ↦
          let some : IsSome c.pop-in-loop.result = c.pop-in-loop.ensures.variant.1
          (omega (arith, counted, c.loop-test.true, c.len-end.ensures, c.loop.left.ok.0)) in
          let is = some_is c.pop-in-loop.result some in
          absurd (w.in_default-pop.not-Some is.0 is.1)
    ]

pub returns-then-len-lt2-clause-apart : goal.returns-then-len-lt2-clause-apart
returns-then-len-lt2-clause-apart c = λ end within.
    let spans = c.args.spans.now in
    let runs = c.in_ok-left.left.items in
    let few = few-apart runs (omega (arith, c.len.ensures, c.if-len-lt2.true, c.in_ok-left.left.ok.0))
    c.in_ok-left.ensures.filled in
    apart-below few.0 end runs few.1 (λ offset is.
    in-within spans end offset within (sym (c.in_ok-left.ensures.covers offset) ∙ is))

pub returns : goal.returns
returns c =
    let items = c.in_ok-push-2.ensures.items in
    let spans = c.args.spans.now in
    let none : c.loop.left.items ≡ [] = nil_from_length c.loop.left.items
    (omega (arith, c.loop.invariant.left, c.loop-test.false, c.len-end.ensures)) in
    let covers : (offset : ℕ) → in_spans c.push-2.new.self.items offset ≡ in_spans spans offset =
    λ offset. ap (λ xs. in_spans xs offset) items
    ∙ merged-in spans c.loop.left.items c.loop.runs.items c.loop.run c.loop.invariant.merges none offset in
    record {
      apart = λ end within. apart-below c.loop.invariant.merges.apart.0 end c.push-2.new.self.items
          (rw items c.loop.invariant.merges.apart.1)
          (λ offset is. in-within spans end offset within (sym (covers offset) ∙ is));
      covers = covers;
    }
