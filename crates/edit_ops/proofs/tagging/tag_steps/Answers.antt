use Rattle.edit_ops.proofs.Common.{◌≡◌, sym, ap, ◌∙◌, subst, All, in_spans, SpanFits}
use Rattle.std.proofs.lemmas.Result.{IfOk-weaker}
use Rattle.edit_ops.proofs.CoverLaws.{in-reversed, runs-fit, tagged-same}
use Rattle.edit_ops.proofs.tagging.tag_steps.Goals as goal

pub span_steps-requires-2-clause-spans : goal.span_steps-requires-2-clause-spans
span_steps-requires-2-clause-spans c = subst (All (SpanFits c.args.len))
    (sym (c.as_slice.ensures.value ∙ c.reverse.ensures.items))
    (runs-fit c.args.len c.in_ok-runs.runs.items
    (c.in_ok-runs.ensures.apart c.args.len (λ k d within. (c.requires.spans k d within).within)))

pub returns : goal.returns
returns c =
    let slot = c.args.slot.0 in let on = c.args.is_on in let spans = c.args.spans.now in
    let runs = c.as_slice.result.now in let found = c.in_ok-runs.runs.items in
    let is : runs ≡ _ = c.as_slice.ensures.value ∙ c.reverse.ensures.items in
    let fit : All (SpanFits c.args.len) runs = subst (All (SpanFits c.args.len)) (sym is)
    (runs-fit c.args.len found
    (c.in_ok-runs.ensures.apart c.args.len (λ k d within. (c.requires.spans k d within).within))) in
    IfOk-weaker c.span_steps-2.result _ _ (λ steps made content long.
    let makes = made content long in (
      makes.0,
      makes.1 ∙ tagged-same slot on runs spans content
          (subst (λ n. All (SpanFits n) runs) (sym long) fit) (subst (λ n. All (SpanFits n) spans) (sym long) c.requires.spans)
          (λ offset. ap (λ all. in_spans all offset) is ∙ in-reversed found offset ∙ c.in_ok-runs.ensures.covers offset),
    ))
    c.span_steps-2.ensures
