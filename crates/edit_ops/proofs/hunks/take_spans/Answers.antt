use Rattle.edit_ops.proofs.Common.{◌≡◌, [], ◌∷◌, ◌++◌, ap, ap₂, sym, ◌∙◌, chars, map-append, chars-nil, Span}
use Rattle.edit_ops.proofs.HunkLaws.{taken}
use Rattle.edit_ops.proofs.hunks.take_spans.Goals as goal

pub loop-span-preserved : goal.loop-span-preserved
loop-span-preserved c =
    let span : Span = c.in-Some.span in
    let empty : c.new-in-loop-span.result ≡ [] = c.new-in-loop-span.ensures ∙ ap chars c.new.ensures.bytes ∙ chars-nil in
    c.in_ok-push.ensures.items
    ∙ ap₂ (λ hunks text. hunks ++ record { from = span.from; to = span.to; text = text } ∷ []) c.loop-span.invariant empty
    ∙ sym (map-append taken c.loop-span.yielded (span ∷ []))
