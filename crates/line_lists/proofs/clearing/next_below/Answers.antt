use Rattle.line_lists.proofs.Common.{◌≡◌, ◌-◌, ◌<◌, true, drop, min, subst, sym, take, ap, ◌∙◌, IfSome, slice_get}
use Rattle.line_lists.proofs.Common.{LineContent, AreFree, has_toggle}
use Rattle.line_lists.proofs.ClearingLaws.{below-free, below-stops}
use Rattle.line_lists.proofs.clearing.next_below.Goals as goal

pub returns-clause-free : goal.returns-clause-free
returns-clause-free g c =
    let lines = g.L.LineList.lines c.args.list.now in
    subst (λ n. AreFree c.args.slot.0 (take (n - c.args.from) (drop c.args.from lines)))
    (sym (c.min.ensures ∙ ap (λ n. min n c.args.end) c.unwrap_or.ensures))
    (below-free c.args.slot.0 c.args.from c.args.end lines c.requires.within c.next_with.result c.next_with.ensures)

pub returns-clause-stops : goal.returns-clause-stops
returns-clause-stops g c =
    let lines = g.L.LineList.lines c.args.list.now in
    subst (λ n. n < c.args.end → IfSome (slice_get lines n) (λ (line : LineContent). has_toggle c.args.slot.0 line
    ≡ true)) (sym (c.min.ensures ∙ ap (λ n. min n c.args.end) c.unwrap_or.ensures))
    (below-stops c.args.slot.0 c.args.from c.args.end lines c.requires.within c.next_with.result c.next_with.ensures)
