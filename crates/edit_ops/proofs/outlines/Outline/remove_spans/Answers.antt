use Rattle.edit_ops.proofs.Common.{◌≡◌, ◌+◌, [], length, get_or, drop, ap, sym, ◌∙◌, arith, drop_of_length-le}
use Rattle.edit_ops.proofs.Common.{drop_more, characters, line_of, line_start-le, removed_spans, outlineed}
use Rattle.edit_ops.proofs.Common.{length-characters, Span}
use Rattle.edit_ops.proofs.DeleteLaws.{removing-first, removing-more, span-within}
use Rattle.edit_ops.proofs.outlines.Outline.remove_spans.Goals as goal

pub loop-span-init : goal.loop-span-init
loop-span-init g c =
    let cells = (g.S.TextStore.content c.args.store.now).cells in
    let long = length-characters cells in
    rw c.len-border.ensures (removing-first c.args.keeps c.args.self.now (characters cells) c.args.spans.now
    (length cells) long c.requires.apart)

pub to_next_line-rest-requires-clause-behind : goal.to_next_line-rest-requires-clause-behind
to_next_line-rest-requires-clause-behind g c =
    let left = drop_more c.args.spans.now c.loop-span.span-index (record { from = 0; to = 0 }) c.loop-span-test.true in
    let far = span-within c.loop-span.invariant left in
    omega (arith, far, c.line_behind-behind.ensures)

pub loop-span-preserved : goal.loop-span-preserved
loop-span-preserved g c =
    let text = characters (g.S.TextStore.content c.args.store.now).cells in
    let i = c.loop-span.span-index in
    let d : Span = record { from = 0; to = 0 } in
    let bound = line_start-le text (line_of text (get_or c.args.spans.now i d).to + 1) in
    removing-more c.loop-span.invariant (drop_more c.args.spans.now i d c.loop-span-test.true)
    (omega (arith, bound, c.line_behind-behind.ensures)) c.line_behind-behind.ensures c.in_ok-text.ensures
    c.line_at-line.ensures c.to_next_line-rest.ensures c.in_ok-remove.ensures

pub returns-clause-makes : goal.returns-clause-makes
returns-clause-makes g c = λ recording kind state kept fits is.
    let done = c.loop-span.invariant.goes recording kind state kept fits is in
    let none : drop c.loop-span.span-index c.args.spans.now
    ≡ [] = drop_of_length-le c.args.spans.now c.loop-span-test.false in (
      done.fits,
      sym (ap (λ left. removed_spans recording kind left (outlineed recording kind c.loop-span.self state))
          none) ∙ done.makes,
    )
