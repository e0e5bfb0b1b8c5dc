use Rattle.edit_ops.proofs.Common.{arith, log_of, ◌∙◌, ap, log_noted, length-characters, Delete}
use Rattle.edit_ops.proofs.WithinLaws.{line-at-once, next-at-once, taken-at-once, written-back}
use Rattle.edit_ops.proofs.within.delete_within.Goals as goal

pub returns-clause-made : goal.returns-clause-made
returns-clause-made g c = λ _ start.
    let recording = c.args.rules.now.recording in
    let span = c.args.span in
    let content = g.S.TextStore.content c.args.text.now.store in
    let some = c.if-span.false in
    let below = c.if-span-end.false in
    let inside = c.if-span-line.false in
    let long = length-characters content.cells in
    taken-at-once recording start c.args.end span content c.args.text.now.anchors.items (log_of c.args.text.now.history)
    (omega (arith, some)) (omega (arith, below)) c.requires (c.in_ok-take_within.ensures.made c.if-not-branch.false)
    (written-back c.args.text.now.anchors _ _ _ c.draw_anchors.ensures c.deref_mut.ensures.value) c.in_ok-kept.ensures
    (c.note_action.ensures ∙ ap (log_noted recording Delete _) c.reserve_note.ensures.same)
    (line-at-once c.line_at-line.ensures)
    (next-at-once c.line_at-line.ensures (omega (arith, some)) (omega (arith, below, long, c.requires)) (omega (arith, inside)))
