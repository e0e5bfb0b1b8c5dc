use Rattle.edit_ops.proofs.Common.{arith, chars, log_of, shared_slots, ◌∙◌, ap, log_noted}
use Rattle.undo_stack.specs.declared.actions.EditKind.TheVariants.{Insert}
use Rattle.edit_ops.proofs.WithinLaws.{put-at-once, put-count, written-back}
use Rattle.edit_ops.proofs.within.insert_within.Goals as goal

pub returns-clause-made : goal.returns-clause-made
returns-clause-made g c = λ _.
    let recording = c.args.rules.now.recording in
    let text = chars c.args.piece.now in
    let content = g.S.TextStore.content c.args.text.now.store in
    let made = c.in_ok-put_within.ensures.made c.if-not-branch.false in
    let long = put-count c.args.at text (shared_slots c.args.at content.cells) content _ c.requires.within made in
    put-at-once recording Insert c.args.at text content c.args.text.now.anchors.items (log_of c.args.text.now.history)
    (c.needs_no_plan.ensures.some c.if-not-needs_no_plan.false)
    (omega (arith, long, c.len.ensures, c.len-len.ensures)) made
    (written-back c.args.text.now.anchors _ _ _ c.move_anchors.ensures c.deref_mut.ensures.value) c.in_ok-kept.ensures
    (c.note_action.ensures ∙ ap (log_noted recording Insert _) c.reserve_note.ensures.same)
