use Rattle.undo_stack.proofs.Common.{Some, sym, ap, ◌∙◌, next_undo, Kept}
use Rattle.undo_stack.proofs.BorderLaws.{last-moves}
use Rattle.undo_stack.proofs.stack.UndoStack.last_undo.Goals as goal

pub returns : goal.returns
returns c =
    let own = c.self.inside in
    let group = last-moves own.lengths.items own.actions.items own.actions.len own.groups own.done
    c.index-len.result.now own.takes_more own.last
    c.self.invariant own.actions.ok.0 c.if-self-eq0.false c.index-len.ensures in
    ap Some c.new.ensures ∙ sym group.found ∙ ap (λ (kept : Kept). next_undo kept.history) c.self.view_is
