use Rattle.undo_stack.proofs.Common.{◌<◌, Some, length, sym, ap, ◌∙◌, arith, next_redo, Kept}
use Rattle.undo_stack.proofs.BorderLaws.{next-moves}
use Rattle.undo_stack.proofs.stack.UndoStack.last_redo.Goals as goal

pub new-requires : goal.new-requires
new-requires c =
    let own = c.self.inside in
    let some : own.groups < length own.lengths.items = omega (
      arith,
      c.if-self-len.false,
      c.len.ensures,
      own.lengths.ok.0,
      c.self.invariant.within,
    ) in
    let group = next-moves own.lengths.items own.actions.items own.actions.len own.groups own.done c.index.result.now
    own.takes_more own.last
    c.self.invariant own.actions.ok.0 some c.index.ensures in
    group.within

pub returns : goal.returns
returns c =
    let own = c.self.inside in
    let some : own.groups < length own.lengths.items = omega (
      arith,
      c.if-self-len.false,
      c.len.ensures,
      own.lengths.ok.0,
      c.self.invariant.within,
    ) in
    let group = next-moves own.lengths.items own.actions.items own.actions.len own.groups own.done c.index.result.now
    own.takes_more own.last
    c.self.invariant own.actions.ok.0 some c.index.ensures in
    ap Some c.new.ensures ∙ sym group.found ∙ ap (λ (kept : Kept). next_redo kept.history) c.self.view_is
