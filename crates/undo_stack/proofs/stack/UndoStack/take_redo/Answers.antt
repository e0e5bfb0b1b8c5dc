use Rattle.undo_stack.proofs.Common.{◌<◌, length, take, drop, sym, ap, ap₂, ◌∙◌, arith, next_redo, after_redo, limited}
use Rattle.undo_stack.proofs.Common.{times, counted_up, Kept}
use Rattle.undo_stack.proofs.BorderLaws.{next-moves}
use Rattle.undo_stack.proofs.stack.UndoStack.take_redo.Goals as goal

pub returns-clause-history : goal.returns-clause-history
returns-clause-history c =
    let own = c.self.inside in
    let some : own.groups < length own.lengths.items = omega (
      arith,
      c.if-self-len.false,
      c.len.ensures,
      own.lengths.ok.0,
      c.self.invariant.within,
    ) in
    let group = next-moves own.lengths.items own.actions.items own.actions.len own.groups own.done
    c.index-len.result.now own.takes_more own.last
    c.self.invariant own.actions.ok.0 some c.index-len.ensures in
    let found = sym (ap (λ (kept : Kept). next_redo kept.history) c.self.view_is) ∙ group.found in
    rw found (c.cut.ensures.history ∙ ap (limited own.most) group.moved
    ∙ ap (λ (kept : Kept). after_redo (take c.index-len.result.now (drop own.done own.actions.items)) kept.most
    kept.history) c.self.view_is)

pub returns-clause-modified : goal.returns-clause-modified
returns-clause-modified c =
    let own = c.self.inside in
    let some : own.groups < length own.lengths.items = omega (
      arith,
      c.if-self-len.false,
      c.len.ensures,
      own.lengths.ok.0,
      c.self.invariant.within,
    ) in
    let group = next-moves own.lengths.items own.actions.items own.actions.len own.groups own.done
    c.index-len.result.now own.takes_more own.last
    c.self.invariant own.actions.ok.0 some c.index-len.ensures in
    let found = sym (ap (λ (kept : Kept). next_redo kept.history) c.self.view_is) ∙ group.found in
    rw found (c.cut.ensures.modified ∙ c.repeat.ensures
    ∙ ap₂ (λ n (kept : Kept). times n counted_up kept.modified) (sym group.long) c.self.view_is)
