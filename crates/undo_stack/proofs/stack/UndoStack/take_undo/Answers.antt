use Rattle.undo_stack.proofs.Common.{◌-◌, take, drop, refl, sym, ap, ap₂, ◌∙◌, next_undo, after_undo, times}
use Rattle.undo_stack.proofs.Common.{counted_down, Kept}
use Rattle.undo_stack.proofs.BorderLaws.{last-moves}
use Rattle.undo_stack.proofs.stack.UndoStack.take_undo.Goals as goal

pub returns-clause-some : goal.returns-clause-some
returns-clause-some c =
    let own = c.self.inside in
    let group = last-moves own.lengths.items own.actions.items own.actions.len own.groups own.done
    c.index-len.result.now own.takes_more own.last
    c.self.invariant own.actions.ok.0 c.if-self-eq0.false c.index-len.ensures in
    let found = sym (ap (λ (kept : Kept). next_undo kept.history) c.self.view_is) ∙ group.found in
    (λ _. rw found refl, λ _. refl)

pub returns-clause-history : goal.returns-clause-history
returns-clause-history c =
    let own = c.self.inside in
    let group = last-moves own.lengths.items own.actions.items own.actions.len own.groups own.done
    c.index-len.result.now own.takes_more own.last
    c.self.invariant own.actions.ok.0 c.if-self-eq0.false c.index-len.ensures in
    let found = sym (ap (λ (kept : Kept). next_undo kept.history) c.self.view_is) ∙ group.found in
    rw found (group.moved
    ∙ ap (λ (kept : Kept). after_undo (take c.index-len.result.now
    (drop (own.done - c.index-len.result.now) own.actions.items)) kept.history) c.self.view_is)

pub returns-clause-modified : goal.returns-clause-modified
returns-clause-modified c =
    let own = c.self.inside in
    let group = last-moves own.lengths.items own.actions.items own.actions.len own.groups own.done
    c.index-len.result.now own.takes_more own.last
    c.self.invariant own.actions.ok.0 c.if-self-eq0.false c.index-len.ensures in
    let found = sym (ap (λ (kept : Kept). next_undo kept.history) c.self.view_is) ∙ group.found in
    rw found (c.revert.ensures
    ∙ ap₂ (λ n (kept : Kept). times n counted_down kept.modified) (sym group.long) c.self.view_is)
