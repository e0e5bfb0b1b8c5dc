use Rattle.undo_stack.proofs.Common.{◌∙◌, [], ap, ap₂, arith, Kept, history_of}
use Rattle.undo_stack.proofs.RingLaws.{undone-goes, part-within}
use Rattle.undo_stack.proofs.stack.UndoStack.drop_undone.Goals as goal

pub returns-clause-history : goal.returns-clause-history
returns-clause-history c =
    let own = c.self.inside in
    ap₂ (λ ns xs. history_of ns xs own.groups own.done own.takes_more own.last) c.truncate.ensures.items
    c.truncate-2.ensures.items
    ∙ undone-goes own.lengths.items own.actions.items own.actions.len own.groups own.done own.takes_more own.last
    c.self.invariant
    (omega (
      arith,
      own.actions.ok.0,
      part-within own.lengths.items own.actions.len own.groups own.done own.takes_more
          c.self.invariant,
    ))
    ∙ ap (λ (kept : Kept). record kept.history { undone = [] }) c.self.view_is
