use Rattle.undo_stack.proofs.Common.{◌+◌, ◌∙◌, false, ap, ap₂, joined, Kept, history_of}
use Rattle.undo_stack.proofs.RingLaws.{none-undone, begins-group, begun}
use Rattle.undo_stack.proofs.stack.UndoStack.begin_group.Goals as goal

pub invariant_of-self : goal.invariant_of-self
invariant_of-self c =
    let own = c.self.inside in
    let none = ap (λ (kept : Kept). kept.history.undone) c.self.view_is ∙ c.requires.last in
    let all = none-undone own.lengths.items _ own.actions.len own.groups own.done own.takes_more c.self.invariant none
    in
    rw (c.push_back_reserved.ensures.items, c.push_back_reserved-2.ensures.len)
    (begun own.lengths.items own.actions.len own.groups own.done own.takes_more c.self.invariant all)

pub returns-clause-history : goal.returns-clause-history
returns-clause-history c =
    let own = c.self.inside in
    let none = ap (λ (kept : Kept). kept.history.undone) c.self.view_is ∙ c.requires.last in
    let all = none-undone own.lengths.items _ own.actions.len own.groups own.done own.takes_more c.self.invariant none
    in
    ap₂ (λ ns xs. history_of ns xs (own.groups + 1) (own.done + 1) own.takes_more own.last)
    c.push_back_reserved.ensures.items c.push_back_reserved-2.ensures.items
    ∙ begins-group own.lengths.items own.actions.items c.args.action own.actions.len own.groups own.done own.takes_more
    own.last c.self.invariant own.actions.ok.0 all none
    ∙ ap (λ (kept : Kept). record kept.history { groups = joined false c.args.action kept.history.groups })
    c.self.view_is
