use Rattle.undo_stack.proofs.Common.{◌+◌, ◌∙◌, true, ap, ap₂, arith, joined, Kept, history_of}
use Rattle.undo_stack.proofs.RingLaws.{none-undone, joins-group, joined-on, pops-last}
use Rattle.undo_stack.proofs.stack.UndoStack.join_group.Goals as goal

pub invariant_of-self : goal.invariant_of-self
invariant_of-self c =
    let own = c.self.inside in
    let none = ap (λ (kept : Kept). kept.history.undone) c.self.view_is ∙ c.requires.last in
    let all = none-undone own.lengths.items _ own.actions.len own.groups own.done own.takes_more c.self.invariant none
    in
    let some = c.self.invariant.some (ap (λ (kept : Kept). kept.history.takes_more) c.self.view_is
    ∙ c.requires.takes) in
    let is = pops-last own.lengths.items c.pop_back.new.self.items c.pop_back.result c.unwrap_or-length.result
    own.lengths.len 0
    (omega (arith, all, some)) own.lengths.ok.0 c.unwrap_or-length.ensures c.pop_back.ensures.items
    c.pop_back.ensures.value in
    rw (c.push_back_reserved.ensures.items, c.push_back_reserved-2.ensures.len)
    (joined-on c.pop_back.new.self.items own.lengths.items c.unwrap_or-length.result own.actions.len own.groups own.done
    own.takes_more is c.self.invariant all)

pub returns-clause-history : goal.returns-clause-history
returns-clause-history c =
    let own = c.self.inside in
    let none = ap (λ (kept : Kept). kept.history.undone) c.self.view_is ∙ c.requires.last in
    let all = none-undone own.lengths.items _ own.actions.len own.groups own.done own.takes_more c.self.invariant none
    in
    let some = c.self.invariant.some (ap (λ (kept : Kept). kept.history.takes_more) c.self.view_is
    ∙ c.requires.takes) in
    let is = pops-last own.lengths.items c.pop_back.new.self.items c.pop_back.result c.unwrap_or-length.result
    own.lengths.len 0
    (omega (arith, all, some)) own.lengths.ok.0 c.unwrap_or-length.ensures c.pop_back.ensures.items
    c.pop_back.ensures.value in
    ap₂ (λ ns xs. history_of ns xs own.groups (own.done + 1) own.takes_more own.last) c.push_back_reserved.ensures.items
    c.push_back_reserved-2.ensures.items
    ∙ joins-group c.pop_back.new.self.items own.lengths.items c.unwrap_or-length.result own.actions.items c.args.action
    own.actions.len own.groups own.done own.takes_more own.last
    is c.self.invariant own.actions.ok.0 all none
    ∙ ap (λ (kept : Kept). record kept.history { groups = joined true c.args.action kept.history.groups })
    c.self.view_is
