use Rattle.undo_stack.proofs.Common.{◌≡◌, ◌<◌, ◌-◌, length, drop, sym, ap, ◌∙◌, arith, Kept, history_of}
use Rattle.undo_stack.proofs.RingLaws.{pops, count-groups, first-within, oldest-goes, oldest-gone}
use Rattle.undo_stack.proofs.stack.UndoStack.drop_oldest.Goals as goal

pub overflow_sub-self-2 : goal.overflow_sub-self-2
overflow_sub-self-2 c =
    let own = c.self.inside in
    let same : length c.args.self.now.history.groups ≡ own.groups =
    sym (ap (λ (kept : Kept). length kept.history.groups) c.self.view_is)
    ∙ count-groups own.lengths.items own.actions.items own.groups c.self.invariant.within in
    let several : 1 < own.groups = omega (arith, c.requires, same) in
    let is = pops own.lengths.items c.pop_front.new.self.items c.pop_front.result c.unwrap_or-length.result
    own.lengths.len
    (omega (arith, several, c.self.invariant.within)) own.lengths.ok.0 c.unwrap_or-length.ensures
    c.pop_front.ensures.value c.pop_front.ensures.rest in
    let whole = first-within c.unwrap_or-length.result c.pop_front.new.self.items own.lengths.items own.groups own.done
    is (omega (arith, several)) c.self.invariant.part in
    omega (arith, whole)

pub invariant_of-self : goal.invariant_of-self
invariant_of-self c =
    let own = c.self.inside in
    let same : length c.args.self.now.history.groups ≡ own.groups =
    sym (ap (λ (kept : Kept). length kept.history.groups) c.self.view_is)
    ∙ count-groups own.lengths.items own.actions.items own.groups c.self.invariant.within in
    let several : 1 < own.groups = omega (arith, c.requires, same) in
    let is = pops own.lengths.items c.pop_front.new.self.items c.pop_front.result c.unwrap_or-length.result
    own.lengths.len
    (omega (arith, several, c.self.invariant.within)) own.lengths.ok.0 c.unwrap_or-length.ensures
    c.pop_front.ensures.value c.pop_front.ensures.rest in
    oldest-gone c.unwrap_or-length.result c.pop_front.new.self.items own.lengths.items own.actions.len own.groups
    own.done c.drop_front.new.actions.len own.takes_more
    is several c.self.invariant c.drop_front.ensures.len

pub returns-clause-history : goal.returns-clause-history
returns-clause-history c =
    let own = c.self.inside in
    let same : length c.args.self.now.history.groups ≡ own.groups =
    sym (ap (λ (kept : Kept). length kept.history.groups) c.self.view_is)
    ∙ count-groups own.lengths.items own.actions.items own.groups c.self.invariant.within in
    let several : 1 < own.groups = omega (arith, c.requires, same) in
    let is = pops own.lengths.items c.pop_front.new.self.items c.pop_front.result c.unwrap_or-length.result
    own.lengths.len
    (omega (arith, several, c.self.invariant.within)) own.lengths.ok.0 c.unwrap_or-length.ensures
    c.pop_front.ensures.value c.pop_front.ensures.rest in
    ap (λ xs. history_of c.pop_front.new.self.items xs (own.groups - 1) (own.done - c.unwrap_or-length.result)
    own.takes_more own.last) c.drop_front.ensures.items
    ∙ oldest-goes c.unwrap_or-length.result c.pop_front.new.self.items own.actions.items own.groups own.done
    own.lengths.items own.takes_more own.last
    is (omega (arith, several)) c.self.invariant.part
    ∙ ap (λ (kept : Kept). record kept.history { groups = drop 1 kept.history.groups }) c.self.view_is
