use Rattle.undo_stack.proofs.Common.{◌≡◌, length, drop, sym, ap, ◌∙◌, arith, newest, Kept}
use Rattle.undo_stack.proofs.RingLaws.{count-groups, newest-past}
use Rattle.undo_stack.proofs.stack.UndoStack.extra_groups.Goals as goal

pub returns-then-self-gt0-clause-drops : goal.returns-then-self-gt0-clause-drops
returns-then-self-gt0-clause-drops c =
    let own = c.self.inside in
    let groups = c.args.self.now.history.groups in
    let counted : length groups ≡ own.groups =
    sym (ap (λ (kept : Kept). length kept.history.groups) c.self.view_is)
    ∙ count-groups own.lengths.items own.actions.items own.groups c.self.invariant.within in
    ap (λ n. drop n groups) c.saturating_sub.ensures ∙ newest-past own.most own.groups groups c.if-self-gt0.true counted
    ∙ ap (λ (kept : Kept). newest kept.most groups) c.self.view_is

pub returns-then-self-gt0-clause-some : goal.returns-then-self-gt0-clause-some
returns-then-self-gt0-clause-some c =
    let own = c.self.inside in
    let counted : length c.args.self.now.history.groups ≡ own.groups =
    sym (ap (λ (kept : Kept). length kept.history.groups) c.self.view_is)
    ∙ count-groups own.lengths.items own.actions.items own.groups c.self.invariant.within in
    λ past. omega (arith, past, counted, c.saturating_sub.ensures, c.if-self-gt0.true)
