use Rattle.undo_stack.proofs.Common.{◌≡◌, ◌-◌, List, length, drop, ap, ◌∙◌, arith, length-drop, Action, History}
use Rattle.undo_stack.proofs.RingLaws.{drop-one_more}
use Rattle.undo_stack.proofs.stack.UndoStack.drop_groups.Goals as goal

pub drop_oldest-requires : goal.drop_oldest-requires
drop_oldest-requires c =
    let groups = c.args.self.now.history.groups in
    let left : length c.loop.self.history.groups ≡ length groups - c.loop.counter =
    ap (λ (h : History). length h.groups) c.loop.invariant.history ∙ length-drop c.loop.counter groups in
    omega (arith, left, c.loop-test.true, c.requires (omega (arith, c.loop-test.true)))

pub loop-preserved : goal.loop-preserved
loop-preserved c = record {
  history =
      c.drop_oldest.ensures.history
      ∙ ap (λ (h : History). record h { groups = drop 1 h.groups }) c.loop.invariant.history
      ∙ ap (λ (gs : List (List Action)). record c.args.self.now.history { groups = gs })
      (drop-one_more c.loop.counter c.args.self.now.history.groups);
  modified = c.drop_oldest.ensures.modified ∙ c.loop.invariant.modified;
  most = c.drop_oldest.ensures.most ∙ c.loop.invariant.most;
  room = omega (arith, c.drop_oldest.ensures.room, c.loop.invariant.room);
}
