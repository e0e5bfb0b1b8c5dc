use Rattle.text_cursor.proofs.LookLaws.{FarPassed}
use Rattle.text_cursor.proofs.cursors.Cursor.far_next.Given as goal

abbrev pub invariant-loop-left : goal.invariant-loop-left
invariant-loop-left g l =
    FarPassed (g.S.TextStore.content l.store).cells l.self.fresh.items l.self.behind.far.items l.left l.far

abbrev pub decreases-loop-left : goal.decreases-loop-left
decreases-loop-left g l = l.left
