use Rattle.text_cursor.proofs.LookLaws.{FarLine}
use Rattle.text_cursor.proofs.cursors.Cursor.far_line.Given as goal

abbrev pub invariant-loop-left : goal.invariant-loop-left
invariant-loop-left g l =
    FarLine (g.S.TextStore.content l.store).cells l.self.fresh.items l.self.front.far.items l.left l.end

abbrev pub decreases-loop-left : goal.decreases-loop-left
decreases-loop-left g l = l.left
