use Rattle.text_cursor.proofs.LookLaws.{PassedBack}
use Rattle.text_cursor.proofs.cursors.next_line_back.Given as goal

abbrev pub invariant-loop-left : goal.invariant-loop-left
invariant-loop-left g l =
    PassedBack (g.S.TextStore.content l.store).cells l.fresh l.parts l.left l.far

abbrev pub decreases-loop-left : goal.decreases-loop-left
decreases-loop-left g l = l.left
