use Rattle.text_cursor.proofs.Common.{◌-◌, parts_len}
use Rattle.text_cursor.proofs.LookLaws.{LineSoFar}
use Rattle.text_cursor.proofs.cursors.last_line_of.Given as goal

abbrev pub invariant-loop-left : goal.invariant-loop-left
invariant-loop-left g l =
    LineSoFar (g.S.TextStore.content l.store).cells l.fresh l.parts (l.fn.end - parts_len l.parts) l.left l.end

abbrev pub decreases-loop-left : goal.decreases-loop-left
decreases-loop-left g l = l.left
