use Rattle.std.proofs.Common.{◌≡◌, false}
use Rattle.text_tests.proofs.script_pieces.check_course.Given as goal

abbrev pub invariant-loop-piece : goal.invariant-loop-piece
invariant-loop-piece g l = l.splitter.finished ≡ false
