use Rattle.std.proofs.Common.{◌≡◌}
use Rattle.text_tests.proofs.script_pieces.check_steps.Given as goal

abbrev pub invariant-loop-index : goal.invariant-loop-index
invariant-loop-index g l = l.splitter.finished ≡ l.initial.splitter.finished
