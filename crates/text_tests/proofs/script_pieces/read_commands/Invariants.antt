use Rattle.std.proofs.Common.{◌≡◌, length}
use Rattle.text_tests.proofs.script_pieces.read_commands.Given as goal

abbrev pub invariant-loop-text : goal.invariant-loop-text
invariant-loop-text l = l.splitter.finished ≡ l.initial.splitter.finished

abbrev pub decreases-loop-text : goal.decreases-loop-text
decreases-loop-text l = length l.splitter.rest
