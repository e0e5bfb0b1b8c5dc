use Rattle.std.proofs.Common.{◌≡◌, length}
use Rattle.text_tests.proofs.script_pieces.write_commands.Given as goal

abbrev pub invariant-loop-words : goal.invariant-loop-words
invariant-loop-words l = l.splitter.finished ≡ l.initial.splitter.finished

abbrev pub decreases-loop-words : goal.decreases-loop-words
decreases-loop-words l = length l.splitter.rest
