use Rattle.std.proofs.Common.{◌≡◌}
use Rattle.text_cursor.specs.Cursors.{IsCursor}
use Rattle.text_tests.proofs.cursors.make_all.Given as goal

abbrev pub invariant-loop-step : goal.invariant-loop-step
invariant-loop-step g l = record { is : IsCursor l.cursor; old : l.cursor.old_len ≡ l.fn.cursor.old_len }
