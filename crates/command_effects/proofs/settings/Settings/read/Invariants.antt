use Rattle.command_effects.proofs.Common.{◌≡◌, ◌≤◌, ◌+◌, length, texts_of, settings_read}
use Rattle.command_effects.proofs.settings.Settings.read.Given as goal

abbrev pub invariant-loop-rest : goal.invariant-loop-rest
invariant-loop-rest l = record {
  value : settings_read l.lines l.position (texts_of l.fn.words) l.fn.self
      ≡ settings_read l.lines l.here (texts_of l.rest) l.settings;
  room : l.here + length l.rest ≤ l.position + length l.fn.words;
}

abbrev pub decreases-loop-rest : goal.decreases-loop-rest
decreases-loop-rest l = length l.rest
