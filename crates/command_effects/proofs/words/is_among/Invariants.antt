use Rattle.command_effects.proofs.Common.{◌≡◌, drop, texts_of, is_among, chars}
use Rattle.command_effects.proofs.words.is_among.Given as goal

abbrev pub invariant-loop-other : goal.invariant-loop-other
invariant-loop-other l =
    is_among (chars l.name) (texts_of l.names) ≡ is_among (chars l.name) (texts_of (drop l.other-index l.names))
