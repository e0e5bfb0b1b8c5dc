use Rattle.command_table.proofs.Common.{◌≡◌, drop, lent, is_among, chars}
use Rattle.command_table.proofs.words.is_among.Given as goal

abbrev pub invariant-loop-name : goal.invariant-loop-name
invariant-loop-name l =
    is_among (lent l.names) (chars l.word) ≡ is_among (lent (drop l.name-index l.names)) (chars l.word)
