use Rattle.command_table.proofs.Common.{◌≡◌, ◌++◌, drop, take, texts_of, dashed_words, switch_rule}
use Rattle.command_table.proofs.switches.Switches.count.Given as goal

abbrev pub invariant-loop-index : goal.invariant-loop-index
invariant-loop-index l =
    dashed_words (switch_rule l.self) (texts_of l.words)
    ≡ take l.index (texts_of l.words) ++ dashed_words (switch_rule l.self) (texts_of (drop l.index l.words))
