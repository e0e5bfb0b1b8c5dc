use Rattle.command_table.proofs.Common.{◌≡◌, ◌+◌, drop, Some, texts_of, bad_switch, switch_rule}
use Rattle.command_table.proofs.switches.Switches.first_bad.Given as goal

abbrev pub invariant-loop-index : goal.invariant-loop-index
invariant-loop-index l =
    bad_switch (Some (switch_rule l.self)) l.position (texts_of l.words)
    ≡ bad_switch (Some (switch_rule l.self)) (l.position + l.index) (texts_of (drop l.index l.words))
