use Rattle.command_table.proofs.Common.{◌≡◌, ◌≤◌, ◌+◌, length, filter, drop, starts_with, lent, is_character, chars}
use Rattle.command_table.proofs.switches.count_abbreviated.Given as goal

abbrev pub invariant-loop-name : goal.invariant-loop-name
invariant-loop-name l = record {
  few : l.count ≤ l.name-index;
  counted : length (filter (λ name. starts_with is_character name (chars l.word)) (lent l.names))
      ≡ l.count + length (filter (λ name. starts_with is_character name (chars l.word))
      (lent (drop l.name-index l.names)));
}
