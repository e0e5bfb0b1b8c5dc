use Rattle.index_grammar.proofs.Common.{◌≡◌, ◌≤◌, ◌-◌, min, take, true, fold, length, list_all, is_ascii_digit}
use Rattle.index_grammar.proofs.Common.{add_digit}
use Rattle.index_grammar.proofs.numbers.front_number.Given as goal

abbrev pub invariant-loop-at : goal.invariant-loop-at
invariant-loop-at l = record {
  within : l.at ≤ length l.text;
  digits : list_all is_ascii_digit (take l.at l.text) ≡ true;
  number : l.number ≡ min 18446744073709551615 (fold add_digit 0 (take l.at l.text));
}

abbrev pub decreases-loop-at : goal.decreases-loop-at
decreases-loop-at l = length l.text - l.at
