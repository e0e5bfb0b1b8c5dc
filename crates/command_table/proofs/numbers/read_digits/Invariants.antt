use Rattle.command_table.proofs.Common.{◌≡◌, ◌<◌, ◌^◌, take, true, fold, list_all, is_ascii_digit, add_digit}
use Rattle.command_table.proofs.numbers.read_digits.Given as goal

abbrev pub invariant-loop-digit : goal.invariant-loop-digit
invariant-loop-digit l = record {
  digits : list_all is_ascii_digit (take l.digit-index l.digits) ≡ true;
  number : l.number ≡ fold add_digit 0 (take l.digit-index l.digits);
  small : l.number < 10 ^ l.digit-index;
}
