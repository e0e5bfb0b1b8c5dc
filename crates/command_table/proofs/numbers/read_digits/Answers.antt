use Rattle.command_table.proofs.Common.{arith, nat_tests}
use Rattle.command_table.proofs.NumberLaws.{number_of-digits, ten_to_smaller}
use Rattle.command_table.proofs.numbers.read_digits.Goals as goal

pub overflow_mul-number : goal.overflow_mul-number
overflow_mul-number c =
    omega (arith, c.loop-digit.invariant.small, ten_to_smaller c.loop-digit.digit-index (omega arith))

pub overflow_add-number : goal.overflow_add-number
overflow_add-number c =
    omega (arith, c.loop-digit.invariant.small, ten_to_smaller c.loop-digit.digit-index (omega arith))

pub returns : goal.returns
returns c =
    let loop = c.loop-digit in
    number_of-digits c.args.digits.now loop.digit-index loop.number (grind (arith, nat_tests)) c.if-digits-gt9.false
    c.loop-digit-test.false
    loop.invariant.digits loop.invariant.number loop.invariant.small loop.auto.digit-index-end
