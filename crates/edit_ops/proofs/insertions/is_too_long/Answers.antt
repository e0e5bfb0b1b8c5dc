use Rattle.edit_ops.proofs.Common.{◌+◌, ◌≤◌, arith, nat_tests, total}
use Rattle.edit_ops.proofs.InsertLaws.{total-in-bytes}
use Rattle.edit_ops.proofs.insertions.is_too_long.Goals as goal

pub returns-then-saturating_add-most-clause-value : goal.returns-then-saturating_add-most-clause-value
returns-then-saturating_add-most-clause-value c =
    let few : c.args.len + total c.args.pieces.now ≤ c.args.limits.now.chars =
    omega (arith, total-in-bytes c.args.pieces.now, c.bytes_of.ensures, c.chars-most.ensures.value) in
    grind (arith, nat_tests)

pub returns-then-saturating_add-most-clause-short : goal.returns-then-saturating_add-most-clause-short
returns-then-saturating_add-most-clause-short c = λ _.
    omega (arith, total-in-bytes c.args.pieces.now, c.bytes_of.ensures)
