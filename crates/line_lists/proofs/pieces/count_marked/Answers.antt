use Rattle.line_lists.proofs.Common.{◌+◌, ◌^◌, arith}
use Rattle.line_lists.proofs.WithinLaws.{sum-made}
use Rattle.line_lists.proofs.pieces.count_marked.Goals as goal

pub overflow_add-marks : goal.overflow_add-marks
overflow_add-marks g c = omega (arith, c.in_ok-count_longer.ensures.marks, c.marks.ensures, c.marks-2.ensures)

pub returns-clause-marks : goal.returns-clause-marks
returns-clause-marks g c =
    let made = sum-made c.checked_add.result (2 ^ 64) (c.marks.result + c.marks-2.result + 1) c.in_ok-ok_or.field-0
    c.checked_add.ensures c.in_ok-ok_or.ensures.ok_part in
    omega (arith, made.0, c.marks.ensures, c.marks-2.ensures)
