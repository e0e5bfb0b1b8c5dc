use Rattle.text_model.proofs.Common.{◌≢◌, arith, nat_tests}
use Rattle.text_model.proofs.LineLaws.{line_start-next}
use Rattle.text_model.proofs.plain_store.find_line.Goals.{then-cell-eq10, else-cell-eq10}
use Rattle.text_model.proofs.plain_store.find_line.Goals as goal

pub loop-offset-preserved : goal.loop-offset-preserved
loop-offset-preserved c =
    let some : c.loop-offset.left ≢ 0 = c.if-left-eq0.false in
    let next = line_start-next c.args.cells.now _ c.loop-offset.offset c.loop-offset.left c.index-cells-offset.result
    (omega arith) c.index-cells-offset.is some c.loop-offset.invariant in
    elim c.if-cell-eq10.branch [
      | then-cell-eq10 w ↦ grind (arith, nat_tests, next)
      | else-cell-eq10 w ↦ grind (
        arith,
        nat_tests,
        next,
      )
    ]
