use Rattle.line_lists.proofs.Common.{◌+◌, ◌-◌, subst, sym, arith}
use Rattle.line_lists.proofs.ListLaws.{Remains, column-holds, column-more}
use Rattle.line_lists.proofs.line_vec.find_column.Goals as goal

pub loop-index-preserved : goal.loop-index-preserved
loop-index-preserved c =
    let line = c.index-lines-index.result in
    subst (λ n. Remains c.args.lines.now c.args.offset (c.loop-index.index + 1) (c.loop-index.column - n))
    (sym c.len-len.ensures)
    (column-more c.args.lines.now c.args.offset c.loop-index.index c.loop-index.column line c.loop-index-test.true
    c.index-lines-index.is (omega (arith, c.len-len.ensures, c.if-column-len.false)) c.loop-index.invariant)

pub returns-then-column-len : goal.returns-then-column-len
returns-then-column-len c =
    column-holds c.args.lines.now c.args.offset c.loop-index.index c.loop-index.column c.index-lines-index.result
    c.loop-index-test.true c.index-lines-index.is (omega (arith, c.len-len.ensures, c.if-column-len.true))
    c.loop-index.invariant
