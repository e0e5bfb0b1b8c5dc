use Rattle.text_model.proofs.ChangeLaws.{first_more, first_stops}
use Rattle.text_model.proofs.plain_store.alike_from_first.Goals as goal

pub returns-then-has-is_on : goal.returns-then-has-is_on
returns-then-has-is_on c =
    first_stops c.args.cells.now c.args.slot.0 c.loop-count.count c.args.is_on c.has.result c.index-cells-count.result _
    c.loop-count-test.true c.index-cells-count.is c.has.ensures c.if-has-is_on.true c.loop-count.invariant

pub loop-count-preserved : goal.loop-count-preserved
loop-count-preserved c =
    first_more c.args.cells.now c.args.slot.0 c.loop-count.count c.args.is_on c.has.result c.index-cells-count.result _
    c.loop-count-test.true c.index-cells-count.is c.has.ensures c.if-has-is_on.false c.loop-count.invariant
