use Rattle.text_model.proofs.RunLaws.{first_more, first_stops}
use Rattle.text_model.proofs.plain_store.passing_from_first.Goals as goal

pub returns-then-not-passes : goal.returns-then-not-passes
returns-then-not-passes g c =
    first_stops g.T.CharacterTest.test c.args.cells.now c.loop-count.count c.index-cells-count.result c.passes.result _
    c.loop-count-test.true c.index-cells-count.is c.passes.ensures c.if-not-passes.true c.loop-count.invariant

pub loop-count-preserved : goal.loop-count-preserved
loop-count-preserved g c =
    first_more g.T.CharacterTest.test c.args.cells.now c.loop-count.count c.index-cells-count.result c.passes.result _
    c.loop-count-test.true c.index-cells-count.is c.passes.ensures c.if-not-passes.false c.loop-count.invariant
