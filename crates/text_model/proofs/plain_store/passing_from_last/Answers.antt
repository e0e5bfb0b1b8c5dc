use Rattle.text_model.proofs.Common.{◌≡◌, take, ap, arith, ◌∙◌, sym, suffix_len, Cell, characters}
use Rattle.text_model.proofs.RunLaws.{last_more, last_stops}
use Rattle.text_model.proofs.plain_store.passing_from_last.Goals.{then-loop-start-test+else-passes}
use Rattle.text_model.proofs.plain_store.passing_from_last.Goals.{else-loop-start-test}
use Rattle.text_model.proofs.plain_store.passing_from_last.Goals as goal

pub loop-start-preserved : goal.loop-start-preserved
loop-start-preserved g c =
    let test = g.T.CharacterTest.test in
    let start = c.loop-start.start in
    let so_far = c.loop-start.invariant in
    let value = c.passes.ensures ∙ ap (λ (cell : Cell). test cell.character) (sym c.index-cells-start.is) in
    record {
      within = omega (arith, so_far.within);
      rest = last_more test c.args.cells.now start c.index-cells-start.result c.passes.result _
          c.loop-start-test.true so_far.within c.index-cells-start.is value c.if-passes.true so_far.rest;
    }

pub returns : goal.returns
returns g c =
    let test = g.T.CharacterTest.test in
    let start = c.loop-start.start in
    let so_far = c.loop-start.invariant in
    elim c.loop-start-test.branch [
      | then-loop-start-test+else-passes w ↦
          let value = w.passes.ensures ∙ ap (λ (cell : Cell). test cell.character) (sym w.index-cells-start.is) in
          omega (
            arith,
            last_stops test c.args.cells.now start w.index-cells-start.result w.passes.result _
                w.loop-start-test.true so_far.within w.index-cells-start.is value w.if-passes.false so_far.rest,
          )
      | else-loop-start-test w ↦
          let none : start ≡ 0 = omega (arith, w.loop-start-test.false) in
          omega (
            arith,
            so_far.rest,
            none,
            ap (λ n. suffix_len test (take n (characters c.args.cells.now))) none,
          )
    ]
