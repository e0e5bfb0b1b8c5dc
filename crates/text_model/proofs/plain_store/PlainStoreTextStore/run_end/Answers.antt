use Rattle.text_model.proofs.Common.{arith, characters}
use Rattle.text_model.proofs.RunLaws.{long, run_end-le, run_end_found}
use Rattle.text_model.proofs.plain_store.PlainStoreTextStore.run_end.Goals as goal

pub returns-clause-value : goal.returns-clause-value
returns-clause-value g c =
    let s = c.args.self.now in
    run_end_found g.T.CharacterTest.test s.cells.items c.deref.result.now c.args.offset c.passing_from_first.result
    c.deref.ensures.value c.passing_from_first.ensures

pub returns-clause-bound : goal.returns-clause-bound
returns-clause-bound g c =
    let cells = c.args.self.now.cells.items in
    omega (
      arith,
      returns-clause-value g c,
      run_end-le g.T.CharacterTest.test (characters cells) c.args.offset (omega (arith, long cells, c.requires)),
      long cells,
    )

pub overflow_add-result : goal.overflow_add-result
overflow_add-result g c =
    omega (arith, returns-clause-bound g c, c.args.self.now.cells.ok.0, c.args.self.now.cells.small)
