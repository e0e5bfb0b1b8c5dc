use Rattle.text_model.proofs.Common.{◌≡◌, ◌-◌, take, ap, arith, suffix_len, characters}
use Rattle.text_model.proofs.RunLaws.{run_start-le, run_start_found}
use Rattle.text_model.proofs.plain_store.PlainStoreTextStore.run_start.Goals as goal

run : (g : _) (c : goal.After-passing_from_last g) → c.passing_from_last.result
    ≡ suffix_len g.T.CharacterTest.test (take c.args.offset (characters c.args.self.now.cells.items))
run g c =
    run_start_found g.T.CharacterTest.test c.args.self.now.cells.items c.deref.result.now c.args.offset
    c.passing_from_last.result c.deref.ensures.value c.passing_from_last.ensures

pub overflow_sub-result : goal.overflow_sub-result
overflow_sub-result g c =
    let test = g.T.CharacterTest.test in
    omega (arith, run g c, run_start-le test (characters c.args.self.now.cells.items) c.args.offset)

pub returns-clause-value : goal.returns-clause-value
returns-clause-value g c = ap (λ n. c.args.offset - n) (run g c)
