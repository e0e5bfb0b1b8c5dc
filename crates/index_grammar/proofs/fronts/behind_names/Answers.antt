use Rattle.index_grammar.proofs.Common.{◌++◌, sym, ap, ◌∙◌, arith, names_in}
use Rattle.std.proofs.lemmas.Option.{slice_get_within}
use Rattle.index_grammar.proofs.BoundLaws.{next-behind}
use Rattle.index_grammar.proofs.fronts.behind_names.Goals as goal

pub loop-place-preserved : goal.loop-place-preserved
loop-place-preserved c =
    next-behind (names_in c.args.form c.args.names.now) c.args.word.now c.args.ending.now c.name-name.result.now
    c.loop-place.place c.loop-place.fewest c.count_behind.result c.min-fewest.result c.loop-place.invariant
    c.name-name.ensures c.name-name.utf8
    (λ rest split. c.count_behind.ensures rest (c.as_bytes.ensures.value ∙ split
    ∙ ap (λ name. name ++ c.args.ending.now ++ rest) (sym c.as_bytes-in-loop-place.ensures.value)))
    (omega (arith, c.min-fewest.ensures))

pub returns : goal.returns
returns c = λ place name rest there.
    c.loop-place.invariant place name rest
    (omega (
      arith,
      c.loop-place-test.false,
      c.count-place-end.ensures,
      slice_get_within (names_in c.args.form c.args.names.now) place name there,
    ))
    there
