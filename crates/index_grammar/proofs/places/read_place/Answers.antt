use Rattle.index_grammar.proofs.Common.{◌∷◌, [], Some, None, Decides-eqb, strip_prefix_is, closed_of}
use Rattle.index_grammar.proofs.ClosedLaws.{place-end, place-dot}
use Rattle.index_grammar.proofs.places.read_place.Goals as goal

pub returns-in-Some-clause-value : goal.returns-in-Some-clause-value
returns-in-Some-clause-value c = λ front rest is.
    place-end c.args.text.now front rest c.in-Some.rest.now is
    (strip_prefix_is Decides-eqb c.args.text.now (101 ∷ 110 ∷ 100 ∷ []) (Some c.in-Some.rest) c.in-Some.ensures.cases)

pub returns-clause-value : goal.returns-clause-value
returns-clause-value c = λ front rest is.
    place-dot c.args.text.now front rest (closed_of c.read_around_dot.result) is
    (strip_prefix_is Decides-eqb c.args.text.now (101 ∷ 110 ∷ 100 ∷ []) None c.in_default.ensures.cases)
    (c.read_around_dot.ensures.value front rest is)
