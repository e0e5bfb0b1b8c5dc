use Rattle.index_grammar.proofs.Common.{◌∷◌, [], arith, Some, None, ap, ◌∙◌, Decides-eqb, strip_prefix_is, closed_of}
use Rattle.index_grammar.proofs.ClosedLaws.{line-end, line-number, line-none}
use Rattle.index_grammar.proofs.places.read_in_line.Goals as goal

pub returns-in-Some-clause-value : goal.returns-in-Some-clause-value
returns-in-Some-clause-value c = λ front rest is.
    line-end c.args.line c.args.text.now front rest c.in-Some.rest.now (omega arith) is
    (strip_prefix_is Decides-eqb c.args.text.now (101 ∷ 110 ∷ 100 ∷ []) (Some c.in-Some.rest) c.in-Some.ensures.cases)

pub returns-in_err-character-clause-value : goal.returns-in_err-character-clause-value
returns-in_err-character-clause-value c = λ front rest is.
    ap closed_of c.from_residual.ensures
    ∙ line-none c.args.line c.args.text.now front rest (omega arith) is
    (strip_prefix_is Decides-eqb c.args.text.now (101 ∷ 110 ∷ 100 ∷ []) None c.in_default.ensures.cases)
    (c.in_err-character.ensures {u = tt}).number

pub returns-clause-value : goal.returns-clause-value
returns-clause-value c = λ front rest is.
    line-number c.args.line c.in_ok-character.character c.args.text.now front rest c.in_ok-character.rest.now
    (omega arith) is
    (strip_prefix_is Decides-eqb c.args.text.now (101 ∷ 110 ∷ 100 ∷ []) None c.in_default.ensures.cases)
    (c.in_ok-character.ensures {u = tt}).number (c.in_ok-character.ensures {u = tt}).rest
