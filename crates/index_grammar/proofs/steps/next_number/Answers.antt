use Rattle.index_grammar.proofs.FrontNumberLaws.{number-first}
use Rattle.index_grammar.proofs.steps.next_number.Goals as goal

pub returns-clause-first : goal.returns-clause-first
returns-clause-first c =
    number-first c.args.text.now c.skip_blanks.result.now c.front_number.result c.skip_blanks.ensures
    c.front_number.ensures.number c.front_number.ensures.rest
