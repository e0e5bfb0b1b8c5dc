use Rattle.index_grammar.proofs.Common.{None, Some, sym, ap, ◌∙◌, tokens_of, stepped, number_of, front_digits}
use Rattle.index_grammar.proofs.StepLaws.{no-digits, no-unit, counted-found}
use Rattle.index_grammar.proofs.steps.read_counted.Goals as goal

pub returns-in_err-count-clause-value : goal.returns-in_err-count-clause-value
returns-in_err-count-clause-value c =
    no-digits c.args.is_plus (tokens_of c.args.text.now) (c.in_err-count.ensures {u = tt}).first
    ∙ ap stepped (sym c.from_residual.ensures)

pub returns-in_err-word-clause-value : goal.returns-in_err-word-clause-value
returns-in_err-word-clause-value c =
    no-unit c.args.is_plus (front_digits c.args.text.now) (tokens_of c.args.text.now) (tokens_of c.in_ok-count.rest.now)
    (c.in_ok-count.ensures {u = tt}).first (c.in_err-word.ensures {u = tt}).value
    ∙ ap stepped (sym c.from_residual-in_err-word.ensures)

pub returns-in_err-modifier-clause-value : goal.returns-in_err-modifier-clause-value
returns-in_err-modifier-clause-value c =
    counted-found c.args.is_plus (front_digits c.args.text.now) c.in_ok-word.word.now (tokens_of c.args.text.now)
    (tokens_of c.in_ok-count.rest.now) (tokens_of c.in_ok-word.rest.now) None
    (c.in_ok-count.ensures {u = tt}).first (c.in_ok-word.ensures {u = tt}).value
    (c.in_err-modifier.ensures {u = tt} (number_of (front_digits c.args.text.now))
    (c.in_ok-count.ensures {u = tt}).number)
    ∙ ap stepped (sym c.from_residual-in_err-modifier.ensures)

pub returns-clause-value : goal.returns-clause-value
returns-clause-value c =
    counted-found c.args.is_plus (front_digits c.args.text.now) c.in_ok-word.word.now (tokens_of c.args.text.now)
    (tokens_of c.in_ok-count.rest.now) (tokens_of c.in_ok-word.rest.now) (Some c.in_ok-modifier.modifier)
    (c.in_ok-count.ensures {u = tt}).first (c.in_ok-word.ensures {u = tt}).value
    (c.in_ok-modifier.ensures {u = tt} (number_of (front_digits c.args.text.now))
    (c.in_ok-count.ensures {u = tt}).number)
