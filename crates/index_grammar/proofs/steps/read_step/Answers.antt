use Rattle.index_grammar.proofs.Common.{◌∷◌, Some, sym, ap, ◌∙◌, tokens_of, modifiers_of, token_of, saturated}
use Rattle.index_grammar.proofs.StepLaws.{keyword-found}
use Rattle.index_grammar.proofs.steps.read_step.Goals as goal

pub returns-in_ok-read_keyword-in-Word-clause-value : goal.returns-in_ok-read_keyword-in-Word-clause-value
returns-in_ok-read_keyword-in-Word-clause-value c =
    ap (λ p. saturated (modifiers_of (token_of p ∷ tokens_of c.args.text.now))) c.in-Word.is
    ∙ keyword-found c.in-Word.word.now (tokens_of c.args.text.now) (Some c.in_ok-read_keyword-in-Word.field-0)
    (sym (c.in_ok-read_keyword-in-Word.was {u = tt}) ∙ c.read_keyword.ensures.value)
