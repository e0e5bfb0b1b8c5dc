use Rattle.segments.proofs.Common.{◌∙◌, ◌++◌, ap, length, sym, encode_utf8}
use Rattle.segments.proofs.TextLaws.{chars-behind, no_characters}
use Rattle.segments.proofs.characters.split_last.Goals as goal

pub returns-in_err-last-clause-none : goal.returns-in_err-last-clause-none
returns-in_err-last-clause-none c _ =
    no_characters c.args.text.now (ap length (sym c.chars-characters.ensures.rest) ∙ c.in_err-last.ensures.steps.0)

pub returns-clause-some : goal.returns-clause-some
returns-clause-some c =
    chars-behind c.args.text.now c.as_str.result.now c.in_ok-last.last c.utf8.text c.as_str.utf8
    (sym c.chars-characters.ensures.rest ∙ c.in_ok-last.ensures.steps
    ∙ ap (λ front. front ++ encode_utf8 c.in_ok-last.last) (sym c.as_str.ensures))
