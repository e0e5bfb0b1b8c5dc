use Rattle.segments.proofs.Common.{◌∙◌, ◌++◌, ap, sym, encode_utf8, chars_past_char}
use Rattle.segments.proofs.characters.split_first.Goals as goal

pub returns-clause-some : goal.returns-clause-some
returns-clause-some c =
    chars_past_char c.args.text.now c.as_str.result.now c.in_ok-first.first c.utf8.text
    (sym c.chars-characters.ensures.rest ∙ c.in_ok-first.ensures.steps.0
    ∙ ap (λ rest. encode_utf8 c.in_ok-first.first ++ rest) (sym c.as_str.ensures))
