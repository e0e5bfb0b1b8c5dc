use Rattle.command_effects.proofs.Common.{sym, ap, ◌∙◌, chars, chars-IsAscii, line_answer}
use Rattle.command_effects.specs.declared.answers.Answer.TheVariants.{Text}
use Rattle.command_effects.proofs.settings.line_answer.Goals as goal

pub returns-in_ok-from_str-in-Some : goal.returns-in_ok-from_str-in-Some
returns-in_ok-from_str-in-Some c =
    ap Text (c.new.ensures ∙ ap chars c.in_ok-from_str-in-Some.ensures.ok
    ∙ chars-IsAscii c.format-digits.result.now c.format-digits.ensures.ascii ∙ c.format-digits.ensures.text)
    ∙ ap line_answer (sym c.in-Some.is)
