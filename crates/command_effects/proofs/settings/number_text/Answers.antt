use Rattle.command_effects.proofs.Common.{ap, ◌∙◌, w32, chars, chars-IsAscii}
use Rattle.std.specs.Fmt.{signed_decimal}
use Rattle.std.proofs.lemmas.Int.{to_z-of_z}
use Rattle.command_effects.proofs.settings.number_text.Goals as goal

pub returns : goal.returns
returns c =
    c.new.ensures ∙ ap chars c.in_ok-from_str.ensures.ok
    ∙ chars-IsAscii c.format-digits.result.now c.format-digits.ensures.ascii ∙ c.format-digits.ensures.text
    ∙ ap signed_decimal (to_z-of_z w32 c.args.number c.ranges.number)
