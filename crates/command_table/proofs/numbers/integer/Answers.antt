use Rattle.command_table.proofs.Common.{ap, ◌∙◌, integer_of}
use Rattle.std.specs.Option.{ok_or}
use Rattle.command_table.specs.declared.numbers.ValueFault.TheVariants.{ExpectedInteger}
use Rattle.command_table.proofs.NumberLaws.{integer_of-chars}
use Rattle.command_table.proofs.numbers.integer.Goals as goal

pub returns : goal.returns
returns c =
    c.ok_or.ensures.value
    ∙ ap (λ found. ok_or found ExpectedInteger) (c.read_integer.ensures ∙ ap integer_of c.as_bytes.ensures.value
    ∙ integer_of-chars c.args.word.now c.utf8.word)
