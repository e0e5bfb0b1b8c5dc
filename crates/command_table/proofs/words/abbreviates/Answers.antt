use Rattle.command_table.proofs.Common.{◌∙◌, ap₂, nat_eq, starts_with}
use Rattle.command_table.proofs.WordLaws.{starts_with-chars}
use Rattle.command_table.proofs.words.abbreviates.Goals as goal

pub returns : goal.returns
returns c =
    c.starts_with.ensures.value ∙ ap₂ (starts_with nat_eq) c.as_bytes.ensures.value c.as_bytes-2.ensures.value
    ∙ starts_with-chars c.args.known.now c.args.word.now c.utf8.known c.utf8.word
