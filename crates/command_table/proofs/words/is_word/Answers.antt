use Rattle.command_table.proofs.Common.{◌∙◌}
use Rattle.command_table.proofs.WordLaws.{bytes_eq-chars, longer-chars}
use Rattle.command_table.proofs.words.is_word.Goals as goal

pub returns-then-word-known : goal.returns-then-word-known
returns-then-word-known c = c.eq.ensures ∙ bytes_eq-chars c.args.word.now c.args.known.now c.utf8.word c.utf8.known

pub returns-else-word-known : goal.returns-else-word-known
returns-else-word-known c =
    longer-chars c.args.word.now c.args.known.now c.utf8.word c.utf8.known c.if-word-known.false
