use Rattle.command_table.proofs.Common.{ap, ◌∙◌, Some, if◌then◌else◌, chars, literal, is_same, texts_of, text_entry}
use Rattle.command_table.proofs.Common.{destroy_entry, behind, found, subcommand}
use Rattle.command_table.proofs.readings.entry_of.Goals as goal

pub returns-then-is_word-clause-value : goal.returns-then-is_word-clause-value
returns-then-is_word-clause-value c =
    let words = texts_of c.args.words.now in
    ap (λ entry. found words (Some entry)) c.text_entry.ensures
    ∙ ap (λ b. if b then behind text_entry 1 words
    else (if is_same (chars c.args.name.now) (literal "destroy") then behind destroy_entry 1 words
    else subcommand words)) c.if-is_word.ensures
