use Rattle.script_cli.proofs.LineLaws.{word_characters, no_word}
use Rattle.script_cli.proofs.lines.word_at.Goals as goal

pub returns-in-Some : goal.returns-in-Some
returns-in-Some c =
    let found = c.in-Some.ensures.lookup.3 in
    rw c.as_str.ensures.value (word_characters c.args.words.now c.args.position c.in-Some.word.now found.0
    (found.1 c.in-Some.word.now))

pub returns-in-None : goal.returns-in-None
returns-in-None c = no_word c.args.words.now c.args.position c.in-None.ensures.lookup.3
