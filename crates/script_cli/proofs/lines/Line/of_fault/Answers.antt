use Rattle.script_cli.proofs.Common.{sym, ap, ◌∙◌, texts_of, fault_line}
use Rattle.script_cli.proofs.lines.Line.of_fault.Goals as goal

pub returns-in-NoSuchTag : goal.returns-in-NoSuchTag
returns-in-NoSuchTag c =
    let line = rw c.word_at-in-NoSuchTag.ensures at c.around-in-NoSuchTag.ensures in
    line ∙ ap (fault_line (texts_of c.args.words.now)) (sym c.in-NoSuchTag.is)

pub returns-in-WrongArguments : goal.returns-in-WrongArguments
returns-in-WrongArguments c = c.alone.ensures ∙ ap (fault_line (texts_of c.args.words.now)) (sym c.in-WrongArguments.is)

pub returns-in-InvalidCommandName : goal.returns-in-InvalidCommandName
returns-in-InvalidCommandName c =
    let line = rw c.word_at-in-InvalidCommandName.ensures at c.around-in-InvalidCommandName.ensures in
    line ∙ ap (fault_line (texts_of c.args.words.now)) (sym c.in-InvalidCommandName.is)

pub returns-in-WindowExists : goal.returns-in-WindowExists
returns-in-WindowExists c =
    let line = rw c.word_at-in-WindowExists.ensures at c.around-in-WindowExists.ensures in
    line ∙ ap (fault_line (texts_of c.args.words.now)) (sym c.in-WindowExists.is)
