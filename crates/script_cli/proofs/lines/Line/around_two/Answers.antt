use Rattle.script_cli.proofs.lines.Line.around_two.Goals as goal

pub invariant_of-result : goal.invariant_of-result
invariant_of-result c = (c.utf8.before, c.utf8.word, c.utf8.between, c.utf8.other, c.utf8.after)
