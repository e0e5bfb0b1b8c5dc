use Rattle.script_cli.proofs.Common.{ap, ◌∙◌, printed}
use Rattle.script_cli.proofs.LineLaws.{five_texts}
use Rattle.script_cli.proofs.lines.Line.parts.Goals as goal

pub returns : goal.returns
returns c =
    let line = c.self.inside in
    let utf8 = c.self.invariant in
    five_texts line.before.now line.word.now line.between.now line.other.now line.after.now
    utf8.0 utf8.1 utf8.2 utf8.3 utf8.4 ∙ ap printed c.self.view_is
