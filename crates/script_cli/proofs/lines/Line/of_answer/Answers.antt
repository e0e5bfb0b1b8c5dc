use Rattle.script_cli.proofs.Common.{ap, ◌∙◌, texts_of, answer_text, line_text}
use Rattle.script_cli.proofs.LineLaws.{answer_line}
use Rattle.script_cli.proofs.lines.Line.of_answer.Goals as goal

pub returns : goal.returns
returns c =
    let line = rw c.answer_text.ensures at c.around.ensures in
    ap line_text line ∙ answer_line (answer_text (texts_of c.args.words.now) c.args.answer.now)
