use Rattle.text_index.proofs.Common.{part_of, arith, characters}
use Rattle.text_index.proofs.ViewLaws.{lines-of-part}
use Rattle.text_index.proofs.views.View.lines.Goals as goal

pub overflow_sub-result : goal.overflow_sub-result
overflow_sub-result g c =
    let view = c.args.self.now in
    omega (
      arith,
      lines-of-part (characters (part_of view).content.cells) view.start view.end view.whole_lines.ordered,
      c.line_of.ensures,
      c.first_line.ensures,
    )

pub returns : goal.returns
returns g c =
    let view = c.args.self.now in
    omega (
      arith,
      lines-of-part (characters (part_of view).content.cells) view.start view.end view.whole_lines.ordered,
      c.line_of.ensures,
      c.first_line.ensures,
    )
