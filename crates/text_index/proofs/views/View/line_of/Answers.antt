use Rattle.text_index.proofs.Common.{part_of, arith, characters}
use Rattle.text_index.proofs.ViewLaws.{lines-part}
use Rattle.text_index.proofs.views.View.line_of.Goals as goal

pub overflow_sub-result : goal.overflow_sub-result
overflow_sub-result g c =
    let view = c.args.self.now in
    omega (
      arith,
      lines-part (characters (part_of view).content.cells) view.start view.end c.args.place c.requires.within,
      c.line_of.ensures,
      c.first_line.ensures,
    )

pub returns : goal.returns
returns g c =
    let view = c.args.self.now in
    omega (
      arith,
      lines-part (characters (part_of view).content.cells) view.start view.end c.args.place c.requires.within,
      c.line_of.ensures,
      c.first_line.ensures,
    )
