use Rattle.text_index.proofs.Common.{part_of, shown}
use Rattle.text_index.proofs.SameLine.{same-line}
use Rattle.text_index.proofs.views.View.line_on.Goals as goal

pub returns-then-place-line-clause-line : goal.returns-then-place-line-clause-line
returns-then-place-line-clause-line g c =
    same-line (shown (part_of c.args.self.now))
    c.args.from c.args.place c.args.line c.requires.from c.if-line-place.true c.if-place-line.true
