use Rattle.line_lists.proofs.Common.{◌∙◌, ap, sym, slice_get, marks_at, LineContent}
use Rattle.line_lists.proofs.LineStarts.{lent}
use Rattle.line_lists.proofs.MarksAtRows.{marks-at}
use Rattle.line_lists.proofs.queries.mark_at.Goals as goal

-- src/queries.rt:147:1
pub returns : goal.returns
returns g c =
    let list = g.L.LineList.lines c.args.list.now in
    let k = c.place_of-column.result.0 in
    let column = c.place_of-column.result.1 in
    c.mark_at.ensures
    ∙ ap (λ marks. slice_get marks c.args.index)
    (ap (λ (line : LineContent). marks_at column line.marks) (sym (lent list k c.place_of-column.result.2.now
    c.place_of-column.ensures.line))
    ∙ sym (marks-at list (g.L.LineList.are_lines c.args.list.now).rows c.args.offset k column
    c.place_of-column.ensures.place))
