use Rattle.line_lists.proofs.Common.{◌∙◌}
use Rattle.line_lists.proofs.NewlineRows.{newlines-content}
use Rattle.line_lists.proofs.queries.lines.Goals as goal

-- src/queries.rt:20:1
pub returns : goal.returns
returns g c = c.len.ensures ∙ newlines-content _ (g.L.LineList.are_lines c.args.list.now).rows
