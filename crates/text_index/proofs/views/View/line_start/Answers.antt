use Rattle.text_index.proofs.Common.{sym, arith}
use Rattle.text_index.proofs.StartLaws.{begins-after, begins-at, none-shown, number-is}
use Rattle.text_index.proofs.views.View.line_start.Goals as goal

pub returns-then-number-lines-clause-value : goal.returns-then-number-lines-clause-value
returns-then-number-lines-clause-value g c =
    sym (none-shown c.args.self.now.whole_lines c.args.line c.first_line.ensures c.saturating_add-number.ensures c.lines.ensures
    c.if-number-lines.true).1

pub overflow_sub-result-2 : goal.overflow_sub-result-2
overflow_sub-result-2 g c =
    let number = number-is c.args.self.now.whole_lines c.args.line c.first_line.ensures c.saturating_add-number.ensures c.lines.ensures
    c.lines.type_inv c.if-number-lines.false in
    omega (arith, begins-after c.args.self.now.whole_lines number c.line_start.ensures.value, c.min.ensures, c.args.self.now.whole_lines.ordered)

pub returns-clause-value : goal.returns-clause-value
returns-clause-value g c =
    let number = number-is c.args.self.now.whole_lines c.args.line c.first_line.ensures c.saturating_add-number.ensures c.lines.ensures
    c.lines.type_inv c.if-number-lines.false in
    omega (arith, begins-at c.args.self.now.whole_lines number c.line_start.ensures.value, c.min.ensures)
