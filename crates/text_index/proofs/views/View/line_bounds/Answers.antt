use Rattle.text_index.proofs.StartLaws.{begins-after, ends-after, ends-behind, ends-within, none-shown, number-is}
use Rattle.text_index.proofs.StartLaws.{start-within}
use Rattle.text_index.proofs.views.View.line_bounds.Goals as goal

pub returns-then-number-lines-clause-none : goal.returns-then-number-lines-clause-none
returns-then-number-lines-clause-none g c = λ _.
    (none-shown c.args.self.now.whole_lines c.args.line c.first_line.ensures c.saturating_add-number.ensures c.lines.ensures
    c.if-number-lines.true).0

pub returns-then-self-behind-clause-none : goal.returns-then-self-behind-clause-none
returns-then-self-behind-clause-none g c = λ _.
    let number = number-is c.args.self.now.whole_lines c.args.line c.first_line.ensures c.saturating_add-number.ensures c.lines.ensures
    c.lines.type_inv c.if-number-lines.false in
    ends-behind c.args.self.now.whole_lines number c.line_bounds-start.ensures.end c.if-self-behind.true

pub overflow_sub-result : goal.overflow_sub-result
overflow_sub-result g c =
    let number = number-is c.args.self.now.whole_lines c.args.line c.first_line.ensures c.saturating_add-number.ensures c.lines.ensures
    c.lines.type_inv c.if-number-lines.false in
    begins-after c.args.self.now.whole_lines number c.line_bounds-start.ensures.start

pub overflow_sub-result-2 : goal.overflow_sub-result-2
overflow_sub-result-2 g c =
    let number = number-is c.args.self.now.whole_lines c.args.line c.first_line.ensures c.saturating_add-number.ensures c.lines.ensures
    c.lines.type_inv c.if-number-lines.false in
    ends-after c.args.self.now.whole_lines number c.line_bounds-start.ensures.end

pub returns-clause-some : goal.returns-clause-some
returns-clause-some g c =
    let number = number-is c.args.self.now.whole_lines c.args.line c.first_line.ensures c.saturating_add-number.ensures c.lines.ensures
    c.lines.type_inv c.if-number-lines.false in
    (ends-within c.args.self.now.whole_lines number c.line_bounds-start.ensures.end c.if-self-behind.false).0

pub returns-clause-start : goal.returns-clause-start
returns-clause-start g c =
    let number = number-is c.args.self.now.whole_lines c.args.line c.first_line.ensures c.saturating_add-number.ensures c.lines.ensures
    c.lines.type_inv c.if-number-lines.false in
    start-within c.args.self.now.whole_lines number c.line_bounds-start.ensures.end c.line_bounds-start.ensures.start
    c.if-self-behind.false

pub returns-clause-end : goal.returns-clause-end
returns-clause-end g c =
    let number = number-is c.args.self.now.whole_lines c.args.line c.first_line.ensures c.saturating_add-number.ensures c.lines.ensures
    c.lines.type_inv c.if-number-lines.false in
    (ends-within c.args.self.now.whole_lines number c.line_bounds-start.ensures.end c.if-self-behind.false).1
