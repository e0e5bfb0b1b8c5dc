use Rattle.text_index.proofs.StartLaws.{ends-after, ends-behind, ends-within, none-shown, number-is}
use Rattle.text_index.proofs.views.View.behind_line.Goals as goal

pub returns-then-number-lines-clause-none : goal.returns-then-number-lines-clause-none
returns-then-number-lines-clause-none g c = λ _.
    (none-shown c.args.self.now.whole_lines c.args.line c.first_line.ensures c.saturating_add-number.ensures c.lines.ensures
    c.if-number-lines.true).0

pub returns-then-self-behind-clause-none : goal.returns-then-self-behind-clause-none
returns-then-self-behind-clause-none g c = λ _.
    let number = number-is c.args.self.now.whole_lines c.args.line c.first_line.ensures c.saturating_add-number.ensures c.lines.ensures
    c.lines.type_inv c.if-number-lines.false in
    ends-behind c.args.self.now.whole_lines number c.line_start-behind.ensures.value c.if-self-behind.true

pub overflow_sub-result : goal.overflow_sub-result
overflow_sub-result g c =
    let number = number-is c.args.self.now.whole_lines c.args.line c.first_line.ensures c.saturating_add-number.ensures c.lines.ensures
    c.lines.type_inv c.if-number-lines.false in
    ends-after c.args.self.now.whole_lines number c.line_start-behind.ensures.value

pub returns-clause-some : goal.returns-clause-some
returns-clause-some g c =
    let number = number-is c.args.self.now.whole_lines c.args.line c.first_line.ensures c.saturating_add-number.ensures c.lines.ensures
    c.lines.type_inv c.if-number-lines.false in
    (ends-within c.args.self.now.whole_lines number c.line_start-behind.ensures.value c.if-self-behind.false).0

pub returns-clause-value : goal.returns-clause-value
returns-clause-value g c =
    let number = number-is c.args.self.now.whole_lines c.args.line c.first_line.ensures c.saturating_add-number.ensures c.lines.ensures
    c.lines.type_inv c.if-number-lines.false in
    (ends-within c.args.self.now.whole_lines number c.line_start-behind.ensures.value c.if-self-behind.false).1
