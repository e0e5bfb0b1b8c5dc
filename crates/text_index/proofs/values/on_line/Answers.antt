use Rattle.text_index.proofs.Common.{◌≡◌, ◌-◌, suc, Some, ap, sym, ◌∙◌, arith, line_value, part_of, shown}
use Rattle.text_index.proofs.StartLaws.{first-value}
use Rattle.text_index.proofs.values.on_line.Goals as goal

pub returns-in-Some-eq0-clause-value : goal.returns-in-Some-eq0-clause-value
returns-in-Some-eq0-clause-value g c =
    let text = shown (part_of c.args.view.now) in
    let some = c.in-Some-eq0 in
    first-value c.args.view.now.whole_lines
    ∙ ap (λ n. line_value n (Some 0) text) (sym c.if-line-eq1.true)
    ∙ ap (λ o. line_value c.args.line o text) (sym (some.is ∙ ap Some (sym some.field-0-is ∙ some.field-0-test)))

pub returns-in-Some-clause-value : goal.returns-in-Some-clause-value
returns-in-Some-clause-value g c =
    let number : suc (c.args.line - 1) ≡ c.args.line = omega (arith, c.if-line-eq0.false) in
    c.character_on.ensures.value
    ∙ ap (λ n. line_value n (Some c.in-Some.character) (shown (part_of c.args.view.now))) number
    ∙ ap (λ o. line_value c.args.line o (shown (part_of c.args.view.now))) (sym c.in-Some.is)
