use Rattle.text_index.proofs.Common.{string_bytes, ◌-◌, ap, ◌∙◌, IsUtf8-string_bytes, line_start}
use Rattle.text_index.proofs.PositionLaws.{chars-behind}
use Rattle.text_index.proofs.positions.push_index_on.Goals as goal

pub returns-clause-ok : goal.returns-clause-ok
returns-clause-ok c = λ shown is.
    let line = c.args.line in
    chars-behind shown (string_bytes c.args.text.now) (string_bytes c.push_numbers.new.text) c.args.place line.number
    (c.args.place - line.start) (IsUtf8-string_bytes c.args.text.now) c.in_ok-push_numbers.ensures.ok
    c.push_numbers.ensures.line c.push_numbers.ensures.character is.number
    (ap (λ n. c.args.place - n) (is.start ∙ ap (λ k. line_start k shown) is.number))
