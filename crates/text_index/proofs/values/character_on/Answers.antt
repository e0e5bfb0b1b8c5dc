use Rattle.text_index.proofs.Common.{part_of, ◌≡◌, ◌≤◌, length, sym, ◌∙◌, lines, line_start, shown}
use Rattle.text_index.proofs.StartLaws.{none-on, past-start}
use Rattle.text_index.proofs.ViewLaws.{length-shown}
use Rattle.text_index.proofs.values.character_on.Goals as goal

pub returns-in-None-clause-value : goal.returns-in-None-clause-value
returns-in-None-clause-value g c =
    let view = c.args.view.now in
    let text = shown (part_of view) in
    let long = length-shown (part_of view) view.whole_lines in
    let past : lines text ≤ c.args.line → line_start c.args.line text ≡ length text =
    λ over. past-start view.whole_lines c.args.line over ∙ sym long in
    let over = c.line_bounds.ensures.none c.in-None.is in
    none-on text c.args.line c.args.character c.len.result past over (c.len.ensures ∙ sym (past over))
