use Rattle.text_index.proofs.Common.{part_of, shown, ◌≡◌, ◌-◌, length, None, Some, sym, ap, ◌∙◌, previous_range}
use Rattle.text_index.proofs.Common.{shown_flags}
use Rattle.text_index.proofs.FlagLaws.{length-shown_flags}
use Rattle.text_index.proofs.ViewLaws.{length-shown}
use Rattle.text_index.proofs.WalkLaws.{last-end}
use Rattle.text_index.proofs.ranges.last_tagged.Goals as goal

pub returns-in_err-range-clause-value : goal.returns-in_err-range-clause-value
returns-in_err-range-clause-value g c =
    let view = c.args.view.now in
    let shown = shown_flags c.args.slot.0 (part_of view) in
    let long = length-shown_flags (part_of view) c.args.slot.0 view.whole_lines in
    let all : c.len.result ≡ length shown = c.len.ensures ∙ length-shown (part_of view) view.whole_lines
    ∙ sym long in
    c.from_residual.ensures ∙ last-end shown None ((c.in_err-range.ensures {u = tt}).value
    ∙ ap (previous_range shown) all)

pub returns-clause-value : goal.returns-clause-value
returns-clause-value g c =
    let view = c.args.view.now in
    let shown = shown_flags c.args.slot.0 (part_of view) in
    let long = length-shown_flags (part_of view) c.args.slot.0 view.whole_lines in
    let all : c.len.result ≡ length shown = c.len.ensures ∙ length-shown (part_of view) view.whole_lines
    ∙ sym long in
    last-end shown (Some c.in_ok-range.range) ((c.in_ok-range.ensures {u = tt}).value ∙ ap (previous_range shown) all)
