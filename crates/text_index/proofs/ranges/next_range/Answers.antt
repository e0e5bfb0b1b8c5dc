use Rattle.text_index.proofs.Common.{part_of, shown, sym, ap, ◌∙◌, and_later, shown_flags}
use Rattle.text_index.proofs.RangeLaws.{ranges_from-step}
use Rattle.text_index.proofs.ranges.next_range.Goals as goal

pub returns-clause-value : goal.returns-clause-value
returns-clause-value g c =
    c.range_at.ensures.value c.args.place c.next_start-start.ensures.above c.next_start-start.ensures.passed

pub returns-clause-later : goal.returns-clause-later
returns-clause-later g c =
    let view = c.args.view.now in
    let shown = shown_flags c.args.slot.0 (part_of view) in
    ranges_from-step shown c.args.place
    ∙ ap (and_later shown) (sym (c.range_at.ensures.value c.args.place c.next_start-start.ensures.above
    c.next_start-start.ensures.passed))
