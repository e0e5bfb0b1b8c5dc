use Rattle.text_index.proofs.Common.{part_of, None, Some, ◌∙◌, shown_flags}
use Rattle.text_index.proofs.WalkLaws.{first-start}
use Rattle.text_index.proofs.ranges.first_tagged.Goals as goal

pub returns-in_err-range-clause-value : goal.returns-in_err-range-clause-value
returns-in_err-range-clause-value g c =
    let view = c.args.view.now in
    c.from_residual.ensures
    ∙ first-start (shown_flags c.args.slot.0 (part_of view)) None
    (c.in_err-range.ensures {u = tt}).value

pub returns-clause-value : goal.returns-clause-value
returns-clause-value g c =
    let view = c.args.view.now in
    first-start (shown_flags c.args.slot.0 (part_of view))
    (Some c.in_ok-range.range) (c.in_ok-range.ensures {u = tt}).value
