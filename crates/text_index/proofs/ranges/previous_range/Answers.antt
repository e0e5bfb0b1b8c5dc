use Rattle.text_index.proofs.Common.{part_of, shown, ◌-◌, arith, shown_flags}
use Rattle.text_index.proofs.FlagLaws.{length-shown_flags}
use Rattle.text_index.proofs.WalkLaws.{end-known, previous-there, previous-nowhere}
use Rattle.text_index.proofs.ranges.previous_range.Goals as goal

pub returns-then-behind-eq0-clause-value : goal.returns-then-behind-eq0-clause-value
returns-then-behind-eq0-clause-value g c =
    let view = c.args.view.now in
    let shown = shown_flags c.args.slot.0 (part_of view) in
    let long = length-shown_flags (part_of view) c.args.slot.0 view.whole_lines in
    previous-nowhere shown c.args.place (omega (arith, long)) (λ k below.
    c.behind_tagged-behind.ensures.passed k (omega arith) below)

pub returns-clause-value : goal.returns-clause-value
returns-clause-value g c =
    let view = c.args.view.now in
    let shown = shown_flags c.args.slot.0 (part_of view) in
    let long = length-shown_flags (part_of view) c.args.slot.0 view.whole_lines in
    previous-there shown c.args.place c.behind_tagged-behind.result c.change_before-start.result
    c.change_after-end.result (omega arith) c.behind_tagged-behind.ensures.below
    (omega (arith, long)) (c.behind_tagged-behind.ensures.here (omega arith)) c.behind_tagged-behind.ensures.passed
    c.change_before-start.ensures.value c.change_after-end.ensures.value

pub returns-then-behind-place-clause-value : goal.returns-then-behind-place-clause-value
returns-then-behind-place-clause-value g c =
    let view = c.args.view.now in
    let shown = shown_flags c.args.slot.0 (part_of view) in
    let behind = c.behind_tagged-behind.result in
    let long = length-shown_flags (part_of view) c.args.slot.0 view.whole_lines in
    let set = c.behind_tagged-behind.ensures.here (omega arith) in
    previous-there shown c.args.place behind c.change_before-start.result behind (omega arith)
    c.behind_tagged-behind.ensures.below (omega (arith, long)) set c.behind_tagged-behind.ensures.passed
    c.change_before-start.ensures.value
    (end-known shown behind c.change_before-start.result (omega arith) (omega (arith, long)) set
    (λ _. c.behind_tagged-behind.ensures.passed behind (omega arith) c.if-behind-place.true)
    c.change_before-start.ensures.value)
