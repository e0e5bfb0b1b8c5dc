use Rattle.text_index.proofs.Common.{part_of, shown, ◌≡◌, ◌-◌, arith, false, flag_at, shown_flags}
use Rattle.text_index.proofs.FlagLaws.{length-shown_flags}
use Rattle.text_index.proofs.WalkLaws.{tagged-passed, tagged-here}
use Rattle.text_index.proofs.ranges.behind_tagged.Goals as goal

pub returns-clause-passed : goal.returns-clause-passed
returns-clause-passed g c = λ k from below.
    let view = c.args.view.now in
    let shown = shown_flags c.args.slot.0 (part_of view) in
    let long = length-shown_flags (part_of view) c.args.slot.0 view.whole_lines in
    let unset : flag_at shown (c.args.place - 1) ≡ false = cc in
    tagged-passed shown c.args.place c.change_before.result k (omega (arith, long)) unset c.change_before.ensures.value
    from below

pub returns-clause-here : goal.returns-clause-here
returns-clause-here g c = λ some.
    let view = c.args.view.now in
    let shown = shown_flags c.args.slot.0 (part_of view) in
    let long = length-shown_flags (part_of view) c.args.slot.0 view.whole_lines in
    let unset : flag_at shown (c.args.place - 1) ≡ false = cc in
    tagged-here shown c.args.place c.change_before.result (omega (arith, long)) unset c.change_before.ensures.value some
