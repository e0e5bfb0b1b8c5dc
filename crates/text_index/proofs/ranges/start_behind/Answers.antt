use Rattle.text_index.proofs.Common.{part_of, shown, ◌-◌, arith, shown_flags}
use Rattle.text_index.proofs.FlagLaws.{length-shown_flags}
use Rattle.text_index.proofs.WalkLaws.{start-passed, start-here}
use Rattle.text_index.proofs.ranges.start_behind.Goals as goal

pub returns-clause-passed : goal.returns-clause-passed
returns-clause-passed g c = λ k from below.
    let view = c.args.view.now in
    let shown = shown_flags c.args.slot.0 (part_of view) in
    start-passed shown c.args.place c.args.place c.change_after.result k
    (λ j low high. absurd (omega arith)) c.requires.unset c.change_after.ensures.value from below

pub returns-clause-here : goal.returns-clause-here
returns-clause-here g c = λ inside.
    let view = c.args.view.now in
    let shown = shown_flags c.args.slot.0 (part_of view) in
    let long = length-shown_flags (part_of view) c.args.slot.0 view.whole_lines in
    start-here shown c.args.place c.change_after.result c.requires.unset c.change_after.ensures.value
    c.change_after.ensures.above (omega (arith, long, inside))
