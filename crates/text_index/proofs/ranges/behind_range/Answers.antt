use Rattle.text_index.proofs.Common.{part_of, shown, ◌≡◌, ◌-◌, ap, arith, true, ◌∙◌, flag_at, shown_flags}
use Rattle.text_index.proofs.WalkLaws.{range-passed, range-ends, unset-there}
use Rattle.text_index.proofs.ranges.behind_range.Goals as goal

pub returns-clause-passed : goal.returns-clause-passed
returns-clause-passed g c = λ k from below.
    let view = c.args.view.now in
    let shown = shown_flags c.args.slot.0 (part_of view) in
    let set : flag_at shown (c.args.place - 1) ≡ true = cc in
    range-passed shown c.args.place c.change_after.result k (omega arith) set c.change_after.ensures.value from below

pub returns-clause-here : goal.returns-clause-here
returns-clause-here g c = λ there.
    let view = c.args.view.now in
    let shown = shown_flags c.args.slot.0 (part_of view) in
    let set : flag_at shown (c.args.place - 1) ≡ true = cc in
    range-ends shown (c.args.place - 1) c.change_after.result set c.change_after.ensures.value there

pub returns-clause-past : goal.returns-clause-past
returns-clause-past g c = λ _.
    let view = c.args.view.now in
    let shown = shown_flags c.args.slot.0 (part_of view) in
    let set : flag_at shown (c.args.place - 1) ≡ true = cc in
    ap (flag_at shown) c.change_after.ensures.value ∙ unset-there shown (c.args.place - 1) set
