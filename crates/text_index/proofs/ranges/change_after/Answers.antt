use Rattle.text_index.proofs.Common.{part_of, ◌≤◌, ◌-◌, min, length, ap, ◌∙◌, flags}
use Rattle.text_index.proofs.FlagLaws.{part-next, flags-within}
use Rattle.text_index.proofs.ranges.change_after.Goals as goal

pub returns-clause-value : goal.returns-clause-value
returns-clause-value g c =
    let view = c.args.view.now in
    let all = flags c.args.slot.0 (part_of view).content.cells in
    let within : view.end ≤ length all = flags-within (part_of view) c.args.slot.0 view.whole_lines in
    ap (λ n. n - view.start) c.min.ensures ∙ ap (λ n. min n view.end - view.start) c.next_change-change.ensures.value
    ∙ part-next all view.start view.end c.args.place within c.requires.within
