use Rattle.text_index.proofs.Common.{part_of, ◌≤◌, ◌-◌, max, length, ap, ◌∙◌, flags}
use Rattle.text_index.proofs.FlagLaws.{part-previous, flags-within}
use Rattle.text_index.proofs.ranges.change_before.Goals as goal

pub returns-clause-value : goal.returns-clause-value
returns-clause-value g c =
    let view = c.args.view.now in
    let all = flags c.args.slot.0 (part_of view).content.cells in
    let within : view.end ≤ length all = flags-within (part_of view) c.args.slot.0 view.whole_lines in
    ap (λ n. n - view.start) c.max.ensures ∙ ap (λ n. max n view.start - view.start) c.previous_change-change.ensures.value
    ∙ part-previous all view.start view.end c.args.place within c.requires.some c.requires.within
