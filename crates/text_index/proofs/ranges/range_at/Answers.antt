use Rattle.text_index.proofs.Common.{part_of, shown, ◌≡◌, ◌+◌, ◌<◌, ◌-◌, length, arith, ◌∙◌, shown_flags}
use Rattle.text_index.proofs.FlagLaws.{length-shown_flags}
use Rattle.text_index.proofs.RangeLaws.{next-none}
use Rattle.text_index.proofs.ViewLaws.{length-shown}
use Rattle.text_index.proofs.WalkLaws.{next-there}
use Rattle.text_index.proofs.ranges.range_at.Goals as goal

pub returns-then-start-len-clause-value : goal.returns-then-start-len-clause-value
returns-then-start-len-clause-value g c = λ place above passed.
    let view = c.args.view.now in
    let shown = shown_flags c.args.slot.0 (part_of view) in
    let long = length-shown_flags (part_of view) c.args.slot.0 view.whole_lines in
    let len : c.len.result ≡ view.end - view.start = c.len.ensures ∙ length-shown (part_of view) view.whole_lines in
    let all : c.args.start ≡ length shown = omega (arith, long, len) in
    next-none shown place (omega (arith, all, above)) (λ k from below. passed k from (omega (arith, all, below)))

pub returns-clause-value : goal.returns-clause-value
returns-clause-value g c = λ place above passed.
    let view = c.args.view.now in
    let shown = shown_flags c.args.slot.0 (part_of view) in
    let long = length-shown_flags (part_of view) c.args.slot.0 view.whole_lines in
    let len : c.len.result ≡ view.end - view.start = c.len.ensures ∙ length-shown (part_of view) view.whole_lines in
    let inside : view.start + c.args.start < view.end = omega (arith, len, c.requires.within) in
    next-there shown place c.args.start c.change_after-end.result above (omega (arith, long, inside)) passed
    (c.requires.here inside) c.change_after-end.ensures.value
