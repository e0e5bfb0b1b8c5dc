use Rattle.segments.proofs.Common.{◌+◌, ◌∙◌, ap, sym, drop, drop_all, either, nat_cmp, odd_of, Toggled}
use Rattle.segments.proofs.EntryLaws.{either-false, odd_slot-more, unequal}
use Rattle.std.specs.FinSet as set
use Rattle.segments.proofs.toggles.is_odd.Goals as goal

pub loop-entry-preserved : goal.loop-entry-preserved
loop-entry-preserved c =
    let toggles = c.args.toggles.now in
    let index = c.loop-entry.entry-index in
    let so_far = c.loop-entry.is_odd in
    let slot = c.args.slot.0 in
    ap (λ b. either b (set.contains (odd_of (drop (index + 1) toggles)) slot))
    (unequal so_far c.has-is_odd.result
    ∙ ap (either so_far) (c.has-is_odd.ensures ∙ ap (λ (e : Toggled). set.contains e.slots slot) c.entry-item.is))
    ∙ odd_slot-more toggles index c.entry-item.result slot so_far _ c.loop-entry-test.true c.loop-entry.invariant

pub returns : goal.returns
returns c =
    let so_far = c.loop-entry.is_odd in
    let slot = c.args.slot.0 in
    sym (either-false so_far)
    ∙ ap (either so_far) (sym (ap (λ es. set.contains (odd_of es) slot)
    (drop_all c.loop-entry.entry-index c.args.toggles.now c.loop-entry-test.false) ∙ set.contains-empty nat_cmp slot))
    ∙ c.loop-entry.invariant
