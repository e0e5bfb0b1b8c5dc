use Rattle.segments.proofs.Common.{◌+◌, drop, sym, ◌∙◌, ap, drop_all, differing-empty, differing, Toggled, odd_of}
use Rattle.segments.proofs.EntryLaws.{odd_more}
use Rattle.segments.proofs.toggles.turn_odd.Goals as goal

pub loop-entry-preserved : goal.loop-entry-preserved
loop-entry-preserved c =
    let toggles = c.args.toggles.now in
    let index = c.loop-entry.entry-index in
    let so_far = c.loop-entry.slots in
    ap (λ s. differing s (odd_of (drop (index + 1) toggles))) c.flip_word.ensures
    ∙ ap (λ (e : Toggled). differing (differing so_far e.slots) (odd_of (drop (index + 1) toggles))) c.entry-item.is
    ∙ odd_more toggles index c.entry-item.result so_far _ c.loop-entry-test.true c.loop-entry.invariant

pub returns : goal.returns
returns c =
    let slots = c.loop-entry.slots in
    sym (differing-empty slots)
    ∙ ap (λ entries. differing slots (odd_of entries))
    (sym (drop_all c.loop-entry.entry-index c.args.toggles.now c.loop-entry-test.false))
    ∙ c.loop-entry.invariant
