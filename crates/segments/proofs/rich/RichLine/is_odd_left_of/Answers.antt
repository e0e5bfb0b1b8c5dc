use Rattle.segments.proofs.Common.{length, take, ap, ◌∙◌, arith, parity, LineContent, toggles, odd_of}
use Rattle.segments.proofs.ColumnLaws.{front-entries}
use Rattle.std.specs.FinSet as set
use Rattle.segments.proofs.rich.RichLine.is_odd_left_of.Goals as goal

pub returns : goal.returns
returns c =
    let text = c.self.inside.text in
    let count = c.count_before-count.result in
    let slot = c.args.slot.0 in
    let lie = c.self.invariant.0 in
    let before = rw c.deref.ensures.value at (c.count_before-count.ensures.before 0 (length text)) in
    let behind = rw c.deref.ensures.value at (c.count_before-count.ensures.behind 0 (length text)) in
    c.is_odd.ensures
    ∙ ap (λ es. set.contains (odd_of (take count es)) slot) c.deref-2.ensures.value
    ∙ ap (λ s. set.contains s slot)
    (front-entries text c.self.inside.toggles.items count c.args.column lie (before lie) (behind lie (omega arith)))
    ∙ ap (λ (line : LineContent). set.contains (parity (toggles (take c.args.column line.columns))) slot) c.self.view_is
