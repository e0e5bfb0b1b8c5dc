use Rattle.segments.proofs.Common.{length, take, ap, ◌∙◌, arith, parity, LineContent, toggles, odd_of}
use Rattle.segments.proofs.ColumnLaws.{front-entries}
use Rattle.segments.proofs.rich.RichLine.tags_left_of.Goals as goal

pub returns : goal.returns
returns c =
    let text = c.self.inside.text in
    let count = c.count_before-count.result in
    let lie = c.self.invariant.0 in
    let before = rw c.deref.ensures.value at (c.count_before-count.ensures.before 0 (length text)) in
    let behind = rw c.deref.ensures.value at (c.count_before-count.ensures.behind 0 (length text)) in
    c.odd_slots.ensures
    ∙ ap (λ es. odd_of (take count es)) c.deref-2.ensures.value
    ∙ front-entries text c.self.inside.toggles.items count c.args.column lie (before lie) (behind lie (omega arith))
    ∙ ap (λ (line : LineContent). parity (toggles (take c.args.column line.columns))) c.self.view_is
