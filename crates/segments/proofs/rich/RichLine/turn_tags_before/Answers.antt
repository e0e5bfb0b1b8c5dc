use Rattle.segments.proofs.Common.{length, take, sym, ap, ◌∙◌, arith, differing, LineContent, tags_before, odd_of}
use Rattle.segments.proofs.Common.{columns_from, ◌+◌}
use Rattle.segments.proofs.ColumnLaws.{front-entries, tags-whole}
use Rattle.segments.proofs.RichLaws.{as_long}
use Rattle.segments.proofs.rich.RichLine.turn_tags_before.Goals as goal

pub returns-then-column-len : goal.returns-then-column-len
returns-then-column-len c =
    let text = c.self.inside.text in
    let entries = c.self.inside.toggles.items in
    c.turn_odd.ensures
    ∙ ap (differing c.args.slots.now)
    (ap odd_of c.deref.ensures.value
    ∙ tags-whole text entries c.self.invariant.0
    ∙ ap (λ n. tags_before n (columns_from 0 text entries)) (sym (c.if-column-len.true ∙ c.len.ensures))
    ∙ ap (λ (line : LineContent). tags_before c.args.column line.columns) c.self.view_is)

pub returns : goal.returns
returns c =
    let text = c.self.inside.text in
    let count = c.count_before-count.result in
    let lie = c.self.invariant.0 in
    let before = rw c.deref-2.ensures.value at (c.count_before-count.ensures.before 0 (length text)) in
    let behind = rw c.deref-2.ensures.value at (c.count_before-count.ensures.behind 0 (length text)) in
    c.turn_odd-2.ensures
    ∙ ap (differing c.args.slots.now)
    (ap (λ es. odd_of (take count es)) c.deref-3.ensures.value
    ∙ front-entries text c.self.inside.toggles.items count (c.args.column + 1) lie (before lie)
    (behind lie (omega arith))
    ∙ ap (λ (line : LineContent). tags_before c.args.column line.columns) c.self.view_is)

pub overflow_add-column : goal.overflow_add-column
overflow_add-column c = omega (arith, c.requires, c.len.ensures, as_long c.self.inside c.self.view_is)
