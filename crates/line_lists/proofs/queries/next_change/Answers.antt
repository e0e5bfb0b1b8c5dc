use Rattle.line_lists.proofs.Common.{ℕ, ◌+◌, ◌<◌, length, ◌∙◌, ap, sym, subst, suc, arith, refl, add-one, length-map}
use Rattle.line_lists.proofs.Common.{Cell, flags, next_change-above, has_toggle, next_line, content_of}
use Rattle.line_lists.proofs.CountRows.{count-characters, count-lines}
use Rattle.line_lists.proofs.LineStarts.{lent-inner, near-column, near-most, placed-most}
use Rattle.line_lists.proofs.NearChanges.{change-here, change-later, change-nowhere, lent-next, lent-none-next}
use Rattle.line_lists.proofs.NearMarks.{if_some}
use Rattle.line_lists.proofs.PlaceRows.{length-content}
use Rattle.line_lists.proofs.SearchRows.{line_at, next-found, next-none}
use Rattle.line_lists.proofs.ToggleColumns.{some-toggle}
use Rattle.std.specs.FinSet as set
use Rattle.line_lists.proofs.queries.next_change.Goals as goal

pub line_at-index-requires : goal.line_at-index-requires
line_at-index-requires g c =
    subst (λ n. c.args.offset < n) (length-content (g.L.LineList.lines c.args.list.now)) c.requires.within

pub overflow_add-column : goal.overflow_add-column
overflow_add-column g c =
    let list = g.L.LineList.lines c.args.list.now in
    omega (
      arith,
      c.line_at-index.ensures.place.behind,
      c.requires.within,
      length-content list,
      (g.L.LineList.are_lines c.args.list.now).counted.characters,
      count-characters list,
    )

pub returns-in-Some-clause-value : goal.returns-in-Some-clause-value
returns-in-Some-clause-value g c =
    let list = g.L.LineList.lines c.args.list.now in
    let slot = c.args.slot.0 in
    let k = c.line_at-index.result.0 in let column = c.line_at-index.result.1 in
    let near = lent-next list slot k c.line_at-index.result.2.now c.line_at-index.ensures.line (suc column)
    (column + 1) c.in-Some.next
    c.next_toggle.result c.next_toggle.ensures.value c.in-Some.is (add-one column) in
    near-column list c.args.offset k column c.in-Some.next c.line_at-index.ensures.place.behind
    ∙ sym (change-here list slot c.args.offset k column c.line_at-index.ensures.place.behind
    c.line_at-index.ensures.place.within
    (lent-inner list c.args.offset k column c.line_at-index.ensures.place) c.in-Some.next near)

pub overflow_add-index : goal.overflow_add-index
overflow_add-index g c =
    let list = g.L.LineList.lines c.args.list.now in
    omega (
      arith,
      c.line_at-index.ensures.place.within,
      (g.L.LineList.are_lines c.args.list.now).counted.lines,
      count-lines list,
    )

pub returns-in-None-clause-value : goal.returns-in-None-clause-value
returns-in-None-clause-value g c =
    let list = g.L.LineList.lines c.args.list.now in
    let slot = c.args.slot.0 in
    let k = c.line_at-index.result.0 in let column = c.line_at-index.result.1 in
    let none = lent-none-next list slot k c.line_at-index.result.2.now c.line_at-index.ensures.line (suc column)
    (column + 1)
    c.next_toggle.result c.next_toggle.ensures.value c.in_default.is (add-one column) in
    let free = next-none (has_toggle slot) (suc k) list (ap (λ n. next_line (has_toggle slot) n list) (sym (add-one k))
    ∙ sym c.next_with.ensures ∙ c.in-None.is) in
    c.len.ensures ∙ length-content list
    ∙ sym (change-nowhere list slot c.args.offset k column c.line_at-index.ensures.place.behind
    c.line_at-index.ensures.place.within
    (lent-inner list c.args.offset k column c.line_at-index.ensures.place) none free)

pub returns-in-None-next_toggle-clause-value : goal.returns-in-None-next_toggle-clause-value
returns-in-None-next_toggle-clause-value g c =
    let list = g.L.LineList.lines c.args.list.now in
    let slot = c.args.slot.0 in
    let e = c.in-Some-next_with.later in
    let line = next-found (has_toggle slot) (c.line_at-index.result.0 + 1) list e (sym c.next_with.ensures
    ∙ c.in-Some-next_with.is) in
    some-toggle slot (line_at list e) line.passes
    (lent-none-next list slot e c.placed_line-start.result.1.now c.placed_line-start.ensures.line 0 0
    c.next_toggle-in-Some-next_with.result c.next_toggle-in-Some-next_with.ensures.value c.in-None-next_toggle.is
    refl)

pub returns-in-Some-next_toggle-clause-value : goal.returns-in-Some-next_toggle-clause-value
returns-in-Some-next_toggle-clause-value g c =
    let list = g.L.LineList.lines c.args.list.now in
    let slot = c.args.slot.0 in
    let k = c.line_at-index.result.0 in let column = c.line_at-index.result.1 in
    let e = c.in-Some-next_with.later in let n = c.in-Some-next_toggle.next in
    let none = lent-none-next list slot k c.line_at-index.result.2.now c.line_at-index.ensures.line (suc column)
    (column + 1)
    c.next_toggle.result c.next_toggle.ensures.value c.in_default.is (add-one column) in
    let line = next-found (has_toggle slot) (suc k) list e
    (ap (λ i. next_line (has_toggle slot) i list) (sym (add-one k)) ∙ sym c.next_with.ensures
    ∙ c.in-Some-next_with.is) in
    let near = lent-next list slot e c.placed_line-start.result.1.now c.placed_line-start.ensures.line 0 0 n
    c.next_toggle-in-Some-next_with.result c.next_toggle-in-Some-next_with.ensures.value c.in-Some-next_toggle.is
    refl in
    ap (λ m. m + n) c.placed_line-start.ensures.start
    ∙ sym (change-later list slot c.args.offset k column c.line_at-index.ensures.place.behind
    c.line_at-index.ensures.place.within
    (lent-inner list c.args.offset k column c.line_at-index.ensures.place) e n none line near)

pub returns-in-Some-next_toggle-clause-above : goal.returns-in-Some-next_toggle-clause-above
returns-in-Some-next_toggle-clause-above g c =
    let cells = (content_of (g.L.LineList.lines c.args.list.now)).cells in
    let long = length-map cells (λ (cell : Cell). set.contains cell.tags c.args.slot.0) in
    subst (λ n. c.args.offset < n) (sym (returns-in-Some-next_toggle-clause-value g c))
    (next_change-above (flags c.args.slot.0 cells) c.args.offset (omega (arith, long, c.requires.within)))

pub overflow_add-result : goal.overflow_add-result
overflow_add-result g c =
    let list = g.L.LineList.lines c.args.list.now in
    let small = if_some (λ (n : ℕ). n < length c.line_at-index.result.2.now.columns) c.next_toggle.result c.in-Some.next
    c.in-Some.is c.next_toggle.ensures.bound in
    let most = near-most list c.args.offset c.line_at-index.result.0 c.line_at-index.result.1 c.in-Some.next
    c.line_at-index.result.2.now
    c.line_at-index.ensures.place.behind c.line_at-index.ensures.line (omega (arith, small)) in
    omega (arith, most, (g.L.LineList.are_lines c.args.list.now).counted.characters, count-characters list)

pub returns-in-Some-clause-bound : goal.returns-in-Some-clause-bound
returns-in-Some-clause-bound g c =
    let list = g.L.LineList.lines c.args.list.now in
    let small = if_some (λ (n : ℕ). n < length c.line_at-index.result.2.now.columns) c.next_toggle.result c.in-Some.next
    c.in-Some.is c.next_toggle.ensures.bound in
    let most = near-most list c.args.offset c.line_at-index.result.0 c.line_at-index.result.1 c.in-Some.next
    c.line_at-index.result.2.now
    c.line_at-index.ensures.place.behind c.line_at-index.ensures.line (omega (arith, small)) in
    omega (arith, most, length-content list)

pub overflow_add-result-in-Some-next_toggle : goal.overflow_add-result-in-Some-next_toggle
overflow_add-result-in-Some-next_toggle g c =
    let list = g.L.LineList.lines c.args.list.now in
    let small = if_some (λ (n : ℕ). n < length c.placed_line-start.result.1.now.columns)
    c.next_toggle-in-Some-next_with.result c.in-Some-next_toggle.next
    c.in-Some-next_toggle.is c.next_toggle-in-Some-next_with.ensures.bound in
    let most = placed-most list c.in-Some-next_with.later c.placed_line-start.result.0 c.in-Some-next_toggle.next
    c.placed_line-start.result.1.now
    c.placed_line-start.ensures.start c.placed_line-start.ensures.line (omega (arith, small)) in
    omega (arith, most, (g.L.LineList.are_lines c.args.list.now).counted.characters, count-characters list)

pub returns-in-Some-next_toggle-clause-bound : goal.returns-in-Some-next_toggle-clause-bound
returns-in-Some-next_toggle-clause-bound g c =
    let list = g.L.LineList.lines c.args.list.now in
    let small = if_some (λ (n : ℕ). n < length c.placed_line-start.result.1.now.columns)
    c.next_toggle-in-Some-next_with.result c.in-Some-next_toggle.next
    c.in-Some-next_toggle.is c.next_toggle-in-Some-next_with.ensures.bound in
    let most = placed-most list c.in-Some-next_with.later c.placed_line-start.result.0 c.in-Some-next_toggle.next
    c.placed_line-start.result.1.now
    c.placed_line-start.ensures.start c.placed_line-start.ensures.line (omega (arith, small)) in
    omega (arith, most, length-content list)
