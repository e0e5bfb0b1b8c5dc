use Rattle.line_lists.proofs.Common.{ℕ, ◌+◌, ◌<◌, ◌≤◌, ◌∙◌, ap, sym, subst, arith, length, refl, length-map, Cell}
use Rattle.line_lists.proofs.Common.{flags, previous_change-below, has_toggle, content_of, whole}
use Rattle.line_lists.proofs.CountRows.{count-characters}
use Rattle.line_lists.proofs.LineStarts.{at-within, length_at, lent-length, near-column, placed-most}
use Rattle.line_lists.proofs.NearChanges.{change-back, change-earlier, change-first, lent-none-previous, lent-previous}
use Rattle.line_lists.proofs.NearMarks.{if_some}
use Rattle.line_lists.proofs.PlaceRows.{length-content}
use Rattle.line_lists.proofs.SearchRows.{line_at, previous-found, previous-none}
use Rattle.line_lists.proofs.ToggleColumns.{some-toggle}
use Rattle.std.specs.FinSet as set
use Rattle.line_lists.proofs.queries.previous_change.Goals as goal

pub previous_toggle-requires-clause-within : goal.previous_toggle-requires-clause-within
previous_toggle-requires-clause-within g c =
    let list = g.L.LineList.lines c.args.list.now in
    let last : c.args.offset ≤ length (whole list).columns = omega (arith, c.requires.within, length-content list) in
    omega (
      arith,
      at-within list c.args.offset c.place_of-index.result.0 c.place_of-index.result.1
          c.place_of-index.ensures.place last,
      lent-length list c.place_of-index.result.0 c.place_of-index.result.2.now c.place_of-index.ensures.line,
    )

pub returns-in-Some-clause-value : goal.returns-in-Some-clause-value
returns-in-Some-clause-value g c =
    let list = g.L.LineList.lines c.args.list.now in
    let slot = c.args.slot.0 in
    let k = c.place_of-index.result.0 in let column = c.place_of-index.result.1 in let n = c.in-Some.previous in
    let last : c.args.offset ≤ length (whole list).columns = omega (arith, c.requires.within, length-content list) in
    let small = at-within list c.args.offset k column c.place_of-index.ensures.place last in
    let near = lent-previous list slot k c.place_of-index.result.2.now c.place_of-index.ensures.line column column n
    c.previous_toggle.result small
    c.previous_toggle.ensures.value c.in-Some.is refl in
    near-column list c.args.offset k column n c.place_of-index.ensures.place.behind
    ∙ sym (change-back list slot c.args.offset k column c.place_of-index.ensures.place last n small near)

pub returns-in-None-clause-value : goal.returns-in-None-clause-value
returns-in-None-clause-value g c =
    let list = g.L.LineList.lines c.args.list.now in
    let slot = c.args.slot.0 in
    let k = c.place_of-index.result.0 in let column = c.place_of-index.result.1 in
    let last : c.args.offset ≤ length (whole list).columns = omega (arith, c.requires.within, length-content list) in
    let small = at-within list c.args.offset k column c.place_of-index.ensures.place last in
    let none = lent-none-previous list slot k c.place_of-index.result.2.now c.place_of-index.ensures.line column column
    c.previous_toggle.result
    small c.previous_toggle.ensures.value c.in_default.is refl in
    let before : k ≤ length list = omega (arith, c.place_of-index.ensures.place.within) in
    let free = previous-none (has_toggle slot) k list before (sym c.previous_with.ensures ∙ c.in-None.is) in
    sym (change-first list slot c.args.offset k column c.place_of-index.ensures.place last c.requires.some none free)

pub returns-in-None-previous_toggle-clause-value : goal.returns-in-None-previous_toggle-clause-value
returns-in-None-previous_toggle-clause-value g c =
    let list = g.L.LineList.lines c.args.list.now in
    let slot = c.args.slot.0 in
    let k = c.place_of-index.result.0 in
    let e = c.in-Some-previous_with.earlier in
    let before : k ≤ length list = omega (arith, c.place_of-index.ensures.place.within) in
    let line = previous-found (has_toggle slot) k list before e (sym c.previous_with.ensures
    ∙ c.in-Some-previous_with.is) in
    let long = c.len.ensures ∙ sym (lent-length list e c.placed_line-start.result.1.now
    c.placed_line-start.ensures.line) in
    let same : length_at list e ≤ length_at list e = omega arith in
    some-toggle slot (line_at list e) line.passes
    (lent-none-previous list slot e c.placed_line-start.result.1.now c.placed_line-start.ensures.line (length_at list
    e) c.len.result c.previous_toggle-in-Some-previous_with.result same
    c.previous_toggle-in-Some-previous_with.ensures.value c.in-None-previous_toggle.is long)

pub returns-in-Some-previous_toggle-clause-value : goal.returns-in-Some-previous_toggle-clause-value
returns-in-Some-previous_toggle-clause-value g c =
    let list = g.L.LineList.lines c.args.list.now in
    let slot = c.args.slot.0 in
    let k = c.place_of-index.result.0 in let column = c.place_of-index.result.1 in
    let e = c.in-Some-previous_with.earlier in let n = c.in-Some-previous_toggle.previous in
    let last : c.args.offset ≤ length (whole list).columns = omega (arith, c.requires.within, length-content list) in
    let small = at-within list c.args.offset k column c.place_of-index.ensures.place last in
    let none = lent-none-previous list slot k c.place_of-index.result.2.now c.place_of-index.ensures.line column column
    c.previous_toggle.result
    small c.previous_toggle.ensures.value c.in_default.is refl in
    let before : k ≤ length list = omega (arith, c.place_of-index.ensures.place.within) in
    let line = previous-found (has_toggle slot) k list before e (sym c.previous_with.ensures
    ∙ c.in-Some-previous_with.is) in
    let long = c.len.ensures ∙ sym (lent-length list e c.placed_line-start.result.1.now
    c.placed_line-start.ensures.line) in
    let same : length_at list e ≤ length_at list e = omega arith in
    let near = lent-previous list slot e c.placed_line-start.result.1.now c.placed_line-start.ensures.line (length_at
    list e) c.len.result n c.previous_toggle-in-Some-previous_with.result same
    c.previous_toggle-in-Some-previous_with.ensures.value c.in-Some-previous_toggle.is long in
    ap (λ m. m + n) c.placed_line-start.ensures.start
    ∙ sym (change-earlier list slot c.args.offset k column c.place_of-index.ensures.place last e n none line near)

pub returns-in-Some-previous_toggle-clause-below : goal.returns-in-Some-previous_toggle-clause-below
returns-in-Some-previous_toggle-clause-below g c =
    let cells = (content_of (g.L.LineList.lines c.args.list.now)).cells in
    let long = length-map cells (λ (cell : Cell). set.contains cell.tags c.args.slot.0) in
    subst (λ n. n < c.args.offset) (sym (returns-in-Some-previous_toggle-clause-value g c))
    (previous_change-below (flags c.args.slot.0 cells) c.args.offset c.requires.some
    (omega (arith, long, c.requires.within)))

pub overflow_add-result-in-Some-previous_toggle : goal.overflow_add-result-in-Some-previous_toggle
overflow_add-result-in-Some-previous_toggle g c =
    let list = g.L.LineList.lines c.args.list.now in
    let small = if_some (λ (n : ℕ). n < c.len.result) c.previous_toggle-in-Some-previous_with.result
    c.in-Some-previous_toggle.previous
    c.in-Some-previous_toggle.is c.previous_toggle-in-Some-previous_with.ensures.below in
    let most = placed-most list c.in-Some-previous_with.earlier c.placed_line-start.result.0
    c.in-Some-previous_toggle.previous c.placed_line-start.result.1.now
    c.placed_line-start.ensures.start c.placed_line-start.ensures.line (omega (arith, small, c.len.ensures)) in
    omega (arith, most, (g.L.LineList.are_lines c.args.list.now).counted.characters, count-characters list)
