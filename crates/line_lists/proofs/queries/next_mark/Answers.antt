use Rattle.line_lists.proofs.Common.{ℕ, ◌+◌, ◌≤◌, length, ◌∙◌, ap, sym, Some, None, suc, arith, add-one, next_mark}
use Rattle.line_lists.proofs.Common.{next_mark-above, has_marks, next_line, whole}
use Rattle.line_lists.proofs.CountRows.{count-characters, count-lines}
use Rattle.line_lists.proofs.LineStarts.{near-column, near-most, placed-most}
use Rattle.line_lists.proofs.NearMarks.{if_some, lent-found, next-here, next-later, next-nowhere, next-some}
use Rattle.line_lists.proofs.PlaceRows.{length-content}
use Rattle.line_lists.proofs.SearchRows.{line_at, next-found, next-none}
use Rattle.line_lists.proofs.queries.next_mark.Goals as goal

pub returns-in-Some-clause-value : goal.returns-in-Some-clause-value
returns-in-Some-clause-value g c =
    let list = g.L.LineList.lines c.args.list.now in
    let k = c.place_of-index.result.0 in let column = c.place_of-index.result.1 in
    let here = lent-found list k c.place_of-index.result.2.now (next_mark column) c.next_mark.result
    (Some c.in-Some.next)
    c.place_of-index.ensures.line c.next_mark.ensures.value c.in-Some.is in
    ap (λ n. Some n) (near-column list c.args.offset k column c.in-Some.next c.place_of-index.ensures.place.behind)
    ∙ sym (next-here list (g.L.LineList.are_lines c.args.list.now).rows c.args.offset k column
    c.place_of-index.ensures.place
    c.in-Some.next here)

pub overflow_add-index : goal.overflow_add-index
overflow_add-index g c =
    let list = g.L.LineList.lines c.args.list.now in
    omega (
      arith,
      c.place_of-index.ensures.place.within,
      (g.L.LineList.are_lines c.args.list.now).counted.lines,
      count-lines list,
    )

pub returns-in_err-later-clause-value : goal.returns-in_err-later-clause-value
returns-in_err-later-clause-value g c =
    let list = g.L.LineList.lines c.args.list.now in
    let k = c.place_of-index.result.0 in let column = c.place_of-index.result.1 in
    let none = lent-found list k c.place_of-index.result.2.now (next_mark column) c.next_mark.result None
    c.place_of-index.ensures.line
    c.next_mark.ensures.value c.in_default.is in
    let free = next-none has_marks (suc k) list (ap (λ n. next_line has_marks n list) (sym (add-one k))
    ∙ sym c.next_marked.ensures ∙ c.in_err-later.was) in
    c.from_residual.ensures
    ∙ sym (next-nowhere list (g.L.LineList.are_lines c.args.list.now).rows c.args.offset k column
    c.place_of-index.ensures.place none free)

pub returns-in_err-next-clause-value : goal.returns-in_err-next-clause-value
returns-in_err-next-clause-value g c =
    let list = g.L.LineList.lines c.args.list.now in
    let j = c.in_ok-later.later in
    let near = next-found has_marks (c.place_of-index.result.0 + 1) list j (sym c.next_marked.ensures
    ∙ c.in_ok-later.was) in
    next-some (line_at list j) near.passes
    (lent-found list j c.placed_line-start.result.1.now (next_mark 0) c.next_mark-2.result None
    c.placed_line-start.ensures.line c.next_mark-2.ensures.value c.in_err-next.was)

pub returns-clause-value : goal.returns-clause-value
returns-clause-value g c =
    let list = g.L.LineList.lines c.args.list.now in
    let k = c.place_of-index.result.0 in let column = c.place_of-index.result.1 in
    let j = c.in_ok-later.later in
    let none = lent-found list k c.place_of-index.result.2.now (next_mark column) c.next_mark.result None
    c.place_of-index.ensures.line
    c.next_mark.ensures.value c.in_default.is in
    let near = next-found has_marks (suc k) list j (ap (λ n. next_line has_marks n list) (sym (add-one k))
    ∙ sym c.next_marked.ensures ∙ c.in_ok-later.was) in
    let there = lent-found list j c.placed_line-start.result.1.now (next_mark 0) c.next_mark-2.result (Some
    c.in_ok-next.next) c.placed_line-start.ensures.line c.next_mark-2.ensures.value c.in_ok-next.was in
    ap (λ n. Some (n + c.in_ok-next.next)) c.placed_line-start.ensures.start
    ∙ sym (next-later list (g.L.LineList.are_lines c.args.list.now).rows c.args.offset k column
    c.place_of-index.ensures.place
    j c.in_ok-next.next none near there)

pub returns-clause-above : goal.returns-clause-above
returns-clause-above g c =
    if_some (λ next. c.args.offset ≤ next) _ (c.placed_line-start.result.0 + c.in_ok-next.next) (sym
    (returns-clause-value g c)) (next_mark-above c.args.offset (whole (g.L.LineList.lines c.args.list.now)).marks)

pub overflow_add-result : goal.overflow_add-result
overflow_add-result g c =
    let list = g.L.LineList.lines c.args.list.now in
    let small = if_some (λ (n : ℕ). n ≤ length c.place_of-index.result.2.now.columns) c.next_mark.result c.in-Some.next
    c.in-Some.is c.next_mark.ensures.bound in
    let most = near-most list c.args.offset c.place_of-index.result.0 c.place_of-index.result.1 c.in-Some.next
    c.place_of-index.result.2.now c.place_of-index.ensures.place.behind c.place_of-index.ensures.line small in
    omega (arith, most, (g.L.LineList.are_lines c.args.list.now).counted.characters, count-characters list)

pub returns-in-Some-clause-bound : goal.returns-in-Some-clause-bound
returns-in-Some-clause-bound g c =
    let list = g.L.LineList.lines c.args.list.now in
    let small = if_some (λ (n : ℕ). n ≤ length c.place_of-index.result.2.now.columns) c.next_mark.result c.in-Some.next
    c.in-Some.is c.next_mark.ensures.bound in
    let most = near-most list c.args.offset c.place_of-index.result.0 c.place_of-index.result.1 c.in-Some.next
    c.place_of-index.result.2.now c.place_of-index.ensures.place.behind c.place_of-index.ensures.line small in
    omega (arith, most, length-content list)

pub overflow_add-result-2 : goal.overflow_add-result-2
overflow_add-result-2 g c =
    let list = g.L.LineList.lines c.args.list.now in
    let small = if_some (λ (n : ℕ). n ≤ length c.placed_line-start.result.1.now.columns) c.next_mark-2.result
    c.in_ok-next.next c.in_ok-next.was c.next_mark-2.ensures.bound in
    let most = placed-most list c.in_ok-later.later c.placed_line-start.result.0 c.in_ok-next.next
    c.placed_line-start.result.1.now c.placed_line-start.ensures.start c.placed_line-start.ensures.line small in
    omega (arith, most, (g.L.LineList.are_lines c.args.list.now).counted.characters, count-characters list)

pub returns-clause-bound : goal.returns-clause-bound
returns-clause-bound g c =
    let list = g.L.LineList.lines c.args.list.now in
    let small = if_some (λ (n : ℕ). n ≤ length c.placed_line-start.result.1.now.columns) c.next_mark-2.result
    c.in_ok-next.next c.in_ok-next.was c.next_mark-2.ensures.bound in
    let most = placed-most list c.in_ok-later.later c.placed_line-start.result.0 c.in_ok-next.next
    c.placed_line-start.result.1.now c.placed_line-start.ensures.start c.placed_line-start.ensures.line small in
    omega (arith, most, length-content list)
