use Rattle.line_lists.proofs.Common.{ℕ, ◌+◌, ◌<◌, ◌≤◌, ◌∙◌, ap, sym, Some, None, suc, arith, length, previous_mark}
use Rattle.line_lists.proofs.Common.{previous_mark-below, LineContent, has_marks, whole}
use Rattle.line_lists.proofs.CountRows.{count-characters}
use Rattle.line_lists.proofs.LineStarts.{length_at, lent, near-column, near-most, placed-most}
use Rattle.line_lists.proofs.NearMarks.{if_some, lent-found, previous-earlier, previous-here, previous-nowhere}
use Rattle.line_lists.proofs.NearMarks.{previous-some}
use Rattle.line_lists.proofs.PlaceRows.{length-content}
use Rattle.line_lists.proofs.SearchRows.{previous-found, previous-none}
use Rattle.line_lists.proofs.queries.previous_mark.Goals as goal

pub returns-in-Some-clause-value : goal.returns-in-Some-clause-value
returns-in-Some-clause-value g c =
    let list = g.L.LineList.lines c.args.list.now in
    let k = c.place_of-index.result.0 in let column = c.place_of-index.result.1 in
    let here = lent-found list k c.place_of-index.result.2.now (previous_mark column) c.previous_mark.result
    (Some c.in-Some.previous) c.place_of-index.ensures.line c.previous_mark.ensures.value c.in-Some.is in
    ap (λ n. Some n) (near-column list c.args.offset k column c.in-Some.previous c.place_of-index.ensures.place.behind)
    ∙ sym (previous-here list (g.L.LineList.are_lines c.args.list.now).rows c.args.offset k column
    c.place_of-index.ensures.place c.in-Some.previous here)

pub returns-in_err-earlier-clause-value : goal.returns-in_err-earlier-clause-value
returns-in_err-earlier-clause-value g c =
    let list = g.L.LineList.lines c.args.list.now in
    let k = c.place_of-index.result.0 in let column = c.place_of-index.result.1 in
    let none = lent-found list k c.place_of-index.result.2.now (previous_mark column) c.previous_mark.result None
    c.place_of-index.ensures.line
    c.previous_mark.ensures.value c.in_default.is in
    let before : k ≤ length list = omega (arith, c.place_of-index.ensures.place.within) in
    let free = previous-none has_marks k list before (sym c.previous_marked.ensures ∙ c.in_err-earlier.was) in
    c.from_residual.ensures
    ∙ sym (previous-nowhere list (g.L.LineList.are_lines c.args.list.now).rows c.args.offset k column
    c.place_of-index.ensures.place none free)

pub returns-in_err-previous-clause-value : goal.returns-in_err-previous-clause-value
returns-in_err-previous-clause-value g c =
    let list = g.L.LineList.lines c.args.list.now in
    let k = c.place_of-index.result.0 in
    let j = c.in_ok-earlier.earlier in
    let before : k ≤ length list = omega (arith, c.place_of-index.ensures.place.within) in
    let near = previous-found has_marks k list before j (sym c.previous_marked.ensures ∙ c.in_ok-earlier.was) in
    let more : suc j < length list = omega (arith, c.place_of-index.ensures.place.within, near.below) in
    let long = c.len.ensures ∙ ap (λ (line : LineContent). length line.columns)
    (sym (lent list j c.placed_line-start.result.1.now c.placed_line-start.ensures.line)) in
    previous-some list j (g.L.LineList.are_lines c.args.list.now).rows more near.passes
    (lent-found list j c.placed_line-start.result.1.now (previous_mark (length_at list j)) c.previous_mark-2.result None
    c.placed_line-start.ensures.line
    (c.previous_mark-2.ensures.value ∙ ap (λ n. previous_mark n c.placed_line-start.result.1.now.marks) long)
    c.in_err-previous.was)

pub returns-clause-value : goal.returns-clause-value
returns-clause-value g c =
    let list = g.L.LineList.lines c.args.list.now in
    let k = c.place_of-index.result.0 in let column = c.place_of-index.result.1 in
    let j = c.in_ok-earlier.earlier in
    let none = lent-found list k c.place_of-index.result.2.now (previous_mark column) c.previous_mark.result None
    c.place_of-index.ensures.line
    c.previous_mark.ensures.value c.in_default.is in
    let before : k ≤ length list = omega (arith, c.place_of-index.ensures.place.within) in
    let near = previous-found has_marks k list before j (sym c.previous_marked.ensures ∙ c.in_ok-earlier.was) in
    let long = c.len.ensures ∙ ap (λ (line : LineContent). length line.columns)
    (sym (lent list j c.placed_line-start.result.1.now c.placed_line-start.ensures.line)) in
    let there = lent-found list j c.placed_line-start.result.1.now (previous_mark (length_at list j))
    c.previous_mark-2.result (Some c.in_ok-previous.previous) c.placed_line-start.ensures.line
    (c.previous_mark-2.ensures.value ∙ ap (λ n. previous_mark n c.placed_line-start.result.1.now.marks) long)
    c.in_ok-previous.was in
    ap (λ n. Some (n + c.in_ok-previous.previous)) c.placed_line-start.ensures.start
    ∙ sym (previous-earlier list (g.L.LineList.are_lines c.args.list.now).rows c.args.offset k column
    c.place_of-index.ensures.place j c.in_ok-previous.previous none near there)

pub returns-clause-below : goal.returns-clause-below
returns-clause-below g c =
    if_some (λ previous. previous < c.args.offset) _ (c.placed_line-start.result.0 + c.in_ok-previous.previous) (sym
    (returns-clause-value g c)) (previous_mark-below c.args.offset (whole (g.L.LineList.lines c.args.list.now)).marks)

pub returns-in-Some-clause-bound : goal.returns-in-Some-clause-bound
returns-in-Some-clause-bound g c =
    let list = g.L.LineList.lines c.args.list.now in
    let small = if_some (λ (n : ℕ). n ≤ length c.place_of-index.result.2.now.columns) c.previous_mark.result
    c.in-Some.previous c.in-Some.is c.previous_mark.ensures.bound in
    let most = near-most list c.args.offset c.place_of-index.result.0 c.place_of-index.result.1 c.in-Some.previous
    c.place_of-index.result.2.now c.place_of-index.ensures.place.behind c.place_of-index.ensures.line small in
    omega (arith, most, length-content list)

pub overflow_add-result-2 : goal.overflow_add-result-2
overflow_add-result-2 g c =
    let list = g.L.LineList.lines c.args.list.now in
    let small = if_some (λ (n : ℕ). n ≤ length c.placed_line-start.result.1.now.columns) c.previous_mark-2.result
    c.in_ok-previous.previous c.in_ok-previous.was c.previous_mark-2.ensures.bound in
    let most = placed-most list c.in_ok-earlier.earlier c.placed_line-start.result.0 c.in_ok-previous.previous
    c.placed_line-start.result.1.now c.placed_line-start.ensures.start c.placed_line-start.ensures.line small in
    omega (arith, most, (g.L.LineList.are_lines c.args.list.now).counted.characters, count-characters list)

pub returns-clause-bound : goal.returns-clause-bound
returns-clause-bound g c =
    let list = g.L.LineList.lines c.args.list.now in
    let small = if_some (λ (n : ℕ). n ≤ length c.placed_line-start.result.1.now.columns) c.previous_mark-2.result
    c.in_ok-previous.previous c.in_ok-previous.was c.previous_mark-2.ensures.bound in
    let most = placed-most list c.in_ok-earlier.earlier c.placed_line-start.result.0 c.in_ok-previous.previous
    c.placed_line-start.result.1.now c.placed_line-start.ensures.start c.placed_line-start.ensures.line small in
    omega (arith, most, length-content list)
