use Rattle.line_lists.proofs.Common.{◌≡◌, ◌+◌, ◌≤◌, ◌∙◌, length, ap, sym, true, false, arith, is_some, Place}
use Rattle.line_lists.proofs.Common.{LineContent, has_mark}
use Rattle.line_lists.proofs.CountRows.{count-characters}
use Rattle.line_lists.proofs.LineStarts.{lent, placed-most, start_of}
use Rattle.line_lists.proofs.MarkPlaces.{mark-nowhere, mark-out}
use Rattle.line_lists.proofs.NearMarks.{if_some}
use Rattle.line_lists.proofs.PlaceRows.{length-content}
use Rattle.line_lists.proofs.SearchRows.{next-found, next-none}
use Rattle.std.specs.FinMap as finite
use Rattle.line_lists.proofs.queries.mark_place.Goals as goal

pub returns-in_err-start-clause-value : goal.returns-in_err-start-clause-value
returns-in_err-start-clause-value g c =
    let list = g.L.LineList.lines c.args.list.now in
    c.from_residual.ensures
    ∙ sym (mark-nowhere list c.args.number.0 (next-none (has_mark c.args.number.0) 0 list
    (c.marked_line.ensures.none c.in_err-start.was)))

pub returns-in_err-place-clause-value : goal.returns-in_err-place-clause-value
returns-in_err-place-clause-value g c =
    let list = g.L.LineList.lines c.args.list.now in
    let number = c.args.number.0 in
    let marked = c.in_ok-start.ensures.some in
    let near = next-found (has_mark number) 0 list marked.index marked.first in
    let none =
    ap (λ (line : LineContent). is_some (finite.get line.marks number))
    (lent list marked.index c.in_ok-start.line.now marked.there)
    ∙ ap is_some (sym c.mark_place.ensures.value ∙ c.in_err-place.was) in
    absurd (let no : false ≡ true = sym none ∙ near.passes in cc)

pub returns-clause-value : goal.returns-clause-value
returns-clause-value g c =
    let list = g.L.LineList.lines c.args.list.now in
    let number = c.args.number.0 in
    let marked = c.in_ok-start.ensures.some in
    let k = marked.index in
    let inner = c.in_ok-place.place in
    let near = next-found (has_mark number) 0 list k marked.first in
    let at = ap (λ n. n + inner.offset) marked.starts ∙ (let turned : start_of list k + inner.offset
    ≡ inner.offset + start_of list k = omega arith in turned) in
    sym (mark-out list number _ k inner (g.L.LineList.are_lines c.args.list.now).rows (record {
      within = near.within;
      is = ap (λ (line : LineContent). finite.get line.marks number) (lent list k c.in_ok-start.line.now marked.there)
          ∙ sym c.mark_place.ensures.value ∙ c.in_ok-place.was;
      at = ap (λ offset. record inner { offset = offset }) at;
    }))

pub overflow_add-result : goal.overflow_add-result
overflow_add-result g c =
    let list = g.L.LineList.lines c.args.list.now in
    let marked = c.in_ok-start.ensures.some in
    let small = if_some (λ (place : Place). place.offset ≤ length c.in_ok-start.line.now.columns)
    c.mark_place.result c.in_ok-place.place c.in_ok-place.was c.mark_place.ensures.bound in
    let most = placed-most list marked.index c.in_ok-start.start c.in_ok-place.place.offset c.in_ok-start.line.now
    marked.starts marked.there small in
    omega (arith, most, (g.L.LineList.are_lines c.args.list.now).counted.characters, count-characters list)

pub returns-clause-bound : goal.returns-clause-bound
returns-clause-bound g c =
    let list = g.L.LineList.lines c.args.list.now in
    let marked = c.in_ok-start.ensures.some in
    let small = if_some (λ (place : Place). place.offset ≤ length c.in_ok-start.line.now.columns)
    c.mark_place.result c.in_ok-place.place c.in_ok-place.was c.mark_place.ensures.bound in
    let most = placed-most list marked.index c.in_ok-start.start c.in_ok-place.place.offset c.in_ok-start.line.now
    marked.starts marked.there small in
    omega (arith, most, length-content list)
