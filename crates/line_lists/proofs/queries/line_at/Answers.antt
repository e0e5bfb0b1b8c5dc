use Rattle.line_lists.proofs.Common.{◌+◌, ◌-◌, ◌∙◌, suc, refl, ap, arith, length}
use Rattle.line_lists.proofs.CountRows.{count-characters}
use Rattle.line_lists.proofs.LineSpans.{end-span, held-span}
use Rattle.line_lists.proofs.LineStarts.{lent-length, start-all, start-next, start-rises}
use Rattle.line_lists.proofs.PlaceRows.{length-content}
use Rattle.line_lists.proofs.queries.line_at.Goals as goal

pub returns-then-offset-len : goal.returns-then-offset-len
returns-then-offset-len g c =
    let list = c.args.list.now in
    end-span (g.L.LineList.lines list) c.args.offset c.len-then-offset-len.result (g.L.LineList.are_lines list).rows
    (c.if-offset-len.true ∙ c.len.ensures) c.len-then-offset-len.ensures

pub line_at-number-requires : goal.line_at-number-requires
line_at-number-requires g c =
    omega (arith, c.requires, c.if-offset-len.false, c.len.ensures, length-content (g.L.LineList.lines c.args.list.now))

pub overflow_add-result : goal.overflow_add-result
overflow_add-result g c =
    let list = g.L.LineList.lines c.args.list.now in
    let k = c.line_at-number.result.0 in
    omega (
      arith,
      c.len-2.ensures,
      c.line_at-number.ensures.place.behind,
      lent-length list k c.line_at-number.result.2.now c.line_at-number.ensures.line,
      start-next list k c.line_at-number.ensures.place.within,
      start-rises list (suc k) (length list) c.line_at-number.ensures.place.within,
      start-all list,
      (g.L.LineList.are_lines c.args.list.now).counted.characters,
      count-characters list,
    )

pub returns : goal.returns
returns g c =
    let list = c.args.list.now in
    held-span (g.L.LineList.lines list) c.args.offset c.line_at-number.result.0 c.line_at-number.result.1
    c.line_at-number.result.2.now (c.args.offset - c.line_at-number.result.1)
    (c.args.offset - c.line_at-number.result.1 + c.len-2.result) (g.L.LineList.are_lines list).rows
    c.line_at-number.ensures.place c.line_at-number.ensures.line refl
    (ap (λ n. c.args.offset - c.line_at-number.result.1 + n) c.len-2.ensures)
