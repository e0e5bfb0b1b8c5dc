use Rattle.line_lists.proofs.Common.{◌+◌, ◌-◌, ◌<◌, ◌≤◌, ◌++◌, ◌∙◌, ap, ap₂, refl, sym, arith, length, slice_range}
use Rattle.line_lists.proofs.Common.{string_bytes, IfOk-weaker, LineContent, characters, whole, chars}
use Rattle.line_lists.proofs.CountRows.{count-lines}
use Rattle.line_lists.proofs.LineStarts.{at-within, length_at, lent, lent-length}
use Rattle.line_lists.proofs.PlaceRows.{length-content}
use Rattle.line_lists.proofs.TextRows.{at-later, copied-line, copied-lines, lines-between, slice-front}
use Rattle.line_lists.proofs.queries.copy_text.Goals as goal

pub returns-then-to-len : goal.returns-then-to-len
returns-then-to-len g c =
    let list = g.L.LineList.lines c.args.list.now in
    let first = c.place_of-first.result.0 in let column = c.place_of-first.result.1 in
    let to = column + (c.args.end - c.args.start) in
    IfOk-weaker c.copy_text.result _ _
    (λ text is.
    copied-line list c.args.start first column c.args.end to c.place_of-first.result.2.now (chars (string_bytes text))
    c.place_of-first.ensures.place c.place_of-first.ensures.line c.requires.ordered refl
    (omega (arith, c.if-to-len.true, c.len-len.ensures)) is)
    c.copy_text.ensures

pub copy_text-requires-2-clause-ordered : goal.copy_text-requires-2-clause-ordered
copy_text-requires-2-clause-ordered g c =
    let list = g.L.LineList.lines c.args.list.now in
    let first = c.place_of-first.result.0 in
    let within : c.args.start ≤ length (whole list).columns = omega (
      arith,
      c.requires.ordered,
      c.requires.within,
      length-content list,
    ) in
    omega (
      arith,
      c.len-len.ensures,
      at-within list c.args.start first c.place_of-first.result.1 c.place_of-first.ensures.place within,
      lent-length list first c.place_of-first.result.2.now c.place_of-first.ensures.line,
    )

pub overflow_add-first : goal.overflow_add-first
overflow_add-first g c =
    let list = g.L.LineList.lines c.args.list.now in
    omega (
      arith,
      c.place_of-first.ensures.place.within,
      (g.L.LineList.are_lines c.args.list.now).counted.lines,
      count-lines list,
    )

pub push_lines-requires-clause-ordered : goal.push_lines-requires-clause-ordered
push_lines-requires-clause-ordered g c =
    let list = g.L.LineList.lines c.args.list.now in
    let first = c.place_of-first.result.0 in
    let within : c.args.end ≤ length (whole list).columns = omega (arith, c.requires.within, length-content list) in
    let behind : length_at list first < c.place_of-first.result.1 + (c.args.end - c.args.start) = omega (
      arith,
      c.if-to-len.false,
      c.len-len.ensures,
      lent-length list first c.place_of-first.result.2.now c.place_of-first.ensures.line,
    ) in
    let less = at-later list c.args.start first c.place_of-first.result.1 c.args.end c.place_of-last.result.0
    c.place_of-last.result.1 c.place_of-first.ensures.place c.place_of-last.ensures.place c.requires.ordered within
    behind in
    omega (arith, less)

pub push_text-requires-clause-within : goal.push_text-requires-clause-within
push_text-requires-clause-within g c =
    let list = g.L.LineList.lines c.args.list.now in
    let last = c.place_of-last.result.0 in
    let within : c.args.end ≤ length (whole list).columns = omega (arith, c.requires.within, length-content list) in
    omega (
      arith,
      at-within list c.args.end last c.place_of-last.result.1 c.place_of-last.ensures.place within,
      lent-length list last c.place_of-last.result.2.now c.place_of-last.ensures.line,
    )

pub returns : goal.returns
returns g c =
    let list = g.L.LineList.lines c.args.list.now in
    let first = c.place_of-first.result.0 in let column = c.place_of-first.result.1 in
    let line = c.place_of-first.result.2.now in let front = c.place_of-first.ensures in
    let last = c.place_of-last.result.0 in let to = c.place_of-last.result.1 in
    let stop = c.place_of-last.result.2.now in let back = c.place_of-last.ensures in
    let within : c.args.end ≤ length (whole list).columns = omega (arith, c.requires.within, length-content list) in
    let same = lent-length list first line front.line in
    let behind : length_at list first < column + (c.args.end - c.args.start) = omega (
      arith,
      c.if-to-len.false,
      c.len-len.ensures,
      same,
    ) in
    let less = at-later list c.args.start first column c.args.end last to front.place back.place c.requires.ordered
    within behind in
    let inside : to ≤ length stop.columns = omega (
      arith,
      at-within list c.args.end last to back.place within,
      lent-length list last stop back.line,
    ) in
    let more : first + 1 ≤ last = omega (arith, less) in
    copied-lines list c.args.start first column c.args.end last to
    (chars (string_bytes c.in_ok-text.text)) (chars (string_bytes c.push_lines.new.text))
    (chars (string_bytes c.push_text.new.text))
    front.place back.place c.requires.ordered within less
    (c.in_ok-text.ensures ∙ ap₂ (λ (l : LineContent) n. slice_range (characters l.columns) column n)
    (sym (lent list first line front.line)) (c.len-len.ensures ∙ sym same))
    (c.in_ok-push_lines.ensures
    ∙ ap₂ (λ bytes part. chars bytes ++ part) c.reserve.ensures.bytes (lines-between list (first + 1) last more))
    (c.in_ok-push_text.ensures ∙ ap (λ part. chars (string_bytes c.push_lines.new.text) ++ part)
    (slice-front list last to stop back.line back.place.within inside))
