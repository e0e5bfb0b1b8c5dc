use Rattle.line_lists.proofs.Common.{◌+◌, ◌^◌, length, sym, ap, ◌∙◌, arith, take_all, whole}
use Rattle.line_lists.proofs.CountRows.{count-characters, count-lines}
use Rattle.line_lists.proofs.WithinLaws.{sum-made}
use Rattle.line_lists.proofs.pieces.count_longer.Goals as goal

pub returns-clause-lines : goal.returns-clause-lines
returns-clause-lines g c =
    let lines = g.L.LineList.lines c.args.list.now in
    let made = sum-made c.checked_add.result (2 ^ 64) (c.len-lines.result + 1) c.in_ok-ok_or.field-0 c.checked_add.ensures
    c.in_ok-ok_or.ensures.ok_part in
    omega (arith, made.0, c.len-lines.ensures, count-lines lines)

pub returns-clause-characters : goal.returns-clause-characters
returns-clause-characters g c =
    let lines = g.L.LineList.lines c.args.list.now in
    let all = take_all c.len-lines.result lines (omega (arith, c.len-lines.ensures)) in
    let characters = ap (λ ls. length (whole ls).columns) all ∙ sym (count-characters lines) in
    let longer = sum-made c.checked_add-2.result (2 ^ 64) (c.start.result + c.len.result) c.in_ok-characters.characters
    c.checked_add-2.ensures c.in_ok-characters.ensures.ok_part in
    let more = sum-made c.checked_add-3.result (2 ^ 64) (c.in_ok-characters.characters + c.args.more)
    c.in_ok-ok_or-2.field-0 c.checked_add-3.ensures c.in_ok-ok_or-2.ensures.ok_part in
    omega (arith, more.0, longer.1, c.start.ensures, characters, c.len.ensures)
