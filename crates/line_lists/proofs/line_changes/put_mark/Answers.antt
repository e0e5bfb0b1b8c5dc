use Rattle.line_lists.proofs.Common.{◌≡◌, length, ap, ◌∙◌, arith, Place, LineContent, with_mark}
use Rattle.line_lists.proofs.LineChangeLaws.{marked-changed}
use Rattle.line_lists.proofs.LineStarts.{at-within, lent-length}
use Rattle.line_lists.proofs.line_changes.put_mark.Goals as goal

pub put_mark-requires : goal.put_mark-requires
put_mark-requires g c =
    let list = g.L.LineList.lines c.args.list.now in
    let k = c.place_of-index.result.0 in
    let here = c.place_of-index.result.2.now in
    let copied : c.in_ok-line.line ≡ here = c.in_ok-line.ensures in
    omega (
      arith,
      ap (λ (line : LineContent). length line.columns) copied,
      at-within list c.args.place.offset k c.place_of-index.result.1 c.place_of-index.ensures.place c.requires,
      lent-length list k here c.place_of-index.ensures.line,
    )

pub returns : goal.returns
returns g c =
    let here = c.place_of-index.result.2.now in
    let there : Place = record c.args.place { offset = c.place_of-index.result.1 } in
    let copied : c.in_ok-line.line ≡ here = c.in_ok-line.ensures in
    let put : c.put_mark.new.self ≡ with_mark c.args.number.0 there c.in_ok-line.line = λ i.
    record { columns = c.put_mark.ensures.columns i; marks = c.in_ok-put_mark.ensures.marks i } in
    marked-changed (g.L.LineList.are_lines c.args.list.now) c.place_of-index.ensures.place c.place_of-index.ensures.line
    c.requires (put ∙ ap (with_mark c.args.number.0 there) copied)
