use Rattle.line_lists.proofs.Common.{◌≡◌, ◌+◌, length, ap, ◌∙◌, arith, Place, LineContent, lines_in, taken_in}
use Rattle.line_lists.proofs.Common.{with_mark, whole}
use Rattle.line_lists.proofs.FoundMarks.{draft-some, last-makes}
use Rattle.line_lists.proofs.RowLaws.{Makes, made-text}
use Rattle.line_lists.proofs.drafts.Draft.put_last_mark.Given.{Over}
use Rattle.line_lists.proofs.drafts.Draft.put_last_mark.Goals.{In_ok-put_mark}
use Rattle.line_lists.proofs.drafts.Draft.put_last_mark.Goals as goal

-- what the mark makes of the lines
made : (g : Over) (c : In_ok-put_mark g) →
    Makes (with_mark c.args.number.0 c.args.place) (lines_in g.L.LineList.lines c.args.self.now)
    (taken_in g.L.LineList.lines c.take.new.self (record c.in_ok-stop.field-0.stop.copy { line = c.put_mark.new.self }))
made g c =
    let found = c.in_ok-stop.field-0 in
    let copy = found.stop.copy in
    let place = c.in_ok-stop.ensures.place in
    let there : Place = record c.args.place { offset = found.column + 1 } in
    let new_is : c.put_mark.new.self ≡ with_mark c.args.number.0 there copy.line = λ i.
    record { columns = c.put_mark.ensures.columns i; marks = c.in_ok-put_mark.ensures.marks i } in
    let some = draft-some (g.L.LineList.are_lines c.args.self.now.list.now).some c.requires.is in
    last-makes _ _ _ copy.line c.put_mark.new.self c.args.place c.args.number.0 found.column
    c.in_ok-stop.ensures.same c.requires.is.rows some c.requires.end place.place place.inside c.requires.free new_is

pub overflow_sub-place : goal.overflow_sub-place
overflow_sub-place g c =
    let some = draft-some (g.L.LineList.are_lines c.args.self.now.list.now).some c.requires.is in
    omega (arith, some, c.requires.end)

pub take-requires-clause-within : goal.take-requires-clause-within
take-requires-clause-within g c =
    let some = draft-some (g.L.LineList.are_lines c.args.self.now.list.now).some c.requires.is in
    omega (arith, some, c.requires.end)

pub put-requires-clause-counted : goal.put-requires-clause-counted
put-requires-clause-counted g c =
    let makes = made g (goal.at.put-requires-clause-counted g c).In_ok-put_mark in
    omega (arith, ap (λ (line : LineContent). length line.columns) makes.whole, c.requires.is.draft.counted)

pub returns-clause-is : goal.returns-clause-is
returns-clause-is g c =
    made-text c.put.ensures.is c.put.ensures.lines (made g (goal.at.returns-clause-is g c).In_ok-put_mark)
    c.requires.is.rows

pub returns-clause-new : goal.returns-clause-new
returns-clause-new g c =
    ap whole c.put.ensures.lines ∙ (made g (goal.at.returns-clause-new g c).In_ok-put_mark).whole
