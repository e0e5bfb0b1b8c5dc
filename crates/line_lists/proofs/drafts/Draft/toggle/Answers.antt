use Rattle.line_lists.proofs.Common.{◌≡◌, length, ap, ◌∙◌, arith, LineContent, lines_in, taken_in, with_toggled, whole}
use Rattle.line_lists.proofs.RowLaws.{Makes, made-text, toggled-line, toggled-makes}
use Rattle.line_lists.proofs.WholeLaws.{length-toggled}
use Rattle.line_lists.proofs.drafts.Draft.toggle.Given.{Over}
use Rattle.line_lists.proofs.drafts.Draft.toggle.Goals.{In_ok-toggle}
use Rattle.line_lists.proofs.drafts.Draft.toggle.Goals as goal

-- what the toggles make of the lines
made : (g : Over) (c : In_ok-toggle g) →
    Makes (with_toggled c.args.offset c.args.slots.now) (lines_in g.L.LineList.lines c.args.self.now)
    (taken_in g.L.LineList.lines c.take.new.self (record c.in_ok-stop.field-0.stop.copy { line = c.toggle.new.self }))
made g c =
    let found = c.in_ok-stop.field-0 in
    let copy = found.stop.copy in
    let place = c.in_ok-stop.ensures.place in
    let columns = c.in_ok-toggle.ensures.columns
    ∙ toggled-line found.column c.args.slots.now copy.line.columns place.inside in
    let new_is : c.toggle.new.self ≡ with_toggled found.column c.args.slots.now copy.line = λ i.
    record { columns = columns i; marks = c.toggle.ensures.marks i } in
    toggled-makes _ _ _ copy.line c.toggle.new.self c.args.offset found.column c.args.slots.now
    c.in_ok-stop.ensures.same place.place place.inside new_is

pub put-requires-clause-counted : goal.put-requires-clause-counted
put-requires-clause-counted g c =
    let makes = made g (goal.at.put-requires-clause-counted g c).In_ok-toggle in
    let old = lines_in g.L.LineList.lines c.args.self.now in
    let long = ap (λ (line : LineContent). length line.columns) makes.whole
    ∙ length-toggled c.args.offset c.args.slots.now (whole old).columns in
    omega (arith, long, c.requires.is.draft.counted)

pub returns-clause-is : goal.returns-clause-is
returns-clause-is g c =
    made-text c.put.ensures.is c.put.ensures.lines (made g (goal.at.returns-clause-is g c).In_ok-toggle)
    c.requires.is.rows

pub returns-clause-new : goal.returns-clause-new
returns-clause-new g c =
    ap whole c.put.ensures.lines ∙ (made g (goal.at.returns-clause-new g c).In_ok-toggle).whole
