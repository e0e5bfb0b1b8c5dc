use Rattle.line_lists.proofs.Common.{◌≡◌, length, ap, ◌∙◌, arith, LineContent, lines_in, taken_in, without_mark, whole}
use Rattle.line_lists.proofs.EditLaws.{taken-makes}
use Rattle.line_lists.proofs.RowLaws.{Makes, made-text}
use Rattle.line_lists.proofs.drafts.Draft.take_mark_at.Given.{Over}
use Rattle.line_lists.proofs.drafts.Draft.take_mark_at.Goals.{After-take_mark}
use Rattle.line_lists.proofs.drafts.Draft.take_mark_at.Goals as goal

-- what is left of the lines without the mark
made : (g : Over) (c : After-take_mark g) →
    Makes (without_mark c.args.number.0) (lines_in g.L.LineList.lines c.args.self.now)
    (taken_in g.L.LineList.lines c.take.new.self (record c.in_ok-stop.field-0.stop.copy {
      line = c.take_mark.new.self;
    }))
made g c =
    let found = c.in_ok-stop.field-0 in
    let copy = found.stop.copy in
    let place = c.in_ok-stop.ensures.place in
    let new_is : c.take_mark.new.self ≡ without_mark c.args.number.0 copy.line = λ i.
    record { columns = c.take_mark.ensures.columns i; marks = c.take_mark.ensures.marks i } in
    taken-makes _ _ _ copy.line c.take_mark.new.self c.args.number.0 c.args.offset found.column
    c.in_ok-stop.ensures.same place.place place.inside c.requires.is.rows c.requires.stands new_is

pub put-requires-clause-counted : goal.put-requires-clause-counted
put-requires-clause-counted g c =
    let makes = made g (goal.at.put-requires-clause-counted g c).After-take_mark in
    omega (arith, ap (λ (line : LineContent). length line.columns) makes.whole, c.requires.is.draft.counted)

pub returns-clause-is : goal.returns-clause-is
returns-clause-is g c =
    made-text c.put.ensures.is c.put.ensures.lines (made g (goal.at.returns-clause-is g c).After-take_mark)
    c.requires.is.rows

pub returns-clause-new : goal.returns-clause-new
returns-clause-new g c =
    ap whole c.put.ensures.lines ∙ (made g (goal.at.returns-clause-new g c).After-take_mark).whole
