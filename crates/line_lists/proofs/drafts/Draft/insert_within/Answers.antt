use Rattle.line_lists.proofs.Common.{length, ap, ◌∙◌, arith, LineContent, after_text, lines_in, taken_in, whole, chars}
use Rattle.line_lists.proofs.EditLaws.{inserted-makes, length-text}
use Rattle.line_lists.proofs.RowLaws.{Makes, made-text}
use Rattle.line_lists.proofs.drafts.Draft.insert_within.Given.{Over}
use Rattle.line_lists.proofs.drafts.Draft.insert_within.Goals.{In_ok-insert_text}
use Rattle.line_lists.proofs.drafts.Draft.insert_within.Goals as goal

-- what the text makes of the lines
made : (g : Over) (c : In_ok-insert_text g) →
    Makes (after_text c.args.offset (chars c.args.text.now)) (lines_in g.L.LineList.lines c.args.self.now)
    (taken_in g.L.LineList.lines c.take.new.self (record c.in_ok-stop.field-0.stop.copy {
      line = c.insert_text.new.self;
    }))
made g c =
    let found = c.in_ok-stop.field-0 in
    let copy = found.stop.copy in
    let place = c.in_ok-stop.ensures.place in
    inserted-makes _ _ _ copy.line c.insert_text.new.self c.args.offset found.column (chars c.args.text.now)
    c.in_ok-stop.ensures.same place.place place.inside c.requires.free c.requires.is.rows
    c.in_ok-insert_text.ensures.new

pub put-requires-clause-counted : goal.put-requires-clause-counted
put-requires-clause-counted g c =
    let makes = made g (goal.at.put-requires-clause-counted g c).In_ok-insert_text in
    let old = lines_in g.L.LineList.lines c.args.self.now in
    let long = ap (λ (line : LineContent). length line.columns) makes.whole
    ∙ length-text c.args.offset (chars c.args.text.now) (whole old).columns (omega (arith, c.requires.within)) in
    omega (arith, long, c.requires.counted)

pub returns-clause-is : goal.returns-clause-is
returns-clause-is g c =
    made-text c.put.ensures.is c.put.ensures.lines (made g (goal.at.returns-clause-is g c).In_ok-insert_text)
    c.requires.is.rows

pub returns-clause-new : goal.returns-clause-new
returns-clause-new g c =
    ap whole c.put.ensures.lines ∙ (made g (goal.at.returns-clause-new g c).In_ok-insert_text).whole
