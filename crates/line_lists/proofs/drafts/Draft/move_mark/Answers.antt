use Rattle.line_lists.proofs.Common.{ap, ◌∙◌, IfOk-equal, text_in, with_mark}
use Rattle.line_lists.proofs.StepTexts.{mark-free, mark-moved}
use Rattle.line_lists.proofs.drafts.Draft.move_mark.Goals as goal

pub put_mark-requires-clause-free : goal.put_mark-requires-clause-free
put_mark-requires-clause-free g c =
    let old = text_in g.L.LineList.lines c.args.self.now in
    mark-free c.args.number.0 old _ c.in_ok-take_mark.ensures.new

pub put_last_mark-requires-clause-free : goal.put_last_mark-requires-clause-free
put_last_mark-requires-clause-free g c =
    let old = text_in g.L.LineList.lines c.args.self.now in
    mark-free c.args.number.0 old _ c.in_ok-take_mark.ensures.new

pub returns-then-place-len-clause-new : goal.returns-then-place-len-clause-new
returns-then-place-len-clause-new g c =
    let old = text_in g.L.LineList.lines c.args.self.now in
    let new = text_in g.L.LineList.lines c.put_mark.new.self in
    IfOk-equal c.put_mark.result new _ _ c.put_mark.ensures.new
    (ap (with_mark c.args.number.0 c.args.place) c.in_ok-take_mark.ensures.new
    ∙ mark-moved c.args.number.0 c.args.place old)

pub returns-else-place-len-clause-new : goal.returns-else-place-len-clause-new
returns-else-place-len-clause-new g c =
    let old = text_in g.L.LineList.lines c.args.self.now in
    let new = text_in g.L.LineList.lines c.put_last_mark.new.self in
    IfOk-equal c.put_last_mark.result new _ _ c.put_last_mark.ensures.new
    (ap (with_mark c.args.number.0 c.args.place) c.in_ok-take_mark.ensures.new
    ∙ mark-moved c.args.number.0 c.args.place old)
