use Rattle.line_lists.proofs.Common.{◌+◌, length, sym, ap, ◌∙◌, IfOk-equal, text_in, with_toggled, whole}
use Rattle.line_lists.proofs.StepTexts.{bare-made, toggled-long}
use Rattle.line_lists.proofs.drafts.Draft.clear_tags.Goals as goal

pub toggle_before-requires-2-clause-len : goal.toggle_before-requires-2-clause-len
toggle_before-requires-2-clause-len g c =
    let text = text_in g.L.LineList.lines c.tags_at.new.self in
    let new = text_in g.L.LineList.lines c.toggle_before.new.self in
    toggled-long (c.args.offset + 1) c.in_ok-here.here text new c.args.len
    (c.requires.len ∙ ap (λ lines. length (whole lines).columns) (sym c.in_ok-here.ensures.same))
    c.in_ok-toggle_before.ensures.new

pub returns-clause-new : goal.returns-clause-new
returns-clause-new g c =
    let here = c.in_ok-here.here in
    let old = text_in g.L.LineList.lines c.args.self.now in
    let text = text_in g.L.LineList.lines c.toggle_before.new.self in
    let new = text_in g.L.LineList.lines c.toggle_before-2.new.self in
    IfOk-equal c.toggle_before-2.result new _ _ c.toggle_before-2.ensures.new
    (bare-made c.args.offset here old text c.in_ok-here.ensures.value
    (c.in_ok-toggle_before.ensures.new ∙ ap (λ lines. with_toggled (c.args.offset + 1) here (whole lines))
    c.in_ok-here.ensures.same))
