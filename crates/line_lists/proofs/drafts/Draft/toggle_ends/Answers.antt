use Rattle.line_lists.proofs.Common.{ap, ◌∙◌, IfOk-equal, text_in, with_toggled}
use Rattle.line_lists.proofs.StepTexts.{toggled-long, toggled-swap}
use Rattle.line_lists.proofs.drafts.Draft.toggle_ends.Goals as goal

pub toggle_before-requires-then-covered-from-clause-len : goal.toggle_before-requires-then-covered-from-clause-len
toggle_before-requires-then-covered-from-clause-len g c =
    let old = text_in g.L.LineList.lines c.args.self.now in
    toggled-long c.args.to c.args.last.now old _ c.args.len c.requires.len c.in_ok-toggle_before.ensures.new

pub returns-then-covered-from-clause-new : goal.returns-then-covered-from-clause-new
returns-then-covered-from-clause-new g c =
    let old = text_in g.L.LineList.lines c.args.self.now in
    let done = c.toggle_before-then-covered-from in
    let new = text_in g.L.LineList.lines done.new.self in
    IfOk-equal done.result new _ _ done.ensures.new
    (ap (with_toggled c.args.from c.args.first.now) c.in_ok-toggle_before.ensures.new
    ∙ toggled-swap c.args.from c.args.to c.args.first.now c.args.last.now old)

pub toggle_before-requires-3-clause-len : goal.toggle_before-requires-3-clause-len
toggle_before-requires-3-clause-len g c =
    let old = text_in g.L.LineList.lines c.args.self.now in
    toggled-long c.args.from c.args.first.now old _ c.args.len c.requires.len c.in_ok-toggle_before-2.ensures.new
