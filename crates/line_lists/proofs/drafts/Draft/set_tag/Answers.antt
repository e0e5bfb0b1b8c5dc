use Rattle.line_lists.proofs.Common.{ap, ◌∙◌, IfOk-equal, set_slot, text_in, with_cleared, whole, switched}
use Rattle.line_lists.proofs.StepTexts.{cleared-long, tagged-made}
use Rattle.line_lists.proofs.drafts.Draft.set_tag.Goals as goal

pub toggle_ends-requires-clause-len : goal.toggle_ends-requires-clause-len
toggle_ends-requires-clause-len g c =
    let old = text_in g.L.LineList.lines c.args.self.now in
    let bare = text_in g.L.LineList.lines c.clear.new.self in
    let same = c.in_ok-last.ensures.same ∙ c.in_ok-first.ensures.same in
    cleared-long c.args.slot.0 c.args.from c.args.to old bare c.args.len c.requires.ordered c.requires.within
    c.requires.len
    (c.in_ok-clear.ensures.new ∙ ap (λ lines. with_cleared c.args.slot.0 c.args.from c.args.to (whole lines)) same)

pub returns-clause-new : goal.returns-clause-new
returns-clause-new g c =
    let old = text_in g.L.LineList.lines c.args.self.now in
    let bare = text_in g.L.LineList.lines c.clear.new.self in
    let new = text_in g.L.LineList.lines c.toggle_ends.new.self in
    let same = c.in_ok-last.ensures.same ∙ c.in_ok-first.ensures.same in
    IfOk-equal c.toggle_ends.result new _ _ c.toggle_ends.ensures.new
    (tagged-made c.args.from c.args.to c.args.slot c.args.is_on c.in_ok-first.first c.in_ok-last.last c.args.len old
    bare c.requires.ordered c.requires.within c.requires.len
    c.in_ok-first.ensures.value
    (λ before. c.in_ok-last.ensures.value before
    ∙ ap (λ lines. switched (set_slot c.args.slot.0 c.args.is_on) c.args.to (whole lines).columns)
    c.in_ok-first.ensures.same)
    (c.in_ok-clear.ensures.new ∙ ap (λ lines. with_cleared c.args.slot.0 c.args.from c.args.to (whole lines)) same))
