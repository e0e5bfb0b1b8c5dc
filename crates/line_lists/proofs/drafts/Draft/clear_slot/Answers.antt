use Rattle.line_lists.proofs.Common.{length, sym, ap, ◌∙◌, on_ok_weaker, with_cleared, whole}
use Rattle.line_lists.proofs.ClearingLaws.{cleared-all}
use Rattle.line_lists.proofs.drafts.Draft.clear_slot.Goals as goal

pub returns-clause-new : goal.returns-clause-new
returns-clause-new g c =
    let start = c.back_to_start.new.self in
    let lines = g.L.LineList.lines start.list.now in
    let first = c.in_ok-first.ensures in
    let before = c.in_ok-back_to_start.ensures in
    on_ok_weaker c.clear.result
    (λ is.
    is ∙ ap (λ text. with_cleared c.args.slot.0 c.in_ok-first.first c.args.len text) (ap whole first.same)
    ∙ cleared-all c.args.slot.0 c.in_ok-first.first c.args.len lines start.front.items start.back.items before.start
    first.value
    (c.requires.len ∙ sym (ap (λ xs. length (whole xs).columns) before.same))
    ∙ ap (λ text. with_cleared c.args.slot.0 0 c.args.len text) (ap whole before.same))
    c.clear.ensures.new
