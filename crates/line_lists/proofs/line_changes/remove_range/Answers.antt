use Rattle.line_lists.proofs.Common.{◌≡◌, Some, slice_get, subst, ◌+◌, ◌-◌, ◌∙◌, ap, arith, refl, after_removal}
use Rattle.line_lists.proofs.LineChangeLaws.{removed-changed}
use Rattle.line_lists.proofs.line_changes.remove_range.Goals as goal

pub returns-clause-changed : goal.returns-clause-changed
returns-clause-changed g c =
    removed-changed (g.L.LineList.are_lines c.args.list.now) c.seek-index.ensures.place
    (subst (λ lines. slice_get lines c.seek-index.result.0 ≡ Some c.line-here.result.now) c.seek-index.ensures.same
    c.line-here.ensures)
    c.requires.ordered refl (omega (arith, c.if-len-end.false, c.len.ensures))
    (c.in_ok-remove_range.ensures.new
    ∙ ap (after_removal c.seek-index.result.1 (c.seek-index.result.1 + (c.args.to - c.args.from)))
    c.in_ok-line.ensures)
