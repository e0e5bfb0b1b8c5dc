use Rattle.line_lists.proofs.Common.{subst, slice_get, Some, count_of, ◌≡◌, ◌+◌, ◌-◌, ◌<◌, ◌∙◌, ap, arith, refl, length}
use Rattle.line_lists.proofs.Common.{ℕ, with_cleared, differing, tags_left_of, take}
use Rattle.line_lists.proofs.LineChangeLaws.{column-inside, tagged-changed}
use Rattle.std.specs.FinSet as set
use Rattle.line_lists.proofs.line_changes.set_tag.Goals as goal

pub returns-clause-changed : goal.returns-clause-changed
returns-clause-changed g c =
    let are = g.L.LineList.are_lines c.args.list.now in
    let column = c.seek-index.result.1 in
    let end = column + (c.args.to - c.args.from) in
    let here = c.line-here.result.now in
    let place = c.seek-index.ensures.place in
    let there = subst (λ lines. slice_get lines c.seek-index.result.0 ≡ Some c.line-here.result.now)
    c.seek-index.ensures.same c.line-here.ensures in
    let slot = c.args.slot.0 in
    let before = (count_of (take c.seek-index.result.0 (g.L.LineList.lines c.args.list.now))).parity in
    let on = c.is_odd-was_on.ensures
    ∙ ap (λ lines. set.contains (count_of (take c.seek-index.result.0 lines)).parity slot) c.seek-index.ensures.same in
    let inside = column-inside are place there in
    let within : end < length here.columns = omega (arith, c.if-len-end.false, c.len.ensures) in
    let bare : c.clear.new.self ≡ with_cleared slot column end here =
    (λ i. record { columns = c.clear.ensures.columns i; marks = c.clear.ensures.marks i })
    ∙ ap (with_cleared slot column end) c.in_ok-line.ensures in
    let tags = λ (at : ℕ). differing before (tags_left_of (take at here.columns)) in
    let one = c.in_ok-switch.ensures (tags column) (c.is_on_before-first.ensures before on) in
    let new = c.in_ok-switch-2.ensures (tags end) (c.is_on_before-last.ensures before on) in
    tagged-changed are place there c.requires.ordered c.requires.within refl within bare one new refl refl
