use Rattle.line_lists.proofs.Common.{◌≡◌, ◌+◌, ◌-◌, ◌≤◌, ◌<◌, ◌∙◌, sym, ap, subst, arith, length, slice_get, Some, None}
use Rattle.line_lists.proofs.Common.{CanEdit, IsChangedBy, count_of, after_removal, Remove, ◌∷◌, [], refl, drawn}
use Rattle.line_lists.proofs.Common.{spliced, line_count, ◌^◌}
use Rattle.line_lists.proofs.LineChangeLaws.{removed-changed}
use Rattle.line_lists.proofs.PlaceRows.{length-content}
use Rattle.line_lists.proofs.WholeLaws.{length-without}
use Rattle.line_lists.proofs.WithinLaws.{can-edit, edited-new, few-marks, longer-counted, same-marked}
use Rattle.line_lists.proofs.within.take_within.Given.{Over}
use Rattle.line_lists.proofs.within.take_within.Goals.{In_ok-count_longer}
use Rattle.line_lists.proofs.within.take_within.Goals as goal

pub seek-index-requires : goal.seek-index-requires
seek-index-requires g c =
    let within = subst (λ n. c.args.to < n) (length-content (g.L.LineList.lines c.args.list.now)) c.requires.within in
    omega (arith, within, c.requires.ordered)

there : (g : Over) (c : In_ok-count_longer g) →
    slice_get (g.L.LineList.lines c.args.list.now) c.seek-index.result.0 ≡ Some c.line-line.result.now
there g c =
    subst (λ ls. slice_get ls c.seek-index.result.0 ≡ Some c.line-line.result.now) c.seek-index.ensures.same
    c.line-line.ensures

changed : (g : Over) (c : In_ok-count_longer g) →
    let column = c.seek-index.result.1 in
    IsChangedBy (Remove c.args.from c.args.to) (g.L.LineList.lines c.args.list.now) (record {
      taken = None;
      index = c.seek-index.result.0;
      line = after_removal column (column + (c.args.to - c.args.from)) c.line-line.result.now;
    })
changed g c =
    removed-changed (g.L.LineList.are_lines c.args.list.now) c.seek-index.ensures.place (there g c) c.requires.ordered
    refl (omega (arith, c.if-len-end.false, c.len.ensures)) refl

pub edit_line-requires : goal.edit_line-requires
edit_line-requires g c =
    let list = g.L.LineList.lines c.args.list.now in
    let at = (goal.at.edit_line-requires g c).In_ok-count_longer in
    let here = c.line-line.result.now in
    let column = c.seek-index.result.1 in
    let end = column + (c.args.to - c.args.from) in
    let same = c.seek-index.ensures.same in
    let within : end < length here.columns = omega (arith, c.if-len-end.false, c.len.ensures) in
    let counts = c.in_ok-count_longer.ensures in
    let counted = longer-counted list here (after_removal column end here) 0
    (subst (λ ls. (count_of ls).lines + 1 < 2 ^ 64) same counts.lines)
    (subst (λ ls. (count_of ls).characters + length here.columns + 0 < 2 ^ 64) same counts.characters)
    (subst (λ ls. (count_of ls).marks + (line_count here).marks < 2 ^ 64) same counts.marks)
    (omega (arith, length-without column end here.columns (omega arith) (omega (arith, within))))
    (few-marks (drawn column end) here.marks) in
    subst (λ ls. CanEdit ls c.seek-index.result.0 (λ line. (column ≤ end) × (end ≤ length line.columns))
    (after_removal column end)) (sym same) (can-edit (g.L.LineList.are_lines c.args.list.now) c.seek-index.ensures.place
    (there g at) (changed g at) counted (omega arith, omega (arith, within))
    (λ number. same-marked (drawn column end) here.marks number))

pub returns-clause-made : goal.returns-clause-made
returns-clause-made g c = λ yes.
    let at = (goal.at.returns-clause-made g c).In_ok-count_longer in
    let column = c.seek-index.result.1 in
    let new = after_removal column (column + (c.args.to - c.args.from)) c.line-line.result.now in
    edited-new (changed g at)
    (c.requires.ordered, subst (λ n. c.args.to < n) (length-content (g.L.LineList.lines c.args.list.now)) c.requires.within)
    (c.in_ok-edit_line.ensures.made c.line-line.result.now c.line-line.ensures
    ∙ ap (spliced c.seek-index.result.0 1 (new ∷ [])) c.seek-index.ensures.same)
