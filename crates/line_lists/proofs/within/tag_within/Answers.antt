use Rattle.line_lists.proofs.Common.{◌≡◌, ◌+◌, ◌-◌, ◌≤◌, ◌<◌, ◌∙◌, sym, ap, subst, arith, length, slice_get, Some, None}
use Rattle.line_lists.proofs.Common.{CanEdit, LineContent, IsChangedBy, count_of, SetTag, ◌∷◌, [], refl, take, not}
use Rattle.line_lists.proofs.Common.{spliced, line_count, ◌^◌, reset, beq}
use Rattle.line_lists.proofs.PlaceRows.{length-content}
use Rattle.line_lists.proofs.WithinLaws.{can-edit, edited-new, length-reset, longer-counted, reset-changed}
use Rattle.text_model.specs.TagBits.{slot_count}
use Rattle.line_lists.proofs.within.tag_within.Given.{Over}
use Rattle.line_lists.proofs.within.tag_within.Goals.{In_ok-count_longer}
use Rattle.std.specs.FinSet as set
use Rattle.line_lists.proofs.within.tag_within.Goals as goal

pub seek-index-requires : goal.seek-index-requires
seek-index-requires g c =
    let within = subst (λ n. c.args.to ≤ n) (length-content (g.L.LineList.lines c.args.list.now)) c.requires.within in
    omega (arith, within, c.requires.ordered, c.if-from-to.false)

there : (g : Over) (c : In_ok-count_longer g) →
    slice_get (g.L.LineList.lines c.args.list.now) c.seek-index.result.0 ≡ Some c.line-line.result.now
there g c =
    subst (λ ls. slice_get ls c.seek-index.result.0 ≡ Some c.line-line.result.now) c.seek-index.ensures.same
    c.line-line.ensures

-- the line after the edit
abbrev edited : (g : Over) → In_ok-count_longer g → LineContent → LineContent
edited g c line = record line {
  columns = reset c.args.slot.0 c.seek-index.result.1 (c.seek-index.result.1 + (c.args.to - c.args.from))
      (not (beq c.is_on_before.result c.args.is_on)) (not (beq c.is_on_before-2.result c.args.is_on)) line.columns;
}

changed : (g : Over) (c : In_ok-count_longer g) →
    IsChangedBy (SetTag c.args.from c.args.to c.args.slot c.args.is_on) (g.L.LineList.lines c.args.list.now) (record {
      taken = None;
      index = c.seek-index.result.0;
      line = edited g c c.line-line.result.now;
    })
changed g c =
    let list = g.L.LineList.lines c.args.list.now in
    let before = (count_of (take c.seek-index.result.0 list)).parity in
    let within = subst (λ n. c.args.to ≤ n) (length-content list) c.requires.within in
    let on = c.is_odd-was_on.ensures
    ∙ ap (λ ls. set.contains (count_of (take c.seek-index.result.0 ls)).parity c.args.slot.0) c.seek-index.ensures.same in
    reset-changed (g.L.LineList.are_lines c.args.list.now) c.seek-index.ensures.place (there g c)
    (omega (arith, c.requires.ordered, c.if-from-to.false)) within refl
    (omega (arith, c.if-len-end.false, c.len.ensures)) (c.is_on_before.ensures before on)
    (c.is_on_before-2.ensures before on)

pub edit_line-requires : goal.edit_line-requires
edit_line-requires g c =
    let list = g.L.LineList.lines c.args.list.now in
    let at = (goal.at.edit_line-requires g c).In_ok-count_longer in
    let here = c.line-line.result.now in
    let column = c.seek-index.result.1 in
    let end = column + (c.args.to - c.args.from) in
    let same = c.seek-index.ensures.same in
    let within : end < length here.columns = omega (arith, c.if-len-end.false, c.len.ensures) in
    let counts = c.in_ok-count_longer.ensures in
    let long = length-reset c.args.slot.0 column end (not (beq c.is_on_before.result c.args.is_on))
    (not (beq c.is_on_before-2.result c.args.is_on)) here (omega arith) within in
    let counted = longer-counted list here (edited g at here) 0
    (subst (λ ls. (count_of ls).lines + 1 < 2 ^ 64) same counts.lines)
    (subst (λ ls. (count_of ls).characters + length here.columns + 0 < 2 ^ 64) same counts.characters)
    (subst (λ ls. (count_of ls).marks + (line_count here).marks < 2 ^ 64) same counts.marks) (omega (arith, long))
    (omega arith) in
    subst (λ ls. CanEdit ls c.seek-index.result.0
    (λ line. (c.args.slot.0 < slot_count) × (column ≤ end) × (end < length line.columns)) (edited g at)) (sym same)
    (can-edit (g.L.LineList.are_lines c.args.list.now) c.seek-index.ensures.place (there g at) (changed g at) counted
    (c.requires.known, omega arith, within) (λ number. refl))

pub returns-clause-made : goal.returns-clause-made
returns-clause-made g c = λ yes.
    let at = (goal.at.returns-clause-made g c).In_ok-count_longer in
    let list = g.L.LineList.lines c.args.list.now in
    let within = subst (λ n. c.args.to ≤ n) (length-content list) c.requires.within in
    edited-new (changed g at) (c.requires.ordered, within, c.requires.known)
    (c.in_ok-edit_line.ensures.made c.line-line.result.now c.line-line.ensures
    ∙ ap (spliced c.seek-index.result.0 1 (edited g at c.line-line.result.now ∷ [])) c.seek-index.ensures.same)
