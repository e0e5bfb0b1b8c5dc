use Rattle.line_lists.proofs.Common.{◌≡◌, ◌+◌, ◌^◌, ◌≤◌, ◌<◌, ◌∙◌, sym, ap, subst, arith, length, slice_get, Some}
use Rattle.line_lists.proofs.Common.{CanMark, Place, count_of, line_count, lines_marked, refl, whole}
use Rattle.line_lists.proofs.PlaceRows.{length-content}
use Rattle.line_lists.proofs.WithinLaws.{can-mark, mark-changed, marked-counted, marked-new}
use Rattle.line_lists.proofs.within.move_mark.Given.{Over}
use Rattle.line_lists.proofs.within.move_mark.Goals.{In_ok-count_marked}
use Rattle.line_lists.proofs.within.move_mark.Goals as goal

pub seek-index-requires : goal.seek-index-requires
seek-index-requires g c =
    let same = length-content (g.L.LineList.lines c.args.list.now) in
    omega (arith, same, c.requires, c.len.ensures, c.if-place-len.false)

-- the line of the offset, and that this is one of the text
there : (g : Over) (c : In_ok-count_marked g) →
    slice_get (g.L.LineList.lines c.args.list.now) c.seek-index.result.0 ≡ Some c.line.result.now
there g c =
    subst (λ ls. slice_get ls c.seek-index.result.0 ≡ Some c.line.result.now) c.seek-index.ensures.same c.line.ensures

most : (g : Over) (c : In_ok-count_marked g) →
    c.args.place.offset ≤ length (whole (g.L.LineList.lines c.args.list.now)).columns
most g c = subst (λ n. c.args.place.offset ≤ n) (length-content (g.L.LineList.lines c.args.list.now)) c.requires

pub move_mark-requires : goal.move_mark-requires
move_mark-requires g c =
    let at = (goal.at.move_mark-requires g c).In_ok-count_marked in
    let list = g.L.LineList.lines c.args.list.now in
    let here = c.line.result.now in
    let same = c.seek-index.ensures.same in
    let counts = c.in_ok-count_marked.ensures in
    let place : Place = record c.args.place { offset = c.seek-index.result.1 } in
    let counted = marked-counted list here c.args.number.0 place
    (subst (λ ls. (count_of ls).lines + 1 < 2 ^ 64) same counts.lines)
    (subst (λ ls. (count_of ls).characters + length here.columns < 2 ^ 64) same counts.characters)
    (subst (λ ls. (count_of ls).marks + (line_count here).marks + 1 < 2 ^ 64) same counts.marks) in
    subst (λ ls. CanMark ls c.args.number.0 c.seek-index.result.0 place) (sym same)
    (can-mark (g.L.LineList.are_lines c.args.list.now) c.seek-index.ensures.place (there g at) {number = c.args.number}
    {place = c.args.place} refl (most g at) counted)

pub returns-clause-made : goal.returns-clause-made
returns-clause-made g c = λ yes.
    let at = (goal.at.returns-clause-made g c).In_ok-count_marked in
    let place : Place = record c.args.place { offset = c.seek-index.result.1 } in
    marked-new (mark-changed (g.L.LineList.are_lines c.args.list.now) c.seek-index.ensures.place (there g at)
    {number = c.args.number} {place = c.args.place} refl (most g at)) (most g at)
    (c.in_ok-move_mark.ensures.made c.line.result.now c.line.ensures
    ∙ ap (lines_marked c.args.number.0 c.seek-index.result.0 place c.line.result.now) c.seek-index.ensures.same)
