use Rattle.line_lists.proofs.Common.{◌≡◌, ◌+◌, ◌^◌, line_count, ◌≤◌, ◌<◌, ◌∙◌, sym, ap, subst, arith, length, chars}
use Rattle.line_lists.proofs.Common.{slice_get, Some, CanEdit, IsChangedBy, content_of, count_of, after_text}
use Rattle.line_lists.proofs.Common.{shared_slots, Insert, is_some, false, Option, None, IfNone, true≢false, ◌∷◌, []}
use Rattle.line_lists.proofs.Common.{moved, spliced, fewer_characters}
use Rattle.line_lists.proofs.EditLaws.{length-text}
use Rattle.line_lists.proofs.LineChangeLaws.{column-inside}
use Rattle.line_lists.proofs.PlaceRows.{length-content}
use Rattle.line_lists.proofs.WithinLaws.{can-edit, edited-new, few-marks, longer-counted, put-changed, same-marked}
use Rattle.line_lists.proofs.within.put_within.Given.{Over}
use Rattle.line_lists.proofs.within.put_within.Goals.{In_ok-count_longer}
use Rattle.line_lists.proofs.within.put_within.Goals as goal

none-there : {A P : Type 0} (found : Option A) → IfNone found P → is_some found ≡ false → P
none-there None none free = none
none-there (Some x) none free = absurd (true≢false free)

pub seek-index-requires : goal.seek-index-requires
seek-index-requires g c =
    subst (λ n. c.args.at < n) (length-content (g.L.LineList.lines c.args.list.now)) c.requires

-- the line is one of the list as it was, and the text goes into it
there : (g : Over) (c : In_ok-count_longer g) →
    slice_get (g.L.LineList.lines c.args.list.now) c.seek-index.result.0 ≡ Some c.line-line.result.now
there g c =
    subst (λ ls. slice_get ls c.seek-index.result.0 ≡ Some c.line-line.result.now) c.seek-index.ensures.same
    c.line-line.ensures

changed : (g : Over) (c : In_ok-count_longer g) →
    let list = g.L.LineList.lines c.args.list.now in
    let text = chars c.args.text.now in
    IsChangedBy (Insert c.args.at text (shared_slots c.args.at (content_of list).cells)) list (record {
      taken = None;
      index = c.seek-index.result.0;
      line = after_text c.seek-index.result.1 text c.line-line.result.now;
    })
changed g c =
    put-changed (g.L.LineList.are_lines c.args.list.now) c.seek-index.ensures.place (there g c) (chars c.args.text.now)
    (none-there _ c.cut_line.ensures.none (sym c.is_some.ensures ∙ c.if-is_some.false))
    (c.is_toggled.ensures c.if-is_toggled.false)

pub edit_line-requires : goal.edit_line-requires
edit_line-requires g c =
    let list = g.L.LineList.lines c.args.list.now in
    let at = (goal.at.edit_line-requires g c).In_ok-count_longer in
    let text = chars c.args.text.now in
    let here = c.line-line.result.now in
    let column = c.seek-index.result.1 in
    let same = c.seek-index.ensures.same in
    let are = g.L.LineList.are_lines c.args.list.now in
    let place = c.seek-index.ensures.place in
    let inside = column-inside are place (there g at) in
    let long = length-text column text here.columns (omega (arith, inside)) in
    let less = fewer_characters c.args.text.now c.utf8.text in
    let counts = c.in_ok-count_longer.ensures in
    let counted = longer-counted list here (after_text column text here) (length c.args.text.now)
    (subst (λ ls. (count_of ls).lines + 1 < 2 ^ 64) same counts.lines)
    (subst (λ ls. (count_of ls).characters + length here.columns + length c.args.text.now < 2 ^ 64) same counts.characters)
    (subst (λ ls. (count_of ls).marks + (line_count here).marks < 2 ^ 64) same counts.marks) (omega (arith, long, less))
    (few-marks (moved column (length text)) here.marks) in
    subst (λ ls. CanEdit ls c.seek-index.result.0 (λ line. column ≤ length line.columns) (after_text column text))
    (sym same) (can-edit are place (there g at) (changed g at) counted (omega (arith, inside))
    (λ number. same-marked (moved column (length text)) here.marks number))

pub returns-clause-made : goal.returns-clause-made
returns-clause-made g c = λ yes.
    let at = (goal.at.returns-clause-made g c).In_ok-count_longer in
    let new = after_text c.seek-index.result.1 (chars c.args.text.now) c.line-line.result.now in
    edited-new (changed g at)
    (subst (λ n. c.args.at < n) (length-content (g.L.LineList.lines c.args.list.now)) c.requires)
    (c.in_ok-edit_line.ensures.made c.line-line.result.now c.line-line.ensures
    ∙ ap (spliced c.seek-index.result.0 1 (new ∷ [])) c.seek-index.ensures.same)
