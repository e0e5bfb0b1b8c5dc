-- The anchors of each widget go on standing where lines start, through each edit.
use Rattle.edit_ops.proofs.Common.{◌≡◌, ℕ, ◌+◌, ◌-◌, ◌<◌, ◌≤◌, ◌==◌, Bool, true, false, List, [], ◌∷◌, Option, Some}
use Rattle.edit_ops.proofs.Common.{None, map, length, refl, sym, ap, ◌∙◌, arith, subst, slice_range, min, if◌then◌else◌}
use Rattle.edit_ops.proofs.Common.{option_and_then, All, eqb-true, option_and_then_some, Cell, ClearTags, Place}
use Rattle.edit_ops.proofs.Common.{Content, Slots, characters, ends_in_newline, inserted, removed, cells_of, after_step}
use Rattle.edit_ops.proofs.Common.{after_insertion, after_removal, without_slots, length-cells_inserted, length-removed}
use Rattle.edit_ops.proofs.Common.{length-changed, map-inserted, map-removed, map-changed, changed-same}
use Rattle.edit_ops.proofs.Common.{length-inserted, shared_slots, characters-of, length-characters, Action, EditKind}
use Rattle.edit_ops.proofs.Common.{Replace, Delete, put_in, take_out, repeated, repeated_group, reverted_group}
use Rattle.edit_ops.proofs.Common.{next_undo, next_redo, undo-goes, redo-goes, Anchors, SlottedText, Recording, Span}
use Rattle.edit_ops.proofs.Common.{AreAnchored, anchors_moved, anchors_removed, in_spans, delete_set, runs_below}
use Rattle.edit_ops.proofs.Common.{AreApart, removed_spans, deleted, slots_or, inserted_text, inserted_texts, total}
use Rattle.edit_ops.proofs.Common.{IsAnchored, IsKept, removed_span, clipped, with_mark, replaced, put_back, taken_back}
use Rattle.edit_ops.proofs.Common.{action_redone, group_redone, group_undone, undone_group, redone_group, undone}
use Rattle.edit_ops.proofs.Common.{redone, State, log_noted, replays}
use Rattle.edit_ops.proofs.AnchoredLaws.{all-moved, all-removed}
use Rattle.edit_ops.proofs.KeepLaws.{deleted-runs}
use Rattle.edit_ops.proofs.ReversalLaws.{back-reverted, back-undone, puts-in, redone-text, stood-cells, takes-out}
use Rattle.edit_ops.proofs.StartLaws.{Begins, text-end-begins, inserted-behind, removed-behind}
use Rattle.std.specs.FinMap as finite

-- the anchors stand where lines start, and so does the end of the text
pub record Stand (content : Content) (all : List Anchors) : Type 0 where
  pub ends : Begins (characters content.cells) (length (characters content.cells))
  pub anchored : All (AreAnchored (characters content.cells)) all

pub stand-first : (state : State) → IsAnchored state → ends_in_newline (characters state.content.cells) ≡ true →
    Stand state.content state.anchors
stand-first state anchored newline =
    record { ends = text-end-begins (characters state.content.cells) newline; anchored = anchored }

-- ---- a text that is put in, and cells that are taken out

stand-texts : (content made : Content) (all : List Anchors) → characters made.cells ≡ characters content.cells →
    Stand content all → Stand made all
stand-texts content made all same stand = record {
  ends = subst (λ text. Begins text (length text)) (sym same) stand.ends;
  anchored = subst (λ text. All (AreAnchored text) all) (sym same) stand.anchored;
}

put-text : (at : ℕ) (text : List ℕ) (slots : Slots) (content : Content) →
    characters (after_insertion at text slots content).cells ≡ inserted at text (characters content.cells)
put-text at text slots content =
    map-inserted (λ (cell : Cell). cell.character) at (cells_of text slots) content.cells
    ∙ ap (λ new. inserted at new (characters content.cells)) (characters-of text slots)

put-anchored : (at : ℕ) (text : List ℕ) (slots : Slots) (content : Content) (all : List Anchors) →
    at < length content.cells → All (AreAnchored (characters content.cells)) all
    → All (AreAnchored (characters (after_insertion at text slots content).cells))
    (map (anchors_moved at (length text)) all)
put-anchored at text slots content all within anchored =
    let long = length-characters content.cells in
    subst (λ made. All (AreAnchored made) (map (anchors_moved at (length text)) all))
    (sym (put-text at text slots content))
    (all-moved at text (characters content.cells) all (omega (arith, long, within)) anchored)

put-stands : (at : ℕ) (text : List ℕ) (slots : Slots) (content : Content) (all : List Anchors) →
    at < length content.cells → Stand content all
    → Stand (after_insertion at text slots content) (map (anchors_moved at (length text)) all)
put-stands at text slots content all within stand =
    let old = characters content.cells in
    let long = length-characters content.cells in
    let inside : at < length old = omega (arith, long, within) in
    let counted : length old + length text
    ≡ length (inserted at text old) = sym (length-inserted at text old (omega (arith, inside))) in
    record {
      ends = subst (λ made. Begins made (length made)) (sym (put-text at text slots content))
          (subst (Begins (inserted at text old)) counted
          (inserted-behind at text old (length old) (omega (arith, inside)) inside stand.ends));
      anchored = put-anchored at text slots content all within stand.anchored;
    }

take-stands : (from to : ℕ) (content : Content) (all : List Anchors) → from ≤ to → to < length content.cells →
    Stand content all
    → Stand (after_removal from to content) (map (anchors_removed (characters content.cells) from to) all)
take-stands from to content all ordered within stand =
    let old = characters content.cells in
    let long = length-characters content.cells in
    let inside : to < length old = omega (arith, long, within) in
    let short : to ≤ length old = omega (arith, inside) in
    let counted : length old - (to - from) ≡ length (removed from to old) = omega (
      arith,
      ordered,
      inside,
      length-removed from to old ordered short,
    ) in
    let made : characters (after_removal from to content).cells
    ≡ removed from to old = map-removed (λ (cell : Cell). cell.character) from to content.cells in
    record {
      ends = subst (λ text. Begins text (length text)) (sym made)
          (subst (Begins (removed from to old)) counted
          (removed-behind from to old (length old) ordered short inside stand.ends));
      anchored = subst (λ text. All (AreAnchored text) (map (anchors_removed old from to) all)) (sym made)
          (all-removed old from to all ordered inside stand.ends stand.anchored);
    }

-- ---- texts

text-anchored : (at : ℕ) (recording : Recording) (kind : EditKind) (piece : SlottedText) (state : State) → IsAnchored state →
    at < length state.content.cells
    → IsAnchored (inserted_text recording kind at piece state)
    × (length (inserted_text recording kind at piece state).content.cells
    ≡ length state.content.cells + length piece.text)
text-anchored at recording kind piece state anchored within =
    let slots = slots_or piece.slots (shared_slots at state.content.cells) in
    let made : State = record {
      content = after_insertion at piece.text slots state.content;
      anchors = map (anchors_moved at (length piece.text)) state.anchors;
      log = log_noted recording kind (record { inserts = true; at = at; text = piece.text }) state.log;
    } in
    elim (length piece.text == 0) as (λ b. (length piece.text == 0) ≡ b →
    IsAnchored (if b then state else made)
    × (length (if b then state else made).content.cells ≡ length state.content.cells + length piece.text)) [
      | true ↦ λ none. (anchored, (let gone = eqb-true (length piece.text) 0 none in omega (arith, gone)))
      | false ↦ λ some. (
        put-anchored at piece.text slots state.content state.anchors within anchored,
        length-cells_inserted at piece.text slots state.content.cells (omega (arith, within)),
      )
    ] refl

pub texts-anchored : (at : ℕ) (recording : Recording) (kind : EditKind) (pieces : List SlottedText) (state : State) →
    IsAnchored state → at < length state.content.cells
    → IsAnchored (inserted_texts recording kind at pieces state)
texts-anchored at recording kind [] state anchored within = anchored
texts-anchored at recording kind (piece ∷ pieces) state anchored within =
    let one = text-anchored at recording kind piece state anchored within in
    let long = one.1 in
    texts-anchored (at + length piece.text) recording kind pieces (inserted_text recording kind at piece state) one.0
    (omega (arith, long, within))

-- ---- spans

span-stands : (from to : ℕ) (recording : Recording) (kind : EditKind) (state : State) →
    Stand state.content state.anchors → from ≤ to → to < length state.content.cells
    → Stand (removed_span recording kind from to state).content (removed_span recording kind from to state).anchors
    × (length (removed_span recording kind from to state).content.cells ≡ length state.content.cells - (to - from))
span-stands from to recording kind state stand ordered within =
    let taken = slice_range (characters state.content.cells) from to in
    let made : State = record {
      content = after_removal from to state.content;
      anchors = map (anchors_removed (characters state.content.cells) from to) state.anchors;
      log = log_noted recording kind (record { inserts = false; at = from; text = taken }) state.log;
    } in
    elim (from == to) as (λ b. (from == to) ≡ b →
    Stand (if b then state else made).content (if b then state else made).anchors
    × (length (if b then state else made).content.cells ≡ length state.content.cells - (to - from))) [
      | true ↦ λ none. (stand, (let same = eqb-true from to none in omega (arith, same)))
      | false ↦ λ some. (
        take-stands from to state.content state.anchors ordered within stand,
        (let h = length-removed from to state.content.cells ordered (omega (arith, within)) in omega (arith, h)),
      )
    ] refl

pub span-anchored : (from to : ℕ) (recording : Recording) (kind : EditKind) (state : State) → IsAnchored state →
    ends_in_newline (characters state.content.cells) ≡ true → from ≤ to
    → to < length state.content.cells → IsAnchored (removed_span recording kind from to state)
span-anchored from to recording kind state anchored newline ordered within =
    (span-stands from to recording kind state (stand-first state anchored newline) ordered within).0.anchored

spans-stand : (border : ℕ) (recording : Recording) (kind : EditKind) (spans : List Span) (state : State) →
    Stand state.content state.anchors → AreApart border spans → border ≤ length state.content.cells
    → IsAnchored (removed_spans recording kind spans state)
spans-stand border recording kind [] state stand apart within = stand.anchored
spans-stand border recording kind (span ∷ spans) state stand apart within =
    let some = apart.0 in let below = apart.1 in
    let out = span-stands span.from span.to recording kind state stand (omega (arith, some))
    (omega (arith, below, within)) in
    let long = out.1 in
    spans-stand span.from recording kind spans (removed_span recording kind span.from span.to state) out.0 apart.2
    (omega (arith, long, some, below, within))

pub spans-anchored : (border : ℕ) (recording : Recording) (kind : EditKind) (spans : List Span) (state : State) →
    IsAnchored state → ends_in_newline (characters state.content.cells) ≡ true
    → AreApart border spans → border ≤ length state.content.cells →
    IsAnchored (removed_spans recording kind spans state)
spans-anchored border recording kind spans state anchored newline apart within =
    spans-stand border recording kind spans state (stand-first state anchored newline) apart within

-- the marks don't matter
marked-anchored : (number : ℕ) (place : Option Place) (state : State) → IsAnchored state →
    IsAnchored (record state { content = with_mark number place state.content })
marked-anchored number None state anchored = anchored
marked-anchored number (Some place) state anchored = anchored

pub replaced-anchored : (mark last from to : ℕ) (recording : Recording) (pieces : List SlottedText) (state : State) →
    IsAnchored state → ends_in_newline (characters state.content.cells) ≡ true
    → last < length state.content.cells → from ≤ to → IsAnchored (replaced recording mark last from to pieces state)
replaced-anchored mark last from to recording pieces state anchored newline within ordered =
    let first = min from last in let end = min to last in
    let out = span-stands first end recording Replace state (stand-first state anchored newline)
    (omega (arith, ordered)) (omega (arith, within)) in
    let long = out.1 in
    marked-anchored mark (option_and_then (clipped first end (total pieces)) (finite.get state.content.marks mark))
    (inserted_texts recording Replace first pieces (removed_span recording Replace first end state))
    (texts-anchored first recording Replace pieces (removed_span recording Replace first end state) out.0.anchored
    (omega (arith, long, within, ordered)))

bared-stands : (at : ℕ) (b : Bool) (state : State) → Stand state.content state.anchors → at < length state.content.cells
    → Stand (if b then record state { content = after_step (ClearTags at) state.content } else state).content (if b
    then record state { content = after_step (ClearTags at) state.content } else state).anchors
    × (length (if b then record state { content = after_step (ClearTags at) state.content } else state).content.cells
    ≡ length state.content.cells)
bared-stands at true state stand within = (
  stand-texts state.content (after_step (ClearTags at) state.content) state.anchors
      (map-changed (λ (cell : Cell). cell.character) without_slots (λ c. c) (λ cell. refl) at (at + 1)
      state.content.cells ∙ changed-same at (at + 1) (characters state.content.cells) (omega arith)) stand,
  length-changed without_slots at (at + 1) state.content.cells (omega arith) (omega (arith, within)),
)
bared-stands at false state stand within = (stand, refl)

pub deleted-anchored : (start end : ℕ) (recording : Recording) (spans : List Span) (state : State) → IsAnchored state →
    ends_in_newline (characters state.content.cells) ≡ true → start < end
    → end ≤ length state.content.cells → All (λ (span : Span). span.to ≤ end) spans →
    IsAnchored (deleted recording start end spans state)
deleted-anchored start end recording spans state anchored newline shows within inside =
    let len = length state.content.cells in
    let text = characters state.content.cells in
    let bared = bared-stands (end - 1) (in_spans spans (end - 1)) state (stand-first state anchored newline)
    (omega (arith, shows, within)) in
    let long = bared.1 in
    spans-stand len recording Delete (runs_below len (delete_set text start end (in_spans spans)))
    (if in_spans spans (end - 1) then record state { content = after_step (ClearTags (end - 1)) state.content }
    else state) bared.0
    (deleted-runs text start end len spans (omega (arith, shows)) within inside)
    (omega (arith, long))

-- ---- groups

put-back-stands : (limit at : ℕ) (text found : List ℕ) (state : State) →
    put_in limit at text (characters state.content.cells) ≡ Some found → Stand state.content state.anchors
    → Stand (put_back at text state).content (put_back at text state).anchors
put-back-stands limit at text found state is stand =
    let puts = puts-in limit at text (characters state.content.cells) found is in
    let long = length-characters state.content.cells in
    put-stands at text (shared_slots at state.content.cells) state.content state.anchors
    (omega (arith, puts.inside, long)) stand

taken-back-stands : (at : ℕ) (text found : List ℕ) (state : State) →
    take_out at text (characters state.content.cells) ≡ Some found → Stand state.content state.anchors
    → Stand (taken_back at (at + length text) state).content (taken_back at (at + length text) state).anchors
taken-back-stands at text found state is stand =
    let takes = takes-out at text (characters state.content.cells) found is in
    let long = length-characters state.content.cells in
    take-stands at (at + length text) state.content state.anchors (omega arith) (omega (arith, takes.inside, long))
    stand

redone-stands : (limit : ℕ) (action : Action) (found : List ℕ) (state : State) →
    repeated limit action (characters state.content.cells) ≡ Some found → Stand state.content state.anchors
    → Stand (action_redone action state).content (action_redone action state).anchors
redone-stands limit action found state is stand =
    elim action.inserts as (λ b. (if b then put_in limit action.at action.text (characters state.content.cells)
    else take_out action.at action.text (characters state.content.cells)) ≡ Some found
    → Stand (if b then put_back action.at action.text state
    else taken_back action.at (action.at + length action.text) state).content
    (if b then put_back action.at action.text state
    else taken_back action.at (action.at + length action.text) state).anchors) [
      | true ↦ λ goes. put-back-stands limit action.at action.text found state goes stand
      | false ↦ λ goes. taken-back-stands action.at action.text found state goes stand
    ] is

group-redone-stands : (limit : ℕ) (group : List Action) (found : List ℕ) (state : State) →
    repeated_group limit group (characters state.content.cells) ≡ Some found → Stand state.content state.anchors
    → Stand (group_redone group state).content (group_redone group state).anchors
group-redone-stands limit [] found state is stand = stand
group-redone-stands limit (action ∷ actions) found state is stand =
    option_and_then_some (repeated_group limit actions) (repeated limit action (characters state.content.cells)) found
    is (λ between one others.
    let first = redone-text limit action between state one in
    group-redone-stands limit actions found (action_redone action state) (ap (repeated_group limit actions) first
    ∙ others) (redone-stands limit action between state one stand))

group-undone-stands : (limit : ℕ) (group : List Action) (found : List ℕ) (state : State) →
    reverted_group limit group (characters state.content.cells) ≡ Some found → Stand state.content state.anchors
    → Stand (group_undone group state).content (group_undone group state).anchors
group-undone-stands limit group found state is stand =
    subst (λ (s : State). Stand s.content s.anchors) (back-undone group state)
    (group-redone-stands limit (replays true group) found state
    (back-reverted limit group (characters state.content.cells) ∙ is) stand)

undone-group-anchored : (limit mark : ℕ) (recording : Recording) (found : Option (List Action)) (state : State) →
    next_undo state.log.history ≡ found → IsKept limit recording state → Stand state.content state.anchors
    → IsAnchored (undone_group mark found state)
undone-group-anchored limit mark recording None state is kept stand = stand.anchored
undone-group-anchored limit mark recording (Some group) state is kept stand =
    let goes = undo-goes limit state.log.history (characters state.content.cells) group kept.fits is in
    let made = group_undone group state in
    subst (λ cells. All (AreAnchored (characters cells)) made.anchors) (sym (stood-cells mark _ made.content))
    (group-undone-stands limit group goes.0 state goes.1 stand).anchored

redone-group-anchored : (limit mark : ℕ) (recording : Recording) (found : Option (List Action)) (state : State) →
    next_redo state.log.history ≡ found → IsKept limit recording state → Stand state.content state.anchors
    → IsAnchored (redone_group mark found state)
redone-group-anchored limit mark recording None state is kept stand = stand.anchored
redone-group-anchored limit mark recording (Some group) state is kept stand =
    let goes = redo-goes limit state.log.history (characters state.content.cells) group kept.fits is in
    let made = group_redone group state in
    subst (λ cells. All (AreAnchored (characters cells)) made.anchors) (sym (stood-cells mark _ made.content))
    (group-redone-stands limit group goes.0 state goes.1 stand).anchored

pub undone-anchored : (limit mark : ℕ) (recording : Recording) (state : State) → IsAnchored state →
    ends_in_newline (characters state.content.cells) ≡ true → IsKept limit recording state →
    IsAnchored (undone mark state)
undone-anchored limit mark recording state anchored newline kept =
    undone-group-anchored limit mark recording (next_undo state.log.history) state refl kept
    (stand-first state anchored newline)

pub redone-anchored : (limit mark : ℕ) (recording : Recording) (state : State) → IsAnchored state →
    ends_in_newline (characters state.content.cells) ≡ true → IsKept limit recording state →
    IsAnchored (redone mark state)
redone-anchored limit mark recording state anchored newline kept =
    redone-group-anchored limit mark recording (next_redo state.log.history) state refl kept
    (stand-first state anchored newline)
