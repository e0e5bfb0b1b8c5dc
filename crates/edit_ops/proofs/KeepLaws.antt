-- The history goes on fitting the text.
use Rattle.edit_ops.proofs.Common.{◌≡◌, ℕ, zero, suc, ◌+◌, ◌-◌, ◌<◌, ◌≤◌, ◌==◌, ◌&&◌, Bool, true, false, inl, inr, List}
use Rattle.edit_ops.proofs.Common.{[], ◌∷◌, Option, Some, None, map, length, get_or, refl, sym, ap, ap₂, ◌∙◌, arith}
use Rattle.edit_ops.proofs.Common.{subst, slice_range, bytes_eq, nat_lt, nat_le, min, not, if◌then◌else◌}
use Rattle.edit_ops.proofs.Common.{option_and_then, All, eqb-false, le-leb, lt-ltb, cases_eq, or_cases, and_parts}
use Rattle.edit_ops.proofs.Common.{eqb-true, both_ways, not-true, All-tail, Cell, ClearTags, Place, Content, Slots}
use Rattle.edit_ops.proofs.Common.{characters, inserted, removed, changed, is_newline, cells_of, after_step}
use Rattle.edit_ops.proofs.Common.{after_insertion, after_removal, with_slot, without_slots, length-cells_inserted}
use Rattle.edit_ops.proofs.Common.{length-removed, length-changed, map-inserted, map-removed, map-changed, changed-same}
use Rattle.edit_ops.proofs.Common.{Action, EditKind, Replace, Delete, FitsText, repeated, History, noted, repeat-back}
use Rattle.edit_ops.proofs.Common.{note-fits, SlottedText, Recording, Span, anchors_moved, anchors_removed, in_spans}
use Rattle.edit_ops.proofs.Common.{run_start, delete_set, onto_runs, runs_below, AreApart, removed_spans, deleted}
use Rattle.edit_ops.proofs.Common.{shared_slots, slots_or, inserted_text, inserted_texts, total, IsKept, removed_span}
use Rattle.edit_ops.proofs.Common.{clipped, with_mark, replaced, State, log_noted, state_of, SpanFits, tagged}
use Rattle.edit_ops.proofs.Common.{characters-of, length-characters, ◌||◌, true≢false, Anchors}
use Rattle.std.proofs.lemmas.Slice.Eq.{bytes_eq-Decides}
use Rattle.edit_ops.proofs.DeleteLaws.{length-slice}
use Rattle.edit_ops.proofs.InsertLaws.{total-cons}
use Rattle.edit_ops.proofs.RunLaws.{apart-wider, in-within}
use Rattle.std.specs.FinMap as finite

-- a history without groups fits
empty-fits : (limit : ℕ) (text found : List ℕ) (history : History) → FitsText limit text history → history.groups ≡ [] →
    history.undone ≡ [] → length found ≤ limit → FitsText limit found history
empty-fits limit text found history fits none no_more short = record {
  short = short;
  filled = fits.filled;
  undone_filled = fits.undone_filled;
  reverts = rw none refl;
  repeats = rw no_more refl;
}

-- an action that was made on the text is noted, if it is kept
note-kept : (limit : ℕ) (recording : Recording) (kind : EditKind) (action : Action) (state : State)
    (content : Content) (anchors : List Anchors) → IsKept limit recording state
    → repeated limit action (characters state.content.cells) ≡ Some (characters content.cells)
    → IsKept limit recording (state_of content anchors (log_noted recording kind action state.log))
note-kept limit recording kind action state content anchors kept made =
    let text = characters state.content.cells in
    let found = characters content.cells in
    let history = state.log.history in
    let made_history : History = noted kind action recording.separators state.log.most history in
    let parts : FitsText limit found (if recording.undo then made_history else history)
    × (recording.undo ≡ false → (if recording.undo then made_history else history).groups ≡ [])
    × (recording.undo ≡ false → (if recording.undo then made_history else history).undone ≡ []) =
    elim (recording.undo) as (λ b. recording.undo ≡ b → FitsText limit found (if b then made_history else history)
    × (b ≡ false → (if b then made_history else history).groups ≡ [])
    × (b ≡ false → (if b then made_history else history).undone ≡ [])) [
      | true ↦ λ on. (
        note-fits limit state.log.most kind action recording.separators history text found kept.fits made,
        (λ off. absurd (true≢false off)),
        (λ off. absurd (true≢false off)),
      )
      | false ↦ λ off. (
        empty-fits limit text found history kept.fits (kept.groups off) (kept.undone off)
            (repeat-back limit action text found kept.fits.short made).1,
        (λ _. kept.groups off),
        (λ _. kept.undone off),
      )
    ] refl in
    record { fits = parts.0; groups = parts.1; undone = parts.2 }

-- ---- texts that are put in

put-made : (limit at : ℕ) (text : List ℕ) (slots : Slots) (content : Content) → at < length content.cells →
    length content.cells + length text ≤ limit
    → repeated limit (record { inserts = true; at = at; text = text }) (characters content.cells)
    ≡ Some (characters (after_insertion at text slots content).cells)
put-made limit at text slots content within short =
    let long = length-characters content.cells in
    ap₂ (λ a b. if a && b then Some (inserted at text (characters content.cells)) else None)
    (lt-ltb at (length (characters content.cells)) (omega (arith, long, within)))
    (le-leb (length (characters content.cells) + length text) limit (omega (arith, long, short)))
    ∙ ap Some (sym (map-inserted (λ (cell : Cell). cell.character) at (cells_of text slots) content.cells
    ∙ ap (λ new. inserted at new (characters content.cells)) (characters-of text slots)))

text-kept : (limit at : ℕ) (recording : Recording) (kind : EditKind) (piece : SlottedText) (state : State) →
    IsKept limit recording state → at < length state.content.cells
    → length state.content.cells + length piece.text ≤ limit
    → IsKept limit recording (inserted_text recording kind at piece state)
    × (length (inserted_text recording kind at piece state).content.cells
    ≡ length state.content.cells + length piece.text)
text-kept limit at recording kind piece state kept within short =
    let slots = slots_or piece.slots (shared_slots at state.content.cells) in
    let made : State = record {
      content = after_insertion at piece.text slots state.content;
      anchors = map (anchors_moved at (length piece.text)) state.anchors;
      log = log_noted recording kind (record { inserts = true; at = at; text = piece.text }) state.log;
    } in
    elim (length piece.text == 0) as (λ b. (length piece.text == 0) ≡ b →
    IsKept limit recording (if b then state else made)
    × (length (if b then state else made).content.cells ≡ length state.content.cells + length piece.text)) [
      | true ↦ λ none. (kept, (let gone = eqb-true (length piece.text) 0 none in omega (arith, gone)))
      | false ↦ λ some. (
        note-kept limit recording kind (record { inserts = true; at = at; text = piece.text }) state
            (after_insertion at piece.text slots state.content) made.anchors kept
            (put-made limit at piece.text slots state.content within short),
        length-cells_inserted at piece.text slots state.content.cells (omega (arith, within)),
      )
    ] refl

pub texts-kept : (limit at : ℕ) (recording : Recording) (kind : EditKind) (pieces : List SlottedText) (state : State) →
    IsKept limit recording state → at < length state.content.cells
    → length state.content.cells + total pieces ≤ limit →
    IsKept limit recording (inserted_texts recording kind at pieces state)
texts-kept limit at recording kind [] state kept within short = kept
texts-kept limit at recording kind (piece ∷ pieces) state kept within short =
    let counted = total-cons piece pieces in
    let one = text-kept limit at recording kind piece state kept within (omega (arith, counted, short)) in
    let long = one.1 in
    texts-kept limit (at + length piece.text) recording kind pieces (inserted_text recording kind at piece state) one.0
    (omega (arith, long, within)) (omega (arith, long, counted, short))

-- ---- spans that are taken out

take-made : (limit from to : ℕ) (content : Content) → from ≤ to → to < length content.cells
    → repeated limit (record { inserts = false; at = from; text = slice_range (characters content.cells) from to })
    (characters content.cells) ≡ Some (characters (after_removal from to content).cells)
take-made limit from to content ordered within =
    let text = characters content.cells in
    let long = length-characters content.cells in
    let taken = slice_range text from to in
    let counted = length-slice from to text ordered (omega (arith, long, within)) in
    let end : from + length taken ≡ to = omega (arith, counted, ordered) in
    ap (λ n. if nat_lt n (length text) && bytes_eq (slice_range text from n) taken then Some (removed from n text)
    else None) end
    ∙ ap₂ (λ a b. if a && b then Some (removed from to text)
    else None) (lt-ltb to (length text) (omega (arith, long, within))) ((bytes_eq-Decides taken taken).1 refl)
    ∙ ap Some (sym (map-removed (λ (cell : Cell). cell.character) from to content.cells))

pub span-kept : (limit from to : ℕ) (recording : Recording) (kind : EditKind) (state : State) →
    IsKept limit recording state → from ≤ to → to < length state.content.cells
    → IsKept limit recording (removed_span recording kind from to state)
    × (length (removed_span recording kind from to state).content.cells ≡ length state.content.cells - (to - from))
span-kept limit from to recording kind state kept ordered within =
    let taken = slice_range (characters state.content.cells) from to in
    let made : State = record {
      content = after_removal from to state.content;
      anchors = map (anchors_removed (characters state.content.cells) from to) state.anchors;
      log = log_noted recording kind (record { inserts = false; at = from; text = taken }) state.log;
    } in
    elim (from == to) as (λ b. (from == to) ≡ b → IsKept limit recording (if b then state else made)
    × (length (if b then state else made).content.cells ≡ length state.content.cells - (to - from))) [
      | true ↦ λ none. (kept, (let same = eqb-true from to none in omega (arith, same)))
      | false ↦ λ some. (
        note-kept limit recording kind (record { inserts = false; at = from; text = taken }) state
            (after_removal from to state.content) made.anchors kept
            (take-made limit from to state.content ordered within),
        (let h = length-removed from to state.content.cells ordered (omega (arith, within)) in omega (arith, h)),
      )
    ] refl

-- the marks don't matter
marked-kept : (limit number : ℕ) (recording : Recording) (place : Option Place) (state : State) →
    IsKept limit recording state →
    IsKept limit recording (record state { content = with_mark number place state.content })
marked-kept limit number recording None state kept = kept
marked-kept limit number recording (Some place) state kept =
    record { fits = kept.fits; groups = kept.groups; undone = kept.undone }

pub replaced-kept : (limit mark last from to : ℕ) (recording : Recording) (pieces : List SlottedText) (state : State) →
    IsKept limit recording state → last < length state.content.cells → from ≤ to
    → length state.content.cells - (min to last - min from last) + total pieces ≤ limit →
    IsKept limit recording (replaced recording mark last from to pieces state)
replaced-kept limit mark last from to recording pieces state kept within ordered short =
    let first = min from last in let end = min to last in
    let out = span-kept limit first end recording Replace state kept (omega (arith, ordered)) (omega (arith, within)) in
    let long = out.1 in
    marked-kept limit mark recording (option_and_then (clipped first end (total pieces))
    (finite.get state.content.marks mark))
    (inserted_texts recording Replace first pieces (removed_span recording Replace first end state))
    (texts-kept limit first recording Replace pieces (removed_span recording Replace first end state) out.0
    (omega (arith, long, within, ordered)) (omega (arith, long, short)))

-- ---- spans that are tagged

tagged-text : (slot from to : ℕ) (on : Bool) (cells : List Cell) → from ≤ to →
    characters (changed (with_slot slot on) from to cells) ≡ characters cells
tagged-text slot from to on cells ordered =
    map-changed (λ (cell : Cell). cell.character) (with_slot slot on) (λ c. c) (λ cell. refl) from to cells
    ∙ changed-same from to (characters cells) ordered

tagged-texts : (slot : ℕ) (on : Bool) (spans : List Span) (content : Content) →
    All (SpanFits (length content.cells)) spans → characters (tagged slot on spans content).cells
    ≡ characters content.cells
tagged-texts slot on [] content fit = refl
tagged-texts slot on (span ∷ spans) content fit =
    let first : SpanFits (length content.cells) span = fit 0 span (omega arith) in
    let long = length-changed (with_slot slot on) span.from span.to content.cells first.ordered first.within in
    tagged-texts slot on spans (record content { cells = changed (with_slot slot on) span.from span.to content.cells })
    (subst (λ n. All (SpanFits n) spans) (sym long) (All-tail (SpanFits (length content.cells)) span spans fit))
    ∙ tagged-text slot span.from span.to on content.cells first.ordered

pub tagged-kept : (limit slot : ℕ) (on : Bool) (recording : Recording) (spans : List Span) (state : State) →
    IsKept limit recording state → All (SpanFits (length state.content.cells)) spans
    → IsKept limit recording (state_of (tagged slot on spans state.content) state.anchors state.log)
tagged-kept limit slot on recording spans state kept fit = record {
  fits = subst (λ text. FitsText limit text state.log.history) (sym (tagged-texts slot on spans state.content fit))
      kept.fits;
  groups = kept.groups;
  undone = kept.undone;
}

-- ---- spans that are deleted

spans-kept : (limit border : ℕ) (recording : Recording) (kind : EditKind) (spans : List Span) (state : State) →
    IsKept limit recording state → AreApart border spans → border ≤ length state.content.cells
    → IsKept limit recording (removed_spans recording kind spans state)
spans-kept limit border recording kind [] state kept apart within = kept
spans-kept limit border recording kind (span ∷ spans) state kept apart within =
    let some = apart.0 in let below = apart.1 in
    let out = span-kept limit span.from span.to recording kind state kept (omega (arith, some))
    (omega (arith, below, within)) in
    let long = out.1 in
    spans-kept limit span.from recording kind spans (removed_span recording kind span.from span.to state) out.0 apart.2
    (omega (arith, long, some, below, within))

onto-apart : (n : ℕ) (runs : List Span) → AreApart (n + 1) runs → AreApart (n + 2) (onto_runs n runs)
onto-apart n [] apart = ((let h : n < n + 1 = omega arith in h), (let k : n + 1 < n + 2 = omega arith in k), tt)
onto-apart n (run ∷ runs) apart =
    let some = apart.0 in let below = apart.1 in
    elim (run.to == n) as (λ b. (run.to == n) ≡ b →
    AreApart (n + 2) (if b then record run { to = n + 1 } ∷ runs else record { from = n; to = n + 1 } ∷ run ∷ runs)) [
      | true ↦ λ same. let at =
          eqb-true run.to n same in (omega (arith, some, at), (let k : n + 1 < n + 2 = omega arith in k), apart.2)
      | false ↦ λ other. let gap = eqb-false run.to n other in (
        (let h : n < n + 1 = omega arith in h),
        (let k : n + 1 < n + 2 = omega arith in k),
        (some, omega (arith, below, gap), apart.2),
      )
    ] refl

runs-apart : (n : ℕ) (set : ℕ → Bool) → AreApart (n + 1) (runs_below n set)
runs-apart zero set = tt
runs-apart (suc n) set =
    elim (set n) as (λ b. AreApart (suc n + 1) (if b then onto_runs n (runs_below n set) else runs_below n set)) [
      | true ↦ subst (λ k. AreApart k (onto_runs n (runs_below n set))) (let e : n + 2 ≡ suc n + 1 = omega arith in
          e) (onto-apart n (runs_below n set) (runs-apart n set))
      | false ↦ apart-wider (n + 1) (suc n + 1) (runs_below n set) (runs-apart n set) (omega arith)
    ]

runs-short : (n border : ℕ) (set : ℕ → Bool) → ((offset : ℕ) → set offset ≡ true → offset + 1 < border) →
    AreApart border (runs_below n set)
runs-short zero border set short = tt
runs-short (suc n) border set short =
    elim (set n) as (λ b. set n ≡ b → AreApart border (if b then onto_runs n (runs_below n set) else runs_below n set)) [
      | true ↦ λ there. let below = short n there in
          apart-wider (n + 2) border (onto_runs n (runs_below n set))
          (onto-apart n (runs_below n set) (runs-apart n set)) (omega (arith, below))
      | false ↦ λ _. runs-short n border set short
    ] refl

run-start-le : (set : ℕ → Bool) (offset : ℕ) → run_start set offset ≤ offset
run-start-le set zero = omega arith
run-start-le set (suc offset) =
    elim (set offset) as (λ b. (if b then run_start set offset else suc offset) ≤ suc offset) [
      | true ↦ let below = run-start-le set offset in omega (arith, below)
      | false ↦ omega arith
    ]

first-of : (a b c : Bool) → (a && b && c) ≡ true → a ≡ true
first-of true b c is = refl
first-of false b c is = absurd (true≢false (sym is))

-- what goes stands before the last character that is shown
set-below : (text : List ℕ) (start end offset : ℕ) (spans : List Span) → 0 < end →
    All (λ (span : Span). span.to ≤ end) spans
    → delete_set text start end (in_spans spans) offset ≡ true → offset + 1 < end
set-below text start end offset spans some within =
    let set = in_spans spans in
    elim (set (end - 1)) as (λ b. set (end - 1) ≡ b → (if b then (set offset && not (offset == end - 1)
    || (offset + 1 == run_start set (end - 1) && nat_le start offset && is_newline (get_or text offset 0)))
    else set offset) ≡ true → offset + 1 < end) [
      | true ↦ λ last is. elim (or_cases (set offset && not (offset == end - 1)) (offset + 1 == run_start set (end - 1)
          && nat_le start offset && is_newline (get_or text offset 0)) is) [
            | inl inner ↦
                let parts = and_parts (set offset) (not (offset == end - 1)) inner in
                let below = in-within spans end offset within parts.0 in
                let other = eqb-false offset (end - 1) (not-true (offset == end - 1) parts.1) in
                elim (cases_eq offset (end - 1)) [
                  | inl same ↦ absurd (other same)
                  | inr differs ↦ omega (arith, below, differs)
                ]
            | inr before ↦
                let at = eqb-true (offset + 1) (run_start set (end - 1))
                (first-of (offset + 1 == run_start set (end - 1)) (nat_le start offset)
                (is_newline (get_or text offset 0)) before) in
                let first = run-start-le set (end - 1) in
                omega (arith, at, first, some)
          ]
      | false ↦ λ none is.
          let below = in-within spans end offset within is in
          elim (cases_eq offset (end - 1)) [
            | inl same ↦ absurd (both_ways (set offset) (ap set same ∙ none) is)
            | inr differs ↦ omega (arith, below, differs)
          ]
    ] refl

-- the runs that go stand apart, before the last character
pub deleted-runs : (text : List ℕ) (start end len : ℕ) (spans : List Span) → 0 < end → end ≤ len →
    All (λ (span : Span). span.to ≤ end) spans
    → AreApart len (runs_below len (delete_set text start end (in_spans spans)))
deleted-runs text start end len spans some within inside =
    runs-short len len (delete_set text start end (in_spans spans)) (λ offset is.
    let below = set-below text start end offset spans some inside is in omega (arith, below, within))

bared-kept : (limit at : ℕ) (recording : Recording) (b : Bool) (state : State) → IsKept limit recording state →
    at < length state.content.cells
    → IsKept limit recording (if b then record state { content = after_step (ClearTags at) state.content } else state)
    × (length (if b then record state { content = after_step (ClearTags at) state.content } else state).content.cells
    ≡ length state.content.cells)
bared-kept limit at recording true state kept within = (
  record {
    fits = subst (λ text. FitsText limit text state.log.history)
        (sym (map-changed (λ (cell : Cell). cell.character) without_slots (λ c. c) (λ cell. refl) at (at + 1)
        state.content.cells ∙ changed-same at (at + 1) (characters state.content.cells) (omega arith))) kept.fits;
    groups = kept.groups;
    undone = kept.undone;
  },
  length-changed without_slots at (at + 1) state.content.cells (omega arith) (omega (arith, within)),
)
bared-kept limit at recording false state kept within = (kept, refl)

pub deleted-kept : (limit start end : ℕ) (recording : Recording) (spans : List Span) (state : State) →
    IsKept limit recording state → start < end → end ≤ length state.content.cells
    → All (λ (span : Span). span.to ≤ end) spans → IsKept limit recording (deleted recording start end spans state)
deleted-kept limit start end recording spans state kept shows within inside =
    let len = length state.content.cells in
    let text = characters state.content.cells in
    let bared = bared-kept limit (end - 1) recording (in_spans spans (end - 1)) state kept
    (omega (arith, shows, within)) in
    let long = bared.1 in
    spans-kept limit len recording Delete (runs_below len (delete_set text start end (in_spans spans)))
    (if in_spans spans (end - 1) then record state { content = after_step (ClearTags (end - 1)) state.content }
    else state) bared.0
    (deleted-runs text start end len spans (omega (arith, shows)) within inside)
    (omega (arith, long))
