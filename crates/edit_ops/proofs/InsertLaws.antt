-- One text more is put in.
use Rattle.edit_ops.proofs.Common.{◌≡◌, ℕ, zero, suc, ◌+◌, ◌-◌, ◌^◌, ◌<◌, ◌≤◌, Bool, true, false, List, [], ◌∷◌, ◌++◌}
use Rattle.edit_ops.proofs.Common.{Option, Some, None, ◌==◌, ◌&&◌, map, length, get_or, refl, sym, ap, ap₂, ◌∙◌, arith}
use Rattle.edit_ops.proofs.Common.{ne_eqb, eq-eqb, subst, slice_get, nat_lt, if◌then◌else◌, encode_utf8_all}
use Rattle.edit_ops.proofs.Common.{nat_cmp_total, is_none, All, nat_tests, length-map, get_or-map}
use Rattle.edit_ops.proofs.Common.{get_or_from_slice_get, length-le-encodes, sum_by-cons, All-map, Cell, Insert}
use Rattle.edit_ops.proofs.Common.{Content, Slots, slot_sets, slots_left_of, inserted, cells_of, Fits, after}
use Rattle.edit_ops.proofs.Common.{after_insertion, length-cells_inserted, map-inserted, map-map}
use Rattle.edit_ops.proofs.Common.{get_or-inserted_within, get_or-inserted_behind, Fits-append, after-append, noted}
use Rattle.edit_ops.proofs.Common.{counted_new, Action, EditKind, Anchors, SlottedText, Recording, AnchorsStand}
use Rattle.edit_ops.proofs.Common.{anchor_moved, anchors_moved, shared_slots, slots_around, length-slot_sets, slots_or}
use Rattle.edit_ops.proofs.Common.{inserted_texts, total, total_bytes, needs_shared, IsBetween, State, Log, Outline}
use Rattle.edit_ops.proofs.Common.{log_noted, all_noted, outlineed, state_of, ◌||◌}
use Rattle.std.specs.Ordering.{nat_cmp}
use Rattle.std.proofs.Math.Bool.{or-true}
use Rattle.edit_ops.proofs.AnchorLaws.{if-mapped}
use Rattle.edit_ops.proofs.RowLaws.{InsertedRow, row-first, row-next, row-same}
use Rattle.std.specs.FinSet as set

pub noted-append : (recording : Recording) (kind : EditKind) (actions others : List Action) (log : Log)
    → all_noted recording kind (actions ++ others) log
    ≡ all_noted recording kind others (all_noted recording kind actions log)
noted-append recording kind [] others log = refl
noted-append recording kind (action ∷ actions) others log =
    noted-append recording kind actions others (log_noted recording kind action log)

if-alike : {A B : Type 0} (b : Bool) (f : A → B) (x y : A) (other : B) → (b ≡ true → x ≡ y) →
    (if b then f x else other) ≡ (if b then f y else other)
if-alike true f x y other same = ap f (same refl)
if-alike false f x y other same = refl

-- where no action is kept, its text doesn't matter
pub noted-alike : (recording : Recording) (kind : EditKind) (inserts : Bool) (at : ℕ) (text other : List ℕ) (log : Log)
    → (recording.undo ≡ true → text ≡ other)
    → log_noted recording kind (record { inserts = inserts; at = at; text = text }) log
    ≡ log_noted recording kind (record { inserts = inserts; at = at; text = other }) log
noted-alike recording kind inserts at text other log same =
    ap (λ history. record log { history = history; modified = counted_new log.modified })
    (if-alike recording.undo (λ t. noted kind (record { inserts = inserts; at = at; text = t }) recording.separators
    log.most log.history) text other log.history same)

-- the slots of text that is put in, and of the cells behind it
slots-within : (at : ℕ) (text : List ℕ) (slots : Slots) (cells : List Cell) (i : ℕ) → at ≤ length cells →
    i < length text
    → get_or (slot_sets (inserted at (cells_of text slots) cells)) (at + i) set.empty ≡ slots
slots-within at text slots cells i within inside =
    let new = cells_of text slots in
    let count : length (slot_sets new) ≡ length text = length-slot_sets new ∙ length-map text _ in
    ap (λ sets. get_or sets (at + i) set.empty) (map-inserted (λ (cell : Cell). cell.tags) at new cells)
    ∙ get_or-inserted_within at (slot_sets new) (slot_sets cells) i set.empty (rw (length-slot_sets cells) within)
    (omega (arith, count, inside))
    ∙ ap (λ sets. get_or sets i set.empty) (map-map (λ (cell : Cell). cell.tags) (λ character.
    record { character = character; tags = slots }) text)
    ∙ get_or-map (λ _. slots) text i 0 set.empty inside

slots-behind : (at : ℕ) (text : List ℕ) (slots : Slots) (cells : List Cell) → at ≤ length cells
    → get_or (slot_sets (inserted at (cells_of text slots) cells)) (at + length text) set.empty
    ≡ get_or (slot_sets cells) at set.empty
slots-behind at text slots cells within =
    let new = cells_of text slots in
    let count : length (slot_sets new) ≡ length text = length-slot_sets new ∙ length-map text _ in
    ap₂ (λ sets n. get_or sets n set.empty) (map-inserted (λ (cell : Cell). cell.tags) at new cells)
    (ap (λ n. at + n) (sym count))
    ∙ get_or-inserted_behind at (slot_sets new) (slot_sets cells) at set.empty (rw (length-slot_sets cells) within)
    (omega arith)

-- the place behind a text that was put in
between-next : (matters : Bool) (shared behind slots : Slots) (len at : ℕ) (text : List ℕ) (cells : List Cell) →
    IsBetween matters shared behind len at cells → 0 < length text
    → IsBetween matters (set.intersection slots behind) behind (len + length text) (at + length text)
    (inserted at (cells_of text slots) cells)
between-next matters shared behind slots len at text cells is some =
    let within : at ≤ length cells = omega (arith, is.within, is.counted) in
    let new = inserted at (cells_of text slots) cells in
    let next : matters ≡ true → get_or (slot_sets new) (at + length text) set.empty ≡ behind = λ on.
    slots-behind at text slots cells within ∙ is.after on in
    let last : get_or (slot_sets new) (at + length text - 1) set.empty ≡ slots =
    ap (λ n. get_or (slot_sets new) n set.empty) (let e : at + length text - 1
    ≡ at + (length text - 1) = omega (arith, some) in e)
    ∙ slots-within at text slots cells (length text - 1) within (omega (arith, some)) in
    record {
      counted = length-cells_inserted at text slots cells within ∙ ap (λ n. n + length text) is.counted;
      within = let h : at < len = is.within in omega arith;
      after = next;
      around = λ on.
          ap (λ b. if b then set.empty else set.intersection (get_or (slot_sets new) (at + length text - 1) set.empty)
          (get_or (slot_sets new) (at + length text) set.empty))
          (ne_eqb (at + length text) 0 (λ none. omega (arith, none, some)))
          ∙ ap₂ set.intersection last (next on);
    }

-- what the texts that are left need
fewer : (piece : SlottedText) (rest : List SlottedText) (shared behind : Slots) (len at : ℕ) (cells : List Cell) →
    IsBetween (needs_shared (piece ∷ rest)) shared behind len at cells
    → IsBetween (needs_shared rest) shared behind len at cells
fewer piece rest shared behind len at cells is =
    let on : needs_shared rest ≡ true → needs_shared (piece ∷ rest) ≡ true = λ some.
    ap (λ b. is_none piece.slots || b) some ∙ or-true (is_none piece.slots) in
    record {
      counted = is.counted;
      within = is.within;
      after = λ some. is.after (on some);
      around = λ some. is.around (on some);
    }

-- a text without slots of its own gets those that are shared
slots-same : (own : Option Slots) (others : Bool) (shared around : Slots) →
    ((is_none own || others) ≡ true → around ≡ shared) → slots_or own shared ≡ slots_or own around
slots-same None others shared around same = sym (same refl)
slots-same (Some slots) others shared around same = refl

moved-within : (at count len anchor : ℕ) → anchor ≤ len → anchor_moved at count anchor ≤ len + count
moved-within at count len anchor within = elim (nat_lt at anchor) as (λ b. (if b then anchor + count else anchor)
    ≤ len + count) [ true ↦ omega arith | false ↦ omega arith ]

-- the anchors of each widget still stand in the text
pub stand-moved : (at count len : ℕ) (all : List Anchors) → All (AnchorsStand len) all →
    All (AnchorsStand (len + count)) (map (anchors_moved at count) all)
stand-moved at count len all stand = All-map (AnchorsStand (len + count)) (anchors_moved at count) all (λ k d within.
    let anchors = get_or all k d in
    let moves = if-mapped (λ place. place ≤ len) (λ place. place ≤ len + count) (anchor_moved at count) in
    record {
      start = moves anchors.start (moved-within at count len) (stand k d within).start;
      end = moves anchors.end (moved-within at count len) (stand k d within).end;
    })

-- The first of the texts are put in, of an edit that is put together, and these are left.
pub record InsertedSoFar (recording : Recording) (kind : EditKind) (outline new : Outline) (state : State) (from : ℕ)
    (pieces : List SlottedText) (at len : ℕ) (shared behind : Slots) (rest : List SlottedText) : Type 0 where
  pub fits : Fits new.steps state.content
  pub between : IsBetween (needs_shared rest) shared behind len at (after new.steps state.content).cells
  pub makes : inserted_texts recording kind at rest (outlineed recording kind new state)
      ≡ inserted_texts recording kind from pieces (outlineed recording kind outline state)

pub record Inserting (keeps : Bool) (outline new : Outline) (from start : ℕ) (around : Slots) (pieces : List SlottedText)
    (at len : ℕ) (shared behind : Slots) (rest : List SlottedText) : Type 0 where
  pub within : at < len
  pub count : length new.anchors ≡ length outline.anchors
  pub stand : All (AnchorsStand len) new.anchors
  pub room : len + total rest < 2 ^ 64
  pub whole : len + total rest ≡ start + total pieces
  pub place : at + start ≡ from + len
  pub row : InsertedRow from at pieces rest outline.steps new.steps
  pub goes : (recording : Recording) (kind : EditKind) (state : State) → (recording.undo ≡ true → keeps ≡ true)
      → Fits outline.steps state.content
      → IsBetween (needs_shared pieces) around behind start from (after outline.steps state.content).cells
      → InsertedSoFar recording kind outline new state from pieces at len shared behind rest

pub total-cons : (piece : SlottedText) (rest : List SlottedText) → total (piece ∷ rest) ≡ length piece.text + total rest
total-cons piece rest = sum_by-cons (λ (p : SlottedText). length p.text) piece rest

-- texts have no more characters than bytes
pub total-in-bytes : (pieces : List SlottedText) → total pieces ≤ total_bytes pieces
total-in-bytes [] = omega arith
total-in-bytes (piece ∷ rest) =
    omega (
      arith,
      total-cons piece rest,
      sum_by-cons (λ (p : SlottedText). length (encode_utf8_all p.text)) piece rest,
      length-le-encodes piece.text,
      total-in-bytes rest,
    )

-- no text yet
pub inserting-first : (keeps : Bool) (outline : Outline) (at len : ℕ) (shared behind : Slots) (pieces left : List SlottedText) →
    left ≡ pieces → at < len → All (AnchorsStand len) outline.anchors → len + total pieces < 2 ^ 64
    → Inserting keeps outline outline at len shared pieces at len shared behind left
inserting-first keeps outline at len shared behind pieces left left_is within stand fits =
    subst (Inserting keeps outline outline at len shared pieces at len shared behind) (sym left_is) (record {
      within = within;
      count = refl;
      stand = stand;
      room = fits;
      whole = refl;
      place = refl;
      row = row-first at pieces pieces outline.steps refl;
      goes = λ recording kind state _ fits is. record { fits = fits; between = is; makes = refl };
    })

-- a text of those that are left
module _ {keeps : Bool} {outline now : Outline} {from start : ℕ} {around : Slots} {pieces : List SlottedText}
    {at len : ℕ} {shared behind : Slots} {piece : SlottedText} {rest left : List SlottedText}
    (so_far : Inserting keeps outline now from start around pieces at len shared behind left)
    (left_is : left ≡ piece ∷ rest) where
  counted : total left ≡ length piece.text + total rest
  counted = ap total left_is ∙ total-cons piece rest

  pub piece-fits : (count : ℕ) → count ≡ length piece.text → (len + count < 2 ^ 64) × (at + count < 2 ^ 64)
  piece-fits count is =
      (omega (arith, counted, is, so_far.room), omega (arith, counted, is, so_far.room, so_far.within))

  -- it is put in
  pub inserting-more : {new : Outline} {slots : Slots} {kept : List ℕ} → 0 < length piece.text
      → slots ≡ slots_or piece.slots shared → (keeps ≡ true → kept ≡ piece.text)
      → new ≡ record {
        steps = now.steps ++ Insert at piece.text slots ∷ [];
        anchors = map (anchors_moved at (length piece.text)) now.anchors;
        actions = now.actions ++ record { inserts = true; at = at; text = kept } ∷ [];
      }
      → Inserting keeps outline new from start around pieces (at + length piece.text) (len + length piece.text)
      (set.intersection slots behind) behind rest
  inserting-more {new} {slots} {kept} some slots_are kept_is made = record {
    within = let h : at < len = so_far.within in omega arith;
    count = ap (λ (d : Outline). length d.anchors) made
        ∙ length-map now.anchors (anchors_moved at (length piece.text)) ∙ so_far.count;
    stand = subst (λ (d : Outline). All (AnchorsStand (len + length piece.text)) d.anchors) (sym made)
        (stand-moved at (length piece.text) len now.anchors so_far.stand);
    room = omega (arith, counted, so_far.room);
    whole = omega (arith, counted, so_far.whole);
    place = omega (arith, so_far.place);
    row = row-next so_far.row left_is slots some (ap (λ (d : Outline). d.steps) made);
    goes = λ recording kind state keeping fits begins.
        let far = so_far.goes recording kind state keeping fits begins in
        let before = after now.steps state.content in
        let is = subst (λ ps. IsBetween (needs_shared ps) shared behind len at before.cells) left_is far.between in
        let step = Insert at piece.text slots in
        let action : List ℕ → Action = λ text. record { inserts = true; at = at; text = text } in
        let before_log = all_noted recording kind now.actions state.log in
        let content : after (now.steps ++ step ∷ []) state.content ≡ after_insertion at piece.text slots before =
        after-append now.steps (step ∷ []) state.content in
        let same : slots ≡ slots_or piece.slots (shared_slots at before.cells) =
        slots_are ∙ slots-same piece.slots (needs_shared rest) shared (shared_slots at before.cells) is.around in
        let log : all_noted recording kind (now.actions ++ action kept ∷ []) state.log
        ≡ log_noted recording kind (action piece.text) before_log =
        noted-append recording kind now.actions (action kept ∷ []) state.log
        ∙ noted-alike recording kind true at kept piece.text before_log (λ on. kept_is (keeping on)) in
        let anchors = map (anchors_moved at (length piece.text)) now.anchors in
        record {
          fits = subst (λ (d : Outline). Fits d.steps state.content) (sym made)
              (Fits-append now.steps (step ∷ []) state.content far.fits (omega (arith, is.within, is.counted), tt));
          between = subst (λ (c : Content). IsBetween (needs_shared rest) (set.intersection slots behind) behind
              (len + length piece.text) (at + length piece.text) c.cells)
              (sym (ap (λ (d : Outline). after d.steps state.content) made ∙ content))
              (between-next (needs_shared rest) shared behind slots len at piece.text before.cells
              (fewer piece rest shared behind len at before.cells is) some);
          makes =
              ap (λ d. inserted_texts recording kind (at + length piece.text) rest (outlineed recording kind d state))
              made
              ∙ ap (inserted_texts recording kind (at + length piece.text) rest)
              (ap₂ (λ c l. state_of c anchors l) (content ∙ ap (λ s. after_insertion at piece.text s before) same) log
              ∙ ap (λ b. if b then outlineed recording kind now state
              else state_of (after_insertion at piece.text (slots_or piece.slots (shared_slots at before.cells)) before)
              anchors (log_noted recording kind (action piece.text) before_log))
              (sym (ne_eqb (length piece.text) 0 (λ none. omega (arith, none, some)))))
              ∙ ap (λ ps. inserted_texts recording kind at ps (outlineed recording kind now state)) (sym left_is)
              ∙ far.makes;
        };
  }

  -- it has no characters
  pub inserting-none : length piece.text ≡ 0 →
      Inserting keeps outline now from start around pieces at len shared behind rest
  inserting-none none = record {
    within = so_far.within;
    count = so_far.count;
    stand = so_far.stand;
    room = omega (arith, counted, so_far.room);
    whole = omega (arith, counted, so_far.whole, none);
    place = so_far.place;
    row = row-same so_far.row left_is none;
    goes = λ recording kind state keeping fits is.
        let far = so_far.goes recording kind state keeping fits is in
        let before = after now.steps state.content in
        record {
          fits = far.fits;
          between = fewer piece rest shared behind len at before.cells
              (subst (λ ps. IsBetween (needs_shared ps) shared behind len at before.cells) left_is far.between);
          makes =
              ap₂ (λ n s. inserted_texts recording kind n rest s)
              (let e : at ≡ at + length piece.text = omega (arith, none) in e)
              (sym (ap (λ b. if b then outlineed recording kind now state else state_of
              (after_insertion at piece.text (slots_or piece.slots (shared_slots at before.cells)) before)
              (map (anchors_moved at (length piece.text)) now.anchors)
              (log_noted recording kind (record { inserts = true; at = at; text = piece.text })
              (all_noted recording kind now.actions state.log)))
              (eq-eqb (length piece.text) 0 none)))
              ∙ ap (λ ps. inserted_texts recording kind at ps (outlineed recording kind now state)) (sym left_is)
              ∙ far.makes;
        };
  }

-- an edit that begins with texts that are put in
pub put-in : (keeps : Bool) (outline new : Outline) (content : Content) (anchors : List Anchors) (shared behind : Slots)
    (len at : ℕ) (pieces : List SlottedText) → outline ≡ record { steps = []; anchors = anchors; actions = [] }
    → IsBetween (needs_shared pieces) shared behind len at content.cells
    → ((recording : Recording) (kind : EditKind) (state : State) → (recording.undo ≡ true → keeps ≡ true) →
    Fits outline.steps state.content →
    IsBetween (needs_shared pieces) shared behind len at (after outline.steps state.content).cells
    → Fits new.steps state.content × (length (after new.steps state.content).cells ≡ len + total pieces)
    × (outlineed recording kind new state
    ≡ inserted_texts recording kind at pieces (outlineed recording kind outline state)))
    → (recording : Recording) (kind : EditKind) (log : Log) → (recording.undo ≡ true → keeps ≡ true)
    → Fits new.steps content × (outlineed recording kind new (state_of content anchors log)
    ≡ inserted_texts recording kind at pieces (state_of content anchors log))
put-in keeps outline new content anchors shared behind len at pieces made is goes recording kind log keeping =
    let state = state_of content anchors log in
    let done = goes recording kind state keeping
    (subst (λ (d : Outline). Fits d.steps content) (sym made) tt)
    (subst (λ (d : Outline). IsBetween (needs_shared pieces) shared behind len at (after d.steps content).cells)
    (sym made) is) in
    (done.0, done.2 ∙ ap (λ (d : Outline). inserted_texts recording kind at pieces (outlineed recording kind d state)) made)

pub behind-is : (at : ℕ) (cells : List Cell) (slots : Slots) → slice_get (slot_sets cells) at ≡ Some slots →
    get_or (slot_sets cells) at set.empty ≡ slots
behind-is at cells slots found = get_or_from_slice_get (slot_sets cells) at slots set.empty found

-- what the cells before one place and at another share
pub around-is : (from to : ℕ) (cells : List Cell) (behind : Slots) → slice_get (slot_sets cells) to ≡ Some behind →
    slots_around from to cells ≡ set.intersection (slots_left_of from cells) behind
around-is zero to cells behind is =
    set.same_set nat_cmp_total set.nat_cmp-IsAntisymmetric _ _ (λ q.
    set.contains-empty nat_cmp q
    ∙ sym (set.contains-intersection nat_cmp_total set.empty behind q
    ∙ ap (λ b. b && set.contains behind q) (set.contains-empty nat_cmp q)))
around-is (suc n) to cells behind is =
    let before : suc n - 1 ≡ n = omega arith in
    let some : (suc n == 0) ≡ false = grind (arith, nat_tests) in
    ap (λ b. if b then set.empty else set.intersection (get_or (slot_sets cells) (suc n - 1) set.empty)
    (get_or (slot_sets cells) to set.empty)) some
    ∙ ap₂ set.intersection (ap (λ k. get_or (slot_sets cells) k set.empty) before) (behind-is to cells behind is)
