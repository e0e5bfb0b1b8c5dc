-- An edit of one line that a store makes at once leaves what the plan of the same edit leaves.
use Rattle.edit_ops.proofs.Common.{◌≡◌, ℕ, ◌+◌, ◌-◌, ◌<◌, ◌≤◌, true, false, List, [], ◌∷◌, ◌++◌, None, map, length}
use Rattle.edit_ops.proofs.Common.{drop, refl, sym, ap, ap₂, ◌∙◌, arith, ne_eqb, slice_range, if◌then◌else◌, drop_split}
use Rattle.edit_ops.proofs.Common.{Content, Insert, Remove, ClearTags, after, after_insertion, after_step, characters}
use Rattle.edit_ops.proofs.Common.{Slots, EditKind, Delete, Anchors, Recording, Span, State, Outline, Log, log_noted}
use Rattle.edit_ops.proofs.Common.{state_of, anchors_moved, anchors_drawn, inserted_texts, shared_slots, deleted}
use Rattle.edit_ops.proofs.Common.{removed_spans, AreApart, line_of, line_start, next_line, removed, next_line-is}
use Rattle.edit_ops.proofs.Common.{next_line-drawn, next-behind, length-cells_inserted, chars, cases_lt, inl, inr}
use Rattle.edit_ops.proofs.Common.{encode_utf8_all, encodes-chars, length-le-encodes, nil_from_length, length-map, Vec}
use Rattle.edit_ops.proofs.Common.{with_items_is, IsUtf8, IsLineOf}
use Rattle.std.specs.Vec.{with_items}
use Rattle.edit_ops.proofs.InsertLaws.{noted-alike}
use Rattle.edit_ops.proofs.RunLaws.{last-out, none-spared}
use Rattle.edit_ops.proofs.DeleteLaws.{length-slice, runs-left, span-out}
use Rattle.text_model.specs.declared.places.LineSpan.{LineSpan}

-- ---- a text that is inserted

-- it has no more characters than bytes, and some where it has some
pub few-chars : (piece : List ℕ) → IsUtf8 piece → length (chars piece) ≤ length piece
few-chars piece valid = omega (arith, length-le-encodes (chars piece), ap length (encodes-chars piece valid))

pub some-chars : (piece : List ℕ) → IsUtf8 piece → 0 < length piece → 0 < length (chars piece)
some-chars piece valid some =
    elim (cases_lt 0 (length (chars piece))) [
      | inl there ↦ there
      | inr none ↦
          let nothing = ap (λ xs. length (encode_utf8_all xs)) (nil_from_length (chars piece) (omega (arith, none))) in
          absurd (omega (arith, some, nothing, ap length (encodes-chars piece valid)))
    ]

pub put-count : (at : ℕ) (text : List ℕ) (slots : Slots) (old new : Content) → at < length old.cells →
    new ≡ after (Insert at text slots ∷ []) old → length new.cells ≡ length old.cells + length text
put-count at text slots old new within made =
    ap (λ (c : Content). length c.cells) made ∙ length-cells_inserted at text slots old.cells (omega (arith, within))

pub put-at-once : (recording : Recording) (kind : EditKind) (at : ℕ) (text : List ℕ) (old : Content)
    (anchors : List Anchors) (log : Log) {count : ℕ} {kept : List ℕ} {new : Content} {moved : List Anchors}
    {noted : Log} → 0 < length text → count ≡ length text
    → new ≡ after (Insert at text (shared_slots at old.cells) ∷ []) old → moved ≡ map (anchors_moved at count) anchors
    → (recording.undo ≡ true → kept ≡ text)
    → noted ≡ log_noted recording kind (record { inserts = true; at = at; text = kept }) log
    → state_of new moved noted
    ≡ inserted_texts recording kind at (record { text = text; slots = None } ∷ []) (state_of old anchors log)
put-at-once recording kind at text old anchors log {kept = kept} {moved = moved} {noted = noted} some counted made goes
    kept_is noted_is =
    let put : State = state_of (after_insertion at text (shared_slots at old.cells) old)
    (map (anchors_moved at (length text)) anchors)
    (log_noted recording kind (record { inserts = true; at = at; text = text }) log) in
    let along : moved ≡ map (anchors_moved at (length text)) anchors = goes
    ∙ ap (λ n. map (anchors_moved at n) anchors) counted in
    let logged : noted ≡ log_noted recording kind (record { inserts = true; at = at; text = text }) log = noted_is
    ∙ noted-alike recording kind true at kept text log kept_is in
    (λ i. state_of (made i) (along i) (logged i))
    ∙ ap (λ b. if b then state_of old anchors log else put)
    (sym (ne_eqb (length text) 0 (λ none. omega (arith, none, some))))

-- the anchors of each widget, written back
pub written-back : {Z : Type 0} (anchors : Vec Anchors Z) (f : Anchors → Anchors) (given all : List Anchors) →
    all ≡ map f given → given ≡ anchors.items → (with_items anchors all).items ≡ map f anchors.items
written-back anchors f given all made same =
    let whole : all ≡ map f anchors.items = made ∙ ap (map f) same in
    with_items_is anchors all (ap length whole ∙ length-map anchors.items f ∙ sym anchors.ok.0) ∙ whole

-- ---- a span that is deleted

-- the line of the place goes on to where it did, less what is deleted of it
pub next-at-once : {text : List ℕ} {from to : ℕ} {line : LineSpan} → IsLineOf text from line → from ≤ to →
    to ≤ length text → to < line.end → line.end - (to - from) ≡ next_line (removed from to text) from
next-at-once {text} {from} {to} {line} is ordered within below =
    let front = slice_range text from to in
    let ys = drop to text in
    let long : length front ≡ to - from = length-slice from to text ordered within in
    let end : line.end ≡ next_line text from = is.end ∙ ap (λ n. line_start (n + 1) text) is.number in
    let near : next_line text from ≡ from + line_start 1 (front ++ ys) =
    next_line-is text from (omega (arith, ordered, within))
    ∙ ap (λ xs. from + line_start 1 xs) (drop_split text from to ordered) in
    let step = next-behind front ys ys (omega (arith, near, end, long, below, ordered)) in
    let last = next_line-is text to within in
    let drawn = next_line-drawn text from to ordered within in
    omega (arith, drawn.1, last, step, near, end, long, ordered)

pub line-at-once : {text : List ℕ} {from : ℕ} {line : LineSpan} → IsLineOf text from line →
    line.start ≡ line_start (line_of text from) text
line-at-once {text} is = is.start ∙ ap (λ n. line_start n text) is.number

pub taken-at-once : (recording : Recording) (start end : ℕ) (span : Span) (old : Content) (anchors : List Anchors)
    (log : Log) {line next : ℕ} {kept : List ℕ} {new : Content} {drawn : List Anchors} {noted : Log} → span.from < span.to → span.to < end →
    end ≤ length old.cells → new ≡ after (Remove span.from span.to ∷ []) old
    → drawn ≡ map (anchors_drawn line next span.from span.to) anchors
    → (recording.undo ≡ true → kept ≡ slice_range (characters old.cells) span.from span.to)
    → noted ≡ log_noted recording Delete (record { inserts = false; at = span.from; text = kept }) log
    → line ≡ line_start (line_of (characters old.cells) span.from) (characters old.cells)
    → next ≡ next_line (removed span.from span.to (characters old.cells)) span.from
    → state_of new drawn noted ≡ deleted recording start end (span ∷ []) (state_of old anchors log)
taken-at-once recording start end span old anchors log {line = line} {next = next} {kept = kept} some below within made
    goes kept_is noted_is line_is next_is =
    let state = state_of old anchors log in
    let text = characters old.cells in
    let spans = span ∷ [] in
    let apart : AreApart end spans = (some, below, tt) in
    let ends : 0 < end = omega (arith, below) in
    let begun : Outline = record { steps = []; anchors = anchors; actions = [] } in
    let done : Outline = record {
      steps = Remove span.from span.to ∷ [];
      anchors = map (anchors_drawn line next span.from span.to) anchors;
      actions = record { inserts = false; at = span.from; text = kept } ∷ [];
    } in
    (λ i. state_of (made i) (goes i) (noted_is i))
    ∙ span-out recording Delete begun done state kept line next span.from span.to refl some kept_is line_is next_is
    ∙ ap₂ (λ rs b. removed_spans recording Delete rs
    (if b then record state { content = after_step (ClearTags (end - 1)) old } else state))
    (runs-left text (length old.cells) start end spans spans spans within (λ _. refl) apart
    (none-spared text start end spans ends apart)) (sym (last-out end spans ends apart))
