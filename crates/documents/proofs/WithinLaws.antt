-- A document after a text is inserted, or a range is deleted, where the store can make that in one line.
use Rattle.documents.proofs.Common.{◌≡◌, ℕ, ◌+◌, ◌-◌, ◌<◌, ◌≤◌, false, List, None, Some, Ok, length, refl, sym, ap, ap₂}
use Rattle.documents.proofs.Common.{◌∙◌, arith, IsScalar, All, nat_tests, length-map, get_or, AreLimits, LimitTable}
use Rattle.documents.proofs.Common.{inserted_texts, State, Empty, excess, Pair, total, take_all, recording_of, Document}
use Rattle.documents.proofs.Common.{Parts, widget_at, Stands, insert_at, numbers_of, nat_lt, TextTooLong, TooManyTags}
use Rattle.documents.proofs.Common.{if◌then◌else◌, names_of, [], ◌∷◌, Named, Tag, All-cons, All-nil, is_idle, deleted}
use Rattle.documents.proofs.Common.{delete_places, shown, spans_of, Span, span, slice_get-get_or, sum_by-cons, Insert}
use Rattle.documents.proofs.ChangeLaws.{Leaves}
use Rattle.documents.proofs.InsertionLaws.{leaves-put}
use Rattle.documents.proofs.PartsLaws.{Sits, sits}
use Rattle.documents.proofs.RemovalLaws.{leaves-places}
use Rattle.documents.proofs.SpanLaws.{spans-in}
use Rattle.documents.proofs.StateLaws.{state_in, with_state}
use Rattle.documents.proofs.ViewLaws.{IsSeen}

-- a widget that is there has a slot
seated : {parts : Parts} {document : Document} (place : ℕ) → Stands parts document → place < length document.widgets
    → (slot : ℕ) × Sits parts document place slot
seated {parts} {document} place stands within =
    let seats = parts.seats.entries in
    let numbers = numbers_of seats in
    let many : length document.widgets ≡ length seats = ap (λ (d : Document). length d.widgets) (sym stands.is)
    ∙ length-map seats _ in
    let counted : length numbers ≡ length seats = length-map seats (λ (seat : Named). seat.number) in
    (get_or numbers place 0, sits place stands (slice_get-get_or numbers place 0 (omega (arith, within, many, counted))))

-- one text without a tag list
abbrev pub lone : List ℕ → List Pair
lone text = record { text = text; names = None } ∷ []

lone-fits : (limits : LimitTable) (tags len : ℕ) (text : List ℕ) → tags ≤ limits.tags + 1 →
    len + length text ≤ limits.chars → excess limits tags (len + total (lone text)) ≡ None
lone-fits limits tags len text few short =
    let counted : total (lone text) ≡ length text = sum_by-cons (λ (p : Pair). length p.text) (record {
      text = text;
      names = None;
    }) [] ∙ (let e : length text + 0 ≡ length text = omega arith in e) in
    let no_tags : nat_lt (limits.tags + 1) tags ≡ false = grind (arith, nat_tests) in
    let no_chars : nat_lt limits.chars (len + length text) ≡ false = grind (arith, nat_tests) in
    ap (λ n. excess limits tags (len + n)) counted
    ∙ ap₂ (λ b c. if b then Some TooManyTags else (if c then Some TextTooLong else None)) no_tags no_chars

pub leaves-lone : {limits : LimitTable} {old : Parts} {state : State} {document : Document} (place at : ℕ)
    (text : List ℕ) → Stands old document → place < length document.widgets → at < length document.cells
    → AreLimits limits → length old.tags.tags ≤ limits.tags + 1 → All IsScalar text
    → length old.content.cells + length text ≤ limits.chars
    → state ≡ inserted_texts (recording_of old.journal.settings) Insert at (record { text = text; slots = None } ∷ [])
    (state_in old)
    → Leaves limits (with_state old state) document (Ok Empty)
    (insert_at limits document (widget_at document place) at (lone text))
leaves-lone {limits} {old} place at text stands there within bounds few scalars short is =
    let tags = old.tags in
    let names : length (names_of tags.tags) ≡ length tags.tags = length-map tags.tags (λ (tag : Tag). tag.name) in
    let found = seated place stands there in
    leaves-put {pairs = lone text} stands found.1 (record {
      bounds = bounds;
      front = record { tags = take_all (length tags.tags) tags.tags (omega arith); longer = omega arith; limit = refl };
      sound = stands.sound.kept.tags;
      scalars = All-cons (λ (p : Pair). All IsScalar p.text) (record { text = text; names = None }) [] scalars
          (All-nil (λ (p : Pair). All IsScalar p.text));
      made = refl;
      room = lone-fits limits (length (names_of tags.tags)) (length old.content.cells) text (omega (arith, few, names))
          short;
    }) within is

pub two-places : (places : List ℕ) → 2 ≤ length places → length places < 3 →
    places ≡ get_or places 0 0 ∷ get_or places 1 0 ∷ []
two-places [] some few = absurd (omega (arith, some))
two-places (from ∷ []) some few = absurd (omega (arith, some))
two-places (from ∷ to ∷ []) some few = refl
two-places (from ∷ to ∷ place ∷ places) some few = absurd (omega (arith, few))

-- the range between two places of the view
pub leaves-range : {old : Parts} {state : State} {document : Document} {place slot start end from to : ℕ}
    {spanned : Span} (limits : LimitTable) (places : List ℕ) → IsSeen old document place slot old.content start end
    → is_idle document (widget_at document place) ≡ false
    → All (λ at. at ≤ length (shown document (widget_at document place))) places → places ≡ from ∷ to ∷ []
    → spanned ≡ span start from to
    → state ≡ deleted (recording_of old.journal.settings) start end (spanned ∷ []) (state_in old)
    → Leaves limits (with_state old state) document (Ok Empty)
    (delete_places document (widget_at document place) places)
leaves-range {start = start} {end = end} {spanned = spanned} limits places seen active within two made is =
    let all : spanned ∷ [] ≡ spans_of start (end - start) places = ap (λ s. s ∷ []) made
    ∙ sym (ap (spans_of start (end - start)) two) in
    leaves-places limits places seen active (spans-in places seen within all refl) is
