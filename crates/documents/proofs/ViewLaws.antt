-- What of a document one of its widgets shows.
use Rattle.documents.proofs.Common.{or_parts, Part, part_between, [], inl, inr, min, suc, zero, ◌≡◌, ℕ, ◌+◌, ◌-◌, ◌<◌}
use Rattle.documents.proofs.Common.{◌≤◌, false, List, length, map, refl, sym, ap, ap₂, subst, ◌∙◌, arith, drop, take}
use Rattle.documents.proofs.Common.{true≢false, ◌≢◌, eq-eqb, slice_get, IfSome, slice_index_or, slice_range, unwrap_or}
use Rattle.documents.proofs.Common.{cases_lt, drop_all, get_or_default, length-map, length-take-le, numbers_of, Cell}
use Rattle.documents.proofs.Common.{Content, flags, IsLineStart, IsView, known_tags, Anchors, is-start, text-end-begins}
use Rattle.documents.proofs.Common.{Document, KeyedCell, Parts, Widget, anchors_at, whole, widget_at, Key, key_named}
use Rattle.documents.proofs.Common.{Stands, is_idle, shown, shown_flags, view_end, view_start, length-drop, Bool, ◌||◌}
use Rattle.documents.proofs.Common.{◌==◌, None, Option, Some, get_or, keyed-flags}
use Rattle.documents.proofs.PartsLaws.{Sits, anchors-there, cells-kept, characters-kept, sits}
use Rattle.std.specs.FinSet as set
use Rattle.text_model.specs.Content as model
use Rattle.text_index.specs.Views as view

-- where the view of a slot begins, and where it ends
abbrev pub start_in : Parts → ℕ → ℕ
start_in parts slot = unwrap_or (anchors_at parts.journal slot).start 0

abbrev pub end_in : Parts → ℕ → ℕ
end_in parts slot = unwrap_or (anchors_at parts.journal slot).end (length parts.content.cells)

pub counted : (content : Content) → length (model.characters content.cells) ≡ length content.cells
counted content = length-map content.cells (λ (cell : Cell). cell.character)

first-line : (text : List ℕ) (start : Option ℕ) → IfSome start (IsLineStart text) → IsLineStart text (unwrap_or start 0)
first-line text None anchored = is-start text 0 tt
first-line text (Some start) anchored = anchored

last-line : (text : List ℕ) (end : Option ℕ) (long : ℕ) → IfSome end (IsLineStart text) → IsLineStart text long →
    IsLineStart text (unwrap_or end long)
last-line text None long anchored ends = ends
last-line text (Some end) long anchored ends = anchored

-- whether the widget of a slot is disabled
pub flag-at : (flags_of : List Bool) (slot : ℕ) (found is : Bool) → slot < length flags_of →
    found ≡ slice_index_or flags_of slot found → found ≡ is → get_or flags_of slot false ≡ is
flag-at flags_of slot found is within read same = get_or_default flags_of slot false found within ∙ sym read ∙ same

pub part-length : {A : Type 0} (xs : List A) (start end : ℕ) → end ≤ length xs →
    length (slice_range xs start end) ≡ end - start
part-length xs start end within = length-take-le (end - start) (drop start xs) (omega (arith, length-drop start xs))

-- a part that ends at a place, or before it begins
pub part-past : {A : Type 0} (xs : List A) (from to past : ℕ) → past - from ≡ to - from →
    slice_range xs from past ≡ slice_range xs from to
part-past xs from to past count = ap (λ n. take n (drop from xs)) count

-- one element, or none at the end
pub part-one : {A : Type 0} (xs : List A) (at stop : ℕ) → stop ≡ min (at + 1) (length xs) →
    slice_range xs at stop ≡ slice_range xs at (suc at)
part-one xs at stop is =
    elim (cases_lt at (length xs)) [
      | inl before ↦ part-past xs at (suc at) stop (omega (arith, is, before))
      | inr past ↦
          ap (take (stop - at)) (drop_all at xs past) ∙ none (stop - at)
          ∙ sym (ap (take (suc at - at)) (drop_all at xs past) ∙ none (suc at - at))
    ]
  where
    none : {B : Type 0} (n : ℕ) → take {A = B} n [] ≡ []
    none zero = refl
    none (suc n) = refl

-- a document as it is kept, and one of its widgets with its slot
module _ (parts : Parts) (document : Document) (place slot : ℕ) (stands : Stands parts document)
    (sits : Sits parts document place slot) where
  abbrev widget : Widget
  widget = widget_at document place

  pub start-is : view_start widget ≡ start_in parts slot
  start-is = ap view_start sits.widget ∙ ap (start_in parts) sits.number

  pub end-is : view_end document widget ≡ end_in parts slot
  end-is =
      ap (view_end document) sits.widget
      ∙ ap (λ n. unwrap_or (anchors_at parts.journal n).end (length document.cells)) sits.number
      ∙ ap (unwrap_or (anchors_at parts.journal slot).end) (cells-kept parts document stands.is)

  -- whole lines of the text
  pub view-is : IsView (record { content = parts.content; start = start_in parts slot; end = end_in parts slot })
  view-is =
      let text : List ℕ = model.characters parts.content.cells in
      let long : length text ≡ length parts.content.cells = counted parts.content in
      let ends : IsLineStart text (length parts.content.cells) = subst (IsLineStart text) long
      (is-start text (length text) (text-end-begins text stands.sound.kept.text.newline)) in
      let behind = last-line text (anchors_at parts.journal slot).end (length parts.content.cells) sits.anchored.end ends
      in
      record {
        ordered = subst (λ n. start_in parts slot ≤ unwrap_or (anchors_at parts.journal slot).end n) long
            sits.anchored.ordered;
        fits = let within = behind.within in let short = stands.sound.kept.short in
            omega (arith, within, long, short);
        first = first-line text (anchors_at parts.journal slot).start sits.anchored.start;
        behind = behind;
      }

  pub ordered-is : start_in parts slot ≤ end_in parts slot
  ordered-is = view-is.ordered

  pub within-is : end_in parts slot ≤ length parts.content.cells
  within-is = let h = view-is.behind.within in omega (arith, h, counted parts.content)

  -- its characters
  pub shown-is : shown document widget ≡ view.shown (record { content = parts.content; start = start_in parts slot; end = end_in parts slot })
  shown-is =
      ap (λ text. slice_range text (view_start widget) (view_end document widget))
      (characters-kept parts document stands.is)
      ∙ ap₂ (slice_range (model.characters parts.content.cells)) start-is end-is

  pub shown-length : length (shown document widget) ≡ end_in parts slot - start_in parts slot
  shown-length =
      ap length shown-is ∙ part-length (model.characters parts.content.cells) (start_in parts slot) (end_in parts slot)
      (omega (arith, within-is, counted parts.content))

  -- which of its cells have the key of a name
  pub flags-is : (name : List ℕ) (tag : ℕ) → known_tags parts.tags.tags slot name ≡ Some tag
      → shown_flags document widget (key_named sits.seat.name name)
      ≡ view.shown_flags tag (record { content = parts.content; start = start_in parts slot; end = end_in parts slot })
  flags-is name tag known =
      let to_seat : known_tags parts.tags.tags sits.seat.number name
      ≡ Some tag = ap (λ n. known_tags parts.tags.tags n name) sits.number ∙ known in
      let key : Key = key_named sits.seat.name name in
      ap (λ (d : Document). slice_range (map (λ (cell : KeyedCell). set.contains cell.keys key) d.cells)
      (view_start widget) (view_end document widget)) (sym stands.is)
      ∙ ap (λ flags_of. slice_range flags_of (view_start widget) (view_end document widget))
      (sym (keyed-flags parts.seats.entries parts.tags stands.sound.kept.seats stands.sound.kept.tags place sits.seat
      sits.stands name tag to_seat parts.content.cells))
      ∙ ap₂ (slice_range (flags tag parts.content.cells)) start-is end-is

  -- whether its commands leave the text as it is
  pub idle-is : is_idle document widget ≡ (get_or parts.journal.disabled slot false
      || start_in parts slot == end_in parts slot)
  idle-is =
      ap₂ (λ a b. a || b) (ap (λ (w : Widget). w.disabled) sits.widget
      ∙ ap (λ n. get_or parts.journal.disabled n false) sits.number)
      (ap₂ (λ a b. a == b) start-is end-is)

  pub active-is : is_idle document widget ≡ false → (get_or parts.journal.disabled slot false ≡ false)
      × (start_in parts slot < end_in parts slot)
  active-is active =
      let both = or_parts (get_or parts.journal.disabled slot false) (start_in parts slot == end_in parts slot)
      (sym idle-is ∙ active) in (
        both.0,
        (let apart : start_in parts slot ≢ end_in parts slot = λ same.
            true≢false (sym (eq-eqb (start_in parts slot) (end_in parts slot) same) ∙ both.1) in
            omega (arith, ordered-is, apart)),
      )

-- a widget's view as it was found: where it begins and ends in a store
pub record IsSeen (parts : Parts) (document : Document) (place slot : ℕ) (content : Content) (first behind : ℕ) : Type 0
  where
    pub stands : Stands parts document
    pub sits : Sits parts document place slot
    pub held : content ≡ parts.content
    pub starts : first ≡ start_in parts slot
    pub ends : behind ≡ end_in parts slot

-- of a store that is at hand, where each end was found by itself
pub see-ends : {parts : Parts} {document : Document} {place slot first behind long : ℕ} {held kept : List Anchors} →
    Stands parts document → slice_get (numbers_of parts.seats.entries) place ≡ Some slot →
    held ≡ parts.journal.anchors → first ≡ unwrap_or (get_or held slot whole).start 0
    → kept ≡ parts.journal.anchors → long ≡ length parts.content.cells
    → behind ≡ unwrap_or (get_or kept slot whole).end long →
    IsSeen parts document place slot parts.content first behind
see-ends {place = place} {slot} stands number found start same counts end = record {
  stands = stands;
  sits = sits place stands number;
  held = refl;
  starts = start ∙ ap (λ anchors. unwrap_or (get_or anchors slot whole).start 0) found;
  ends = end ∙ ap₂ (λ anchors n. unwrap_or (get_or anchors slot whole).end n) same counts;
}

pub see : {parts : Parts} {document : Document} {place slot : ℕ} {content : Content} {first behind : ℕ}
    {anchors : List Anchors} → Stands parts document → slice_get (numbers_of parts.seats.entries) place ≡ Some slot →
    anchors ≡ parts.journal.anchors → first ≡ unwrap_or (get_or anchors slot whole).start 0
    → behind ≡ unwrap_or (get_or anchors slot whole).end (length parts.content.cells) → content ≡ parts.content →
    IsSeen parts document place slot content first behind
see {place = place} stands number found start end held =
    let ends = see-ends {place = place} stands number found start found refl end in
    record { stands = stands; sits = ends.sits; held = held; starts = ends.starts; ends = ends.ends }

-- the same of a view, by its part
pub see-part : {parts : Parts} {document : Document} {place slot : ℕ} {part : Part} {anchors : List Anchors} →
    Stands parts document → slice_get (numbers_of parts.seats.entries) place ≡ Some slot →
    anchors ≡ parts.journal.anchors → part ≡ part_between parts.content anchors slot →
    IsSeen parts document place slot part.content part.start part.end
see-part {place = place} stands number found is = see {place = place} stands number found
    (ap (λ (part : Part). part.start) is) (ap (λ (part : Part). part.end) is) (ap (λ (part : Part). part.content) is)

module _ {parts : Parts} {document : Document} {place slot : ℕ} {content : Content} {first behind : ℕ}
    (seen : IsSeen parts document place slot content first behind) where
  abbrev pub part : Part
  part = record { content = content; start = first; end = behind }

  pub part-found : part ≡ record { content = parts.content; start = start_in parts slot; end = end_in parts slot }
  part-found = λ i. record { content = seen.held i; start = seen.starts i; end = seen.ends i }

  pub view-found : IsView part
  view-found = subst IsView (sym part-found) (view-is parts document place slot seen.stands seen.sits)

  pub shown-found : view.shown part ≡ shown document (widget_at document place)
  shown-found = ap view.shown part-found
      ∙ sym (shown-is parts document place slot seen.stands seen.sits)

  -- how much of it is shown
  pub length-found : length (shown document (widget_at document place)) ≡ behind - first
  length-found = let h = shown-length parts document place slot seen.stands seen.sits in
      omega (arith, h, seen.starts, seen.ends)

  pub ordered-found : first ≤ behind
  ordered-found = let h = ordered-is parts document place slot seen.stands seen.sits in
      omega (arith, h, seen.starts, seen.ends)

  -- something, where its commands do anything
  pub active-found : is_idle document (widget_at document place) ≡ false → first < behind
  active-found active = let h = (active-is parts document place slot seen.stands seen.sits active).1 in
      omega (arith, h, seen.starts, seen.ends)

  -- where it ends in the text
  pub ends-found : behind ≤ length content.cells
  ends-found = let h = within-is parts document place slot seen.stands seen.sits in
      omega (arith, h, seen.ends, ap (λ (c : Content). length c.cells) seen.held)

  pub start-found-is : first ≡ view_start (widget_at document place)
  start-found-is = seen.starts ∙ sym (start-is parts document place slot seen.stands seen.sits)

  pub end-found-is : behind ≡ view_end document (widget_at document place)
  end-found-is = seen.ends ∙ sym (end-is parts document place slot seen.stands seen.sits)

-- what the view of a widget asks
pub view-there : {parts : Parts} {document : Document} {own : ℕ} {anchors : List Anchors} (place : ℕ)
    → Stands parts document → slice_get (numbers_of parts.seats.entries) place ≡ Some own
    → anchors ≡ parts.journal.anchors
    → record { slot : own < length anchors; lines : IsView (part_between parts.content anchors own) }
view-there place stands number found = record {
  slot = anchors-there place stands number found;
  lines = view-found (see-part {place = place} stands number found refl);
}
