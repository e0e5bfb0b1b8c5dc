-- What names mean to a widget, and the places of its words.
use Rattle.documents.proofs.Common.{Part, ◌≡◌, ◌≢◌, ℕ, suc, [], ◌+◌, ◌-◌, ◌*◌, ◌<◌, ◌≤◌, true, false, List, refl, sym}
use Rattle.documents.proofs.Common.{ap, ◌∙◌, arith, inl, inr, slice_get, is_some, option_and_then, unwrap_or, codes}
use Rattle.documents.proofs.Common.{bytes_eq, nat_lt, if◌then◌else◌, position_from, false≢true, nat_tests, Bool, ap₂}
use Rattle.documents.proofs.Common.{Mark, get_or_from_slice_get, MOST_WIDGETS, Place, Content, SharedMarks}
use Rattle.documents.proofs.Common.{first_number, number_of, known_marks, known_tags, own_place, shared_place}
use Rattle.documents.proofs.Common.{shown_mark, is_word, MeanTheSame, shown_meanings, word_value, new_mark, index_fault}
use Rattle.documents.proofs.Common.{at_position, literal, is_same, found_tag, Document, Parts, SharedMark, Widget}
use Rattle.documents.proofs.Common.{mark_of, placed, widget_at, key_named, AreMarked, Stands, mark_number, mark_place}
use Rattle.documents.proofs.Common.{meanings, place_of, tag_flags, tag_number, Gives, shown, shown_flags, view_end}
use Rattle.documents.proofs.Common.{view_start, IfOk, Option, None, Some, Result, Ok, Err, option_map, get_or, ◌==◌}
use Rattle.documents.proofs.Common.{names_of}
use Rattle.std.specs.Str.{chars}
use Rattle.index_grammar.specs.declared.faults.IndexFault.{IndexFault}
use Rattle.text_index.proofs.MeaningLaws.{word_value-same}
use Rattle.documents.proofs.PartsLaws.{Sits}
use Rattle.documents.proofs.PlacedLaws.{found_mark, marked-there, there_is}
use Rattle.documents.proofs.ViewLaws.{IsSeen, end-is, end_in, flags-is, part-found, shown-is, start-is, start_in}
use Rattle.std.specs.FinMap as finite
use Rattle.index_grammar.specs.declared.faults.IndexFault.TheVariants as index
use Rattle.text_index.specs.Views as view

pub insert_bytes : literal "insert" ≡ codes "insert"
unfolding chars
insert_bytes = refl

pub current_bytes : literal "current" ≡ codes "current"
unfolding chars
current_bytes = refl

-- ---- marks

-- the number that a name has, by whether it is `insert` or `current`
abbrev pub number_by : List Mark → ℕ → List ℕ → Bool → Bool → Option ℕ
number_by marks slot word insert current =
    if insert then Some (2 * slot) else (if current then Some (2 * slot + 1) else number_of word marks)

pub known-is : (marks : List Mark) (slot : ℕ) (word : List ℕ) → known_marks marks slot word
    ≡ number_by marks slot word (is_same word (literal "insert")) (is_same word (literal "current"))
known-is marks slot word =
    ap₂ (λ v w. number_by marks slot word (bytes_eq word v) (bytes_eq word w)) (sym insert_bytes) (sym current_bytes)

-- the two marks of a widget's own
module _ (parts : Parts) (document : Document) (place slot : ℕ) (sits : Sits parts document place slot) where
  pub insert-there : finite.get parts.content.marks (2 * slot) ≡ Some (widget_at document place).insert
  insert-there =
      there_is (finite.get parts.content.marks (2 * slot)) sits.insert
      ∙ ap Some (ap (λ n. mark_of parts.content.marks (2 * n)) (sym sits.number)
      ∙ ap (λ (w : Widget). w.insert) (sym sits.widget))

  pub current-there : finite.get parts.content.marks (2 * slot + 1) ≡ Some (widget_at document place).current
  current-there =
      there_is (finite.get parts.content.marks (2 * slot + 1)) sits.current
      ∙ ap Some (ap (λ n. mark_of parts.content.marks (2 * n + 1)) (sym sits.number)
      ∙ ap (λ (w : Widget). w.current) (sym sits.widget))

own-shown : (start end number : ℕ) (found : Option Place) → nat_lt number first_number ≡ true → is_some found ≡ true
    → option_and_then (λ place. if nat_lt number first_number then Some (own_place start end place)
    else shared_place start end place) found ≡ Some (own_place start end (unwrap_or found new_mark))
own-shown start end number None own there = absurd (false≢true there)
own-shown start end number (Some place) own there =
    ap (λ b. if b then Some (own_place start end place) else shared_place start end place) own

shared-shown : (start end number : ℕ) (found : Option Place) → nat_lt number first_number ≡ false → is_some found ≡ true
    → option_and_then (λ place. if nat_lt number first_number then Some (own_place start end place)
    else shared_place start end place) found ≡ shared_place start end (unwrap_or found new_mark)
shared-shown start end number None other there = absurd (false≢true there)
shared-shown start end number (Some place) other there =
    ap (λ b. if b then Some (own_place start end place) else shared_place start end place) other

-- a shared mark is shown by its number as it is by its place among the shared ones
shared-same : (content : Content) (table : SharedMarks) (start end : ℕ) (word : List ℕ) → AreMarked table content.marks
    → option_map (shown_mark (record { content = content; start = start; end = end })) (number_of word table.marks)
    ≡ option_map (λ k. option_and_then (λ (mark : SharedMark). shared_place start end mark.place)
    (slice_get (placed content.marks table.marks) k))
    (position_from (λ (mark : SharedMark). is_same word mark.name) 0 (placed content.marks table.marks))
shared-same content table start end word marked =
    let P : Option ℕ → Option (Option ℕ) = option_map (λ k.
    option_and_then (λ (mark : SharedMark). shared_place start end mark.place)
    (slice_get (placed content.marks table.marks) k)) in
    elim (found_mark content.marks word table.marks 0 marked.each) [
      | inl none ↦ ap (option_map (shown_mark (record { content = content; start = start; end = end }))) none.0 ∙ sym (ap P none.1)
      | inr there ↦
          let number = there.mark.number in
          let least : first_number ≤ number = (marked.marks.numbers there.place number there.numbered).0 in
          let other : nat_lt number first_number ≡ false = grind (arith, nat_tests) in
          ap (option_map (shown_mark (record { content = content; start = start; end = end }))) there.number
          ∙ ap Some (shared-shown start end number (finite.get content.marks number) other
          (marked-there content.marks there.mark there.marked)
          ∙ sym (ap (option_and_then (λ (mark : SharedMark). shared_place start end mark.place)) there.stands))
          ∙ sym (ap P (there.found ∙ ap Some (let h : 0 + there.place ≡ there.place = omega arith in h)))
    ]

own-first : (slot : ℕ) → slot < MOST_WIDGETS → nat_lt (2 * slot) first_number ≡ true
own-first slot below = grind (arith, nat_tests)

own-second : (slot : ℕ) → slot < MOST_WIDGETS → nat_lt (2 * slot + 1) first_number ≡ true
own-second slot below = grind (arith, nat_tests)

twice : (found : Option ℕ) (f : ℕ → Option ℕ) → option_map (λ k. f (suc (suc k))) found
    ≡ option_map f (option_map (λ k. suc (suc k)) found)
twice None f = refl
twice (Some k) f = refl

-- a document as it is kept, and one of its widgets with its slot
module _ (parts : Parts) (document : Document) (place slot : ℕ) (stands : Stands parts document)
    (sits : Sits parts document place slot) where
  abbrev widget : Widget
  widget = widget_at document place

  abbrev start : ℕ
  start = start_in parts slot

  abbrev end : ℕ
  end = end_in parts slot

  abbrev part : Part
  part = record { content = parts.content; start = start; end = end }

  -- the two marks of its own
  pub insert-is : widget.insert ≡ mark_of parts.content.marks (2 * slot)
  insert-is = ap (λ (w : Widget). w.insert) sits.widget ∙ ap (λ n. mark_of parts.content.marks (2 * n)) sits.number

  pub current-is : widget.current ≡ mark_of parts.content.marks (2 * slot + 1)
  current-is =
      ap (λ (w : Widget). w.current) sits.widget ∙ ap (λ n. mark_of parts.content.marks (2 * n + 1)) sits.number

  pub insert-shown : shown_mark part (2 * slot)
      ≡ Some (own_place (view_start widget) (view_end document widget) widget.insert)
  insert-shown =
      own-shown start end (2 * slot) (finite.get parts.content.marks (2 * slot)) (own-first slot sits.below) sits.insert
      ∙ sym (λ i. Some (own_place (start-is parts document place slot stands sits i)
      (end-is parts document place slot stands sits i) (insert-is i)))

  pub current-shown : shown_mark part (2 * slot + 1)
      ≡ Some (own_place (view_start widget) (view_end document widget) widget.current)
  current-shown =
      own-shown start end (2 * slot + 1) (finite.get parts.content.marks (2 * slot + 1)) (own-second slot sits.below)
      sits.current
      ∙ sym (λ i. Some (own_place (start-is parts document place slot stands sits i)
      (end-is parts document place slot stands sits i) (current-is i)))

  shared-shown-is : (word : List ℕ) → option_map (shown_mark part) (number_of word parts.marks.marks)
      ≡ option_map (mark_place document widget)
      (option_map (λ k. suc (suc k)) (position_from (λ (mark : SharedMark). is_same word mark.name) 0
      document.marks))
  shared-shown-is word =
      shared-same parts.content parts.marks start end word stands.sound.marked
      ∙ sym (λ i. option_map (λ k. option_and_then (λ (mark : SharedMark).
      shared_place (start-is parts document place slot stands sits i)
      (end-is parts document place slot stands sits i) mark.place) (slice_get (sym stands.is i).marks k))
      (position_from (λ (mark : SharedMark). is_same word mark.name) 0 (sym stands.is i).marks))
      ∙ twice (position_from (λ (mark : SharedMark). is_same word mark.name) 0 document.marks)
      (mark_place document widget)

  pub marks-mean : (word : List ℕ) → option_map (shown_mark part)
      (known_marks parts.marks.marks slot word) ≡ option_map (mark_place document widget) (mark_number document word)
  marks-mean word =
      ap (option_map (shown_mark part)) (known-is parts.marks.marks slot word)
      ∙ by (is_same word (literal "insert")) (is_same word (literal "current"))
    where
      by : (insert current : Bool) → option_map (shown_mark part)
          (number_by parts.marks.marks slot word insert current)
          ≡ option_map (mark_place document widget) (if insert then Some 0
          else (if current then Some 1
          else option_map (λ k. suc (suc k))
          (position_from (λ (mark : SharedMark). is_same word mark.name) 0 document.marks)))
      by true current = ap Some insert-shown
      by false true = ap Some current-shown
      by false false = shared-shown-is word

  pub name-is : widget.name ≡ sits.seat.name
  name-is = ap (λ (w : Widget). w.name) sits.widget

  pub tags-mean : (word : List ℕ) → option_map (λ tag. view.shown_flags tag part)
      (known_tags parts.tags.tags slot word) ≡ option_map (tag_flags document widget) (tag_number document word)
  tags-mean word =
      let flags_so : Option ℕ → Option _ = option_map (λ tag. view.shown_flags tag part) in
      let known_so : Option ℕ → Option ℕ = option_map (λ tag. if tag == 0 then slot else tag) in
      let names : List (List ℕ) = names_of parts.tags.tags in
      let tags : document.tags ≡ names = ap (λ (d : Document). d.tags) (sym stands.is) in
      elim (found_tag word parts.tags.tags 0) [
        | inl none ↦ ap (λ found. flags_so (known_so found)) none.0
            ∙ sym (ap (λ ts. option_map (tag_flags document widget) (position_from (is_same word) 0 ts)) tags
            ∙ ap (option_map (tag_flags document widget)) none.1)
        | inr there ↦
            let tag : ℕ = if there.tag_slot == 0 then slot else there.tag_slot in
            ap (λ found. flags_so (known_so found)) there.slot
            ∙ ap Some (sym (flags-is parts document place slot stands sits word tag (ap known_so there.slot)))
            ∙ ap (λ n. Some (shown_flags document widget (key_named n word))) (sym name-is)
            ∙ ap (λ w. Some (shown_flags document widget (key_named widget.name w)))
            (sym (ap (λ ts. get_or ts there.place []) tags
            ∙ get_or_from_slice_get names there.place word [] there.named))
            ∙ sym (ap (λ ts. option_map (tag_flags document widget) (position_from (is_same word) 0 ts)) tags
            ∙ ap (option_map (tag_flags document widget)) (there.found
            ∙ ap Some (let h : 0 + there.place ≡ there.place = omega arith in h)))
      ]

  pub meanings-same : MeanTheSame (shown_meanings parts.marks.marks parts.tags.tags slot part)
      (meanings document widget)
  meanings-same = record { marks = marks-mean; tags = tags-mean }

  -- the place of a word is the one of the definition
  pub place-is : (word : List ℕ)
      → word_value is_word (shown_meanings parts.marks.marks parts.tags.tags slot part)
      (view.shown part) word ≡ place_of document widget word
  place-is word =
      ap (λ text. word_value is_word (shown_meanings parts.marks.marks parts.tags.tags slot part)
      text word) (sym (shown-is parts document place slot stands sits))
      ∙ word_value-same is_word _ _ (shown document widget) word meanings-same

pub place-found : {parts : Parts} {document : Document} {place slot : ℕ} {content : Content} {first behind : ℕ}
    (word : List ℕ) → IsSeen parts document place slot content first behind
    → word_value is_word (shown_meanings parts.marks.marks parts.tags.tags slot (record {
      content = content;
      start = first;
      end = behind;
    })) (view.shown (record { content = content; start = first; end = behind })) word
    ≡ place_of document (widget_at document place) word
place-found {parts} {document} {place} {slot} word seen =
    ap (λ (part : Part). word_value is_word (shown_meanings parts.marks.marks parts.tags.tags slot part) (view.shown part)
    word) (part-found seen)
    ∙ place-is parts document place slot seen.stands seen.sits word

-- want of memory is want of memory
pub gives-place : (position : ℕ) (found defined : Result ℕ IndexFault) → (found ≢ Err index.Memory → found ≡ defined) →
    Gives (at_position position found) (at_position position defined)
gives-place position (Ok place) defined same other =
    ap (at_position position) (same (λ is. let h : Ok place ≡ Err index.Memory = is in absurd (cc)))
gives-place position (Err fault) defined same other =
    ap (at_position position) (same (λ is. let h : fault ≡ index.Memory = cc in
    other (ap (λ f. Err (index_fault position f)) h)))

-- a place that is found within a view is within what it shows
pub found-within : (found : Result ℕ IndexFault) (first behind long : ℕ) → long ≡ behind - first →
    IfOk found (λ at. first + at ≤ behind) → IfOk found (λ at. at ≤ long)
found-within (Ok at) first behind long is within = omega (arith, is, within)
found-within (Err fault) first behind long is within = tt
