-- No index stands for a place behind the end, and numbers up to the greatest that a machine has stand for every place.
use Rattle.text_index.proofs.Common.{Part, ◌≡◌, ◌≢◌, ℕ, zero, suc, ◌+◌, ◌-◌, ◌<◌, ◌≤◌, min, Bool, true, false, not}
use Rattle.text_index.proofs.Common.{List, [], ◌∷◌, length, map, take, drop, refl, sym, ap, ◌∙◌, arith, length-drop}
use Rattle.text_index.proofs.Common.{Option, Result, Ok, Err, option_and_then, nat_lt, nat_le, ◌&&◌, ◌==◌, slice_index}
use Rattle.text_index.proofs.Common.{if◌then◌else◌, prefix_len, suffix_len, false≢true, nat_tests, Decides-eqb}
use Rattle.text_index.proofs.Common.{length-take-le, prefix_len-le-length, lines, line_of, line_start-le}
use Rattle.text_index.proofs.Common.{lines-le-length, flags, IsView, shown, own_place, shared_place, shown_mark}
use Rattle.text_index.proofs.Common.{saturated_base, saturated_modifier, WholeIndex, newline_of, in_line, column_of}
use Rattle.text_index.proofs.Common.{on_line, line_value, unless_end, lines_back, word_front, word_behind, word_end}
use Rattle.text_index.proofs.Common.{modified, modified_by, or_fault, first_tagged, last_tagged, base_value}
use Rattle.text_index.proofs.Common.{then_modified, index_value, Meanings, AreWithin, value_of, shown_meanings}
use Rattle.text_index.proofs.Common.{IndexFault, BadIndex, Base, Some, None, Cell, is_word, length-map, shown_flags}
use Rattle.text_index.proofs.Common.{word_value, index_of, known_marks, known_tags, Mark, first_number, Tag}
use Rattle.text_index.proofs.Common.{saturated_index, Modifier, most}
use Rattle.text_index.proofs.FlagLaws.{length-shown_flags}
use Rattle.std.proofs.lemmas.List.Quantifiers.{position-Some}
use Rattle.text_model.specs.declared.places.Place.{Place}
use Rattle.text_index.proofs.ViewLaws.{length-shown}
use Rattle.index_grammar.specs.declared.indices.Unit.TheVariants.{Characters, Lines}
use Rattle.std.specs.FinMap as finite
use Rattle.index_grammar.specs.declared.indices.Base.TheVariants as base
use Rattle.index_grammar.specs.declared.indices.Modifier.TheVariants as modifier

-- ---- places in lines

newline_of-le : (line : ℕ) (text : List ℕ) → newline_of line text ≤ length text
newline_of-le line text = omega (arith, line_start-le text (suc line))

in_line-le : (line character : ℕ) (text : List ℕ) → in_line line character text ≤ length text
in_line-le line character text = omega (arith, newline_of-le line text)

in_line-saturated : (line character : ℕ) (text : List ℕ) → length text < most →
    in_line line (min most character) text ≡ in_line line character text
in_line-saturated line character text short = omega (arith, newline_of-le line text)

on_line-le : (line : ℕ) (text : List ℕ) (place : ℕ → ℕ) → ((k : ℕ) → place k ≤ length text) →
    on_line line text place ≤ length text
on_line-le zero text place within = omega arith
on_line-le (suc line) text place within =
    elim (nat_lt line (lines text)) as (λ b. (if b then place line else length text) ≤ length text) [
      | true ↦ within line
      | false ↦ omega arith
    ]

on_line-behind : (line : ℕ) (text : List ℕ) (place : ℕ → ℕ) → lines text < line → on_line line text place ≡ length text
on_line-behind zero text place behind = absurd (omega arith)
on_line-behind (suc line) text place behind =
    elim (nat_lt line (lines text)) as (λ b. nat_lt line (lines text) ≡ b →
    (if b then place line else length text) ≡ length text) [
      | true ↦ λ before. absurd (grind (arith, nat_tests))
      | false ↦ λ _. refl
    ] refl

-- a line above the greatest number is behind the last in any text
on_line-saturated : (line : ℕ) (text : List ℕ) (place : ℕ → ℕ) → length text < most →
    on_line (min most line) text place ≡ on_line line text place
on_line-saturated line text place short =
    elim (nat_lt most line) as (λ b. nat_lt most line ≡ b →
    on_line (min most line) text place ≡ on_line line text place) [
      | true ↦ λ above.
          let behind : most < line = grind (arith, nat_tests) in
          on_line-behind (min most line) text place (omega (arith, lines-le-length text))
          ∙ sym (on_line-behind line text place (omega (arith, lines-le-length text)))
      | false ↦ λ within.
          let up_to : line ≤ most = grind (arith, nat_tests) in
          ap (λ k. on_line k text place) (let e : min most line ≡ line = omega arith in e)
    ] refl

line_value-le : (line : ℕ) (character : Option ℕ) (text : List ℕ) → line_value line character text ≤ length text
line_value-le line (Some character) text =
    on_line-le line text (λ k. in_line k character text) (λ k. in_line-le k character text)
line_value-le line None text = on_line-le line text (λ k. newline_of k text) (λ k. newline_of-le k text)

at-saturated : (line character : ℕ) (text : List ℕ) → length text < most →
    line_value (min most line) (Some (min most character)) text ≡ line_value line (Some character) text
at-saturated line character text short =
    on_line-saturated line text (λ k. in_line k (min most character) text) short
    ∙ (λ i. on_line line text (λ k. in_line-saturated k character text short i))

end-saturated : (line : ℕ) (text : List ℕ) → length text < most →
    line_value (min most line) None text ≡ line_value line None text
end-saturated line text short = on_line-saturated line text (λ k. newline_of k text) short

-- ---- modifiers

line_of-le : (text : List ℕ) (place : ℕ) → place ≤ length text → line_of text place ≤ place
line_of-le text place within = omega (arith, lines-le-length (take place text), length-take-le place text within)

unless_end-le : (text : List ℕ) (place found : ℕ) → (place ≢ length text → found ≤ length text) →
    unless_end text place found ≤ length text
unless_end-le text place found within =
    elim (place == length text) as (λ b. place == length text ≡ b → (if b then length text else found) ≤ length text) [
      | true ↦ λ _. omega arith
      | false ↦ λ other. within (λ same. absurd (false≢true (sym other ∙ (Decides-eqb place (length text)).1 same)))
    ] refl

lines_back-le : (count : ℕ) (text : List ℕ) (place : ℕ) → lines_back count text place ≤ length text
lines_back-le count text place =
    let line : ℕ = line_of text place - count in
    elim (line == lines text) as (λ b. (if b then length text else in_line line (column_of text place) text)
    ≤ length text) [
      | true ↦ omega arith
      | false ↦ in_line-le line (column_of text place) text
    ]

word_front-le : (is_word : ℕ → Bool) (text : List ℕ) (place : ℕ) → place ≤ length text →
    word_front is_word text place ≤ length text
word_front-le is_word text place within =
    elim (is_word (slice_index text place)) as (λ b. (if b then place - suffix_len is_word (take place text) else place)
    ≤ length text) [
      | true ↦ omega arith
      | false ↦ within
    ]

word_behind-le : (is_word : ℕ → Bool) (text : List ℕ) (place : ℕ) → place < length text →
    word_behind is_word text place ≤ length text
word_behind-le is_word text place within =
    elim (is_word (slice_index text place)) as (λ b.
    (if b then place + prefix_len is_word (drop place text) else place + 1) ≤ length text) [
      | true ↦ omega (arith, prefix_len-le-length is_word (drop place text), length-drop place text)
      | false ↦ omega arith
    ]

word_end-le : (is_word : ℕ → Bool) (text : List ℕ) (place : ℕ) → place < length text →
    word_end is_word text place ≤ length text
word_end-le is_word text place within =
    elim (suc place == length text) as (λ b. (if b then place else word_behind is_word text place) ≤ length text) [
      | true ↦ omega arith
      | false ↦ word_behind-le is_word text place within
    ]

modified-le : (is_word : ℕ → Bool) (text : List ℕ) (place : ℕ) (step : Modifier) → place ≤ length text →
    modified is_word text place step ≤ length text
modified-le is_word text place (modifier.Forward Characters count) within = omega arith
modified-le is_word text place (modifier.Back Characters count) within = omega arith
modified-le is_word text place (modifier.Forward Lines count) within =
    unless_end-le text place _ (λ _. in_line-le _ (column_of text place) text)
modified-le is_word text place (modifier.Back Lines count) within = lines_back-le count text place
modified-le is_word text place modifier.LineStart within =
    unless_end-le text place _ (λ _. line_start-le text (line_of text place))
modified-le is_word text place modifier.LineEnd within =
    unless_end-le text place _ (λ _. newline_of-le (line_of text place) text)
modified-le is_word text place modifier.WordStart within =
    unless_end-le text place _ (λ _. word_front-le is_word text place within)
modified-le is_word text place modifier.WordEnd within =
    unless_end-le text place _ (λ other. word_end-le is_word text place (omega arith))

modified_by-le : (is_word : ℕ → Bool) (text : List ℕ) (steps : List Modifier) (place : ℕ) → place ≤ length text →
    modified_by is_word text steps place ≤ length text
modified_by-le is_word text [] place within = within
modified_by-le is_word text (step ∷ steps) place within =
    modified_by-le is_word text steps (modified is_word text place step) (modified-le is_word text place step within)

modified-saturated : (is_word : ℕ → Bool) (text : List ℕ) (place : ℕ) (step : Modifier) → length text < most →
    place ≤ length text
    → modified is_word text place (saturated_modifier step) ≡ modified is_word text place step
modified-saturated is_word text place (modifier.Forward Characters count) short within = omega arith
modified-saturated is_word text place (modifier.Back Characters count) short within = omega arith
modified-saturated is_word text place (modifier.Forward Lines count) short within =
    ap (λ k. unless_end text place (in_line k (column_of text place) text))
    (let e : min (line_of text place + min most count) (lines text - 1)
    ≡ min (line_of text place + count) (lines text - 1) = omega (arith, lines-le-length text) in e)
modified-saturated is_word text place (modifier.Back Lines count) short within =
    ap (λ k. if k == lines text then length text else in_line k (column_of text place) text)
    (let e : line_of text place - min most count ≡ line_of text place
    - count = omega (arith, line_of-le text place within) in e)
modified-saturated is_word text place modifier.LineStart short within = refl
modified-saturated is_word text place modifier.LineEnd short within = refl
modified-saturated is_word text place modifier.WordStart short within = refl
modified-saturated is_word text place modifier.WordEnd short within = refl

modified_by-saturated : (is_word : ℕ → Bool) (text : List ℕ) (steps : List Modifier) (place : ℕ) → length text < most →
    place ≤ length text
    → modified_by is_word text (map saturated_modifier steps) place ≡ modified_by is_word text steps place
modified_by-saturated is_word text [] place short within = refl
modified_by-saturated is_word text (step ∷ steps) place short within =
    ap (modified_by is_word text (map saturated_modifier steps))
    (modified-saturated is_word text place step short within)
    ∙ modified_by-saturated is_word text steps (modified is_word text place step) short
    (modified-le is_word text place step within)

-- ---- bases

base-saturated : (places : ℕ → Option ℕ) (flags : ℕ → List Bool) (text : List ℕ) (from : Base) → length text < most
    → base_value places flags text (saturated_base from) ≡ base_value places flags text from
base-saturated places flags text (base.At line character) short = ap Ok (at-saturated line character text short)
base-saturated places flags text (base.LineEnd line) short = ap Ok (end-saturated line text short)
base-saturated places flags text base.End short = refl
base-saturated places flags text (base.Mark number) short = refl
base-saturated places flags text (base.First slot len) short = refl
base-saturated places flags text (base.Last slot len) short = refl

-- what is found is within
abbrev IsBounded : List ℕ → Result ℕ IndexFault → Type 0
IsBounded text found = (place : ℕ) → found ≡ Ok place → place ≤ length text

bounded : (text : List ℕ) (place : ℕ) → place ≤ length text → IsBounded text (Ok place)
bounded text place within found is = let same : place ≡ found = cc in omega arith

or_fault-bounded : (text : List ℕ) (fault : IndexFault) (found : Option ℕ) →
    ((place : ℕ) → found ≡ Some place → place ≤ length text) → IsBounded text (or_fault fault found)
or_fault-bounded text fault None within place is = absurd (let h : Err fault ≡ Ok place = is in cc)
or_fault-bounded text fault (Some found) within place is = let same : found ≡ place = cc in within place (ap Some same)

first_tagged-le : (flags : List Bool) (place : ℕ) → first_tagged flags ≡ Some place → place ≤ length flags
first_tagged-le flags place is = omega (arith, (position-Some (λ b. b) flags place false is).0)

last_tagged-le : (flags : List Bool) (place : ℕ) → last_tagged flags ≡ Some place → place ≤ length flags
last_tagged-le flags place is =
    elim (nat_lt (suffix_len not flags) (length flags)) as (λ b.
    (if b then Some (length flags - suffix_len not flags) else None) ≡ Some place → place ≤ length flags) [
      | true ↦ λ there. let same : length flags - suffix_len not flags ≡ place = cc in omega arith
      | false ↦ λ none. absurd (let h : None ≡ Some place = none in cc)
    ] is

base-bounded : (meanings : Meanings) (text : List ℕ) (from : Base) → AreWithin meanings text →
    IsBounded text (base_value meanings.places meanings.flags text from)
base-bounded meanings text (base.At line character) within = bounded text _ (line_value-le line (Some character) text)
base-bounded meanings text (base.LineEnd line) within = bounded text _ (line_value-le line None text)
base-bounded meanings text base.End within = bounded text _ (omega arith)
base-bounded meanings text (base.Mark number) within = or_fault-bounded text _ _ (within.places number.0)
base-bounded meanings text (base.First slot len) within =
    or_fault-bounded text _ _ (λ place is. omega (
      arith,
      within.flags slot.0,
      first_tagged-le (meanings.flags slot.0) place is,
    ))
base-bounded meanings text (base.Last slot len) within =
    or_fault-bounded text _ _ (λ place is. omega (
      arith,
      within.flags slot.0,
      last_tagged-le (meanings.flags slot.0) place is,
    ))

-- ---- indices

then-saturated : (is_word : ℕ → Bool) (text : List ℕ) (steps : List Modifier) (from : Result ℕ IndexFault) →
    length text < most → IsBounded text from
    → then_modified is_word text (map saturated_modifier steps) from ≡ then_modified is_word text steps from
then-saturated is_word text steps (Err fault) short within = refl
then-saturated is_word text steps (Ok place) short within =
    ap Ok (modified_by-saturated is_word text steps place short (within place refl))

-- what is read of a word stands for the place that the word stands for
pub index_value-saturated : (is_word : ℕ → Bool) (meanings : Meanings) (text : List ℕ) (found : Option WholeIndex)
    (from : Base) (steps : List Modifier)
    → length text < most → AreWithin meanings text → saturated_index found ≡ Some (from, steps)
    → index_value is_word meanings.places meanings.flags text from steps ≡ value_of is_word meanings text found
index_value-saturated is_word meanings text None from steps short within is =
    absurd (let h : None ≡ Some (from, steps) = is in cc)
index_value-saturated is_word meanings text (Some index) from steps short within is =
    let pair : (saturated_base index.0, map saturated_modifier index.1) ≡ (from, steps) = cc in
    let first : saturated_base index.0 ≡ from = ap (λ (p : WholeIndex). p.0) pair in
    let rest : map saturated_modifier index.1 ≡ steps = ap (λ (p : WholeIndex). p.1) pair in
    (λ i. index_value is_word meanings.places meanings.flags text (sym first i) (sym rest i))
    ∙ ap (then_modified is_word text (map saturated_modifier index.1))
    (base-saturated meanings.places meanings.flags text index.0 short)
    ∙ then-saturated is_word text index.1 (base_value meanings.places meanings.flags text index.0) short
    (base-bounded meanings text index.0 within)

-- a word stands for no place behind the end
pub value_of-le : (is_word : ℕ → Bool) (meanings : Meanings) (text : List ℕ) (found : Option WholeIndex) →
    AreWithin meanings text
    → IsBounded text (value_of is_word meanings text found)
value_of-le is_word meanings text None within place is = absurd (let h : Err BadIndex ≡ Ok place = is in cc)
value_of-le is_word meanings text (Some index) within place is =
    elim (base_value meanings.places meanings.flags text index.0) as (λ r. IsBounded text r →
    then_modified is_word text index.1 r ≡ Ok place → place ≤ length text) [
      | Err fault ↦ λ _ none. absurd (let h : Err fault ≡ Ok place = none in cc)
      | Ok from ↦ λ bound there.
          let same : modified_by is_word text index.1 from ≡ place = cc in
          omega (arith, modified_by-le is_word text index.1 from (bound from refl))
    ] (base-bounded meanings text index.0 within) is

-- ---- what a view shows

pub own-within : (start end : ℕ) (place : Place) → own_place start end place ≤ end - start
own-within start end place = omega arith

pub shared-within : (start end : ℕ) (place : Place) (found : ℕ) → shared_place start end place ≡ Some found →
    found ≤ end - start
shared-within start end place found is =
    elim (nat_le start place.offset) as (λ b. (if b && nat_le place.offset end then Some (place.offset - start)
    else None) ≡ Some found → found ≤ end - start) [
      | false ↦ λ none. absurd (let h : None ≡ Some found = none in cc)
      | true ↦ elim (nat_le place.offset end) as (λ b. nat_le place.offset end ≡ b →
          (if b then Some (place.offset - start) else None) ≡ Some found → found ≤ end - start) [
            | false ↦ λ _ none. absurd (let h : None ≡ Some found = none in cc)
            | true ↦ λ before there.
                let within : place.offset ≤ end = grind (arith, nat_tests) in
                let same : place.offset - start ≡ found = cc in
                omega arith
          ] refl
    ] is

mark-within : (part : Part) (number found : ℕ) → shown_mark part number ≡ Some found → found ≤ part.end - part.start
mark-within part number found is =
    let start = part.start in
    let end = part.end in
    elim (finite.get part.content.marks number) as (λ o.
    option_and_then (λ place. if nat_lt number first_number then Some (own_place start end place)
    else shared_place start end place) o ≡ Some found → found ≤ end - start) [
      | None ↦ λ none. absurd (let h : None ≡ Some found = none in cc)
      | Some place ↦ elim (nat_lt number first_number) as (λ b.
          (if b then Some (own_place start end place) else shared_place start end place) ≡ Some found →
          found ≤ end - start) [
            | true ↦ λ there. let same : own_place start end place ≡ found = cc in
                omega (arith, own-within start end place)
            | false ↦ shared-within start end place found
          ]
    ] is

pub shown-within : (marks : List Mark) (tags : List Tag) (widget : ℕ) (part : Part) → IsView part
    → AreWithin (shown_meanings marks tags widget part) (shown part)
shown-within marks tags widget part view =
    let long = length-shown part view in
    record {
      places = λ number place is. omega (arith, mark-within part number place is);
      flags = λ slot. omega (arith, length-shown_flags part slot view);
    }

-- the value of an index that was read of a word is the place that the word stands for
pub value-found : (marks : List Mark) (tags : List Tag) (widget : ℕ) (part : Part) (word : List ℕ) (from : Base)
    (steps : List Modifier) (result : Result ℕ IndexFault) → IsView part → length part.content.cells < most
    → saturated_index (index_of (known_marks marks widget) (known_tags tags widget) word) ≡ Some (from, steps)
    → result ≡ index_value is_word (shown_mark part) (λ slot. shown_flags slot part) (shown part) from steps
    → result ≡ word_value is_word (shown_meanings marks tags widget part) (shown part) word
value-found marks tags widget part word from steps result view room read found =
    let short : length (shown part) < most = omega (
      arith,
      length-shown part view,
      view.behind.within,
      length-map part.content.cells (λ (cell : Cell). cell.character),
      room,
    ) in
    found ∙ index_value-saturated is_word (shown_meanings marks tags widget part) (shown part)
    (index_of (known_marks marks widget) (known_tags tags widget) word) from steps short
    (shown-within marks tags widget part view) read
