-- A word's place hangs on what its names mean, not on their numbers.
use Rattle.text_index.proofs.Common.{◌≡◌, ℕ, zero, suc, Bool, true, false, List, length, take, drop, refl, sym, ap, ◌∙◌}
use Rattle.text_index.proofs.Common.{Option, Result, option_map, option_and_then, bytes_eq, codes, encode_utf8_all}
use Rattle.text_index.proofs.Common.{nat_eq, ◌==◌, position, if◌then◌else◌, ends_with, place_of, around_dot, number_of}
use Rattle.text_index.proofs.Common.{place_base, token, of_length, longest, closed_front, longest_front, marked, tagged}
use Rattle.text_index.proofs.Common.{without_last, base_of, modifiers_of, tokens_of, WholeIndex, base_value, or_fault}
use Rattle.text_index.proofs.Common.{then_modified, Meanings, MeanTheSame, value_of, word_value, IndexFault, BadIndex}
use Rattle.text_index.proofs.Common.{NoTaggedCharacters, Base, Some, None}
use Rattle.std.specs.Option.{option_or}
use Rattle.index_grammar.specs.Characters.{closes}
use Rattle.index_grammar.specs.Grammar.{in_line, first_tagged, last_tagged}
use Rattle.text_index.specs.Values as values
use Rattle.index_grammar.specs.declared.indices.Base.TheVariants as base

abbrev Value : Type 0
Value = Result ℕ IndexFault

abbrev meant : Meanings → List ℕ → Base → Value
meant meanings text found = base_value meanings.places meanings.flags text found

abbrev with_length : (Base → Value) → Base × ℕ → Value × ℕ
with_length value found = (value found.0, found.1)

-- ---- longest fronts

or-map : {A B : Type 0} (f : A → B) (a b : Option A) → option_map f (option_or a b)
    ≡ option_or (option_map f a) (option_map f b)
or-map f None b = refl
or-map f (Some x) b = refl

longest-map : {A B : Type 0} (f : A → B) (found : ℕ → Option A) (count : ℕ) →
    option_map f (longest found count) ≡ longest (λ k. option_map f (found k)) count
longest-map f found zero = refl
longest-map f found (suc count) = or-map f (found (suc count)) (longest found count)
    ∙ ap (option_or (option_map f (found (suc count)))) (longest-map f found count)

-- the same value, with the same length
long-same : (one other : Base → Value) (count : ℕ) (a b : Option Base) → option_map one a ≡ option_map other b
    → option_map (with_length one) (option_map (of_length count) a)
    ≡ option_map (with_length other) (option_map (of_length count) b)
long-same one other count None None same = refl
long-same one other count None (Some y) same = absurd (let h : None ≡ Some (other y) = same in cc)
long-same one other count (Some x) None same = absurd (let h : Some (one x) ≡ None = same in cc)
long-same one other count (Some x) (Some y) same = let h : one x ≡ other y = cc in ap (λ v. Some (v, count)) h

closed-same : (one other : Base → Value) (named known : List ℕ → Option Base) →
    ((front : List ℕ) → option_map one (named front) ≡ option_map other (known front))
    → (text : List ℕ) (count : ℕ) → option_map (with_length one) (closed_front named text count)
    ≡ option_map (with_length other) (closed_front known text count)
closed-same one other named known same text count =
    elim (closes (drop count text)) as (λ b. option_map (with_length one) (if b
    then option_map (of_length count) (named (take count text)) else None)
    ≡ option_map (with_length other) (if b then option_map (of_length count) (known (take count text)) else None)) [
      | true ↦ long-same one other count (named (take count text)) (known (take count text)) (same (take count text))
      | false ↦ refl
    ]

front-same : (one other : Base → Value) (named known : List ℕ → Option Base) →
    ((front : List ℕ) → option_map one (named front) ≡ option_map other (known front))
    → (text : List ℕ) → option_map (with_length one) (longest_front named text)
    ≡ option_map (with_length other) (longest_front known text)
front-same one other named known same text =
    longest-map (with_length one) (closed_front named text) (length text)
    ∙ (λ i. longest (λ k. closed-same one other named known same text k i) (length text))
    ∙ sym (longest-map (with_length other) (closed_front known text) (length text))

-- ---- names

marked-same : (one other : Meanings) (text : List ℕ) (a b : Option ℕ) →
    option_map one.places a ≡ option_map other.places b
    → option_map (meant one text) (option_map (λ number. base.Mark (record { 0 = number })) a)
    ≡ option_map (meant other text) (option_map (λ number. base.Mark (record { 0 = number })) b)
marked-same one other text None None same = refl
marked-same one other text None (Some m) same = absurd (let h : None ≡ Some (other.places m) = same in cc)
marked-same one other text (Some n) None same = absurd (let h : Some (one.places n) ≡ None = same in cc)
marked-same one other text (Some n) (Some m) same =
    let h : one.places n ≡ other.places m = cc in
    ap (λ p. Some (or_fault BadIndex p)) h

first-same : (one other : Meanings) (text name : List ℕ) (a b : Option ℕ) →
    option_map one.flags a ≡ option_map other.flags b
    → option_map (meant one text) (option_map (first_tagged name) a)
    ≡ option_map (meant other text) (option_map (first_tagged name) b)
first-same one other text name None None same = refl
first-same one other text name None (Some m) same = absurd (let h : None ≡ Some (other.flags m) = same in cc)
first-same one other text name (Some n) None same = absurd (let h : Some (one.flags n) ≡ None = same in cc)
first-same one other text name (Some n) (Some m) same =
    let h : one.flags n ≡ other.flags m = cc in
    ap (λ fs. Some (or_fault (NoTaggedCharacters (length (encode_utf8_all name))) (values.first_tagged fs))) h

last-same : (one other : Meanings) (text name : List ℕ) (a b : Option ℕ) →
    option_map one.flags a ≡ option_map other.flags b
    → option_map (meant one text) (option_map (last_tagged name) a)
    ≡ option_map (meant other text) (option_map (last_tagged name) b)
last-same one other text name None None same = refl
last-same one other text name None (Some m) same = absurd (let h : None ≡ Some (other.flags m) = same in cc)
last-same one other text name (Some n) None same = absurd (let h : Some (one.flags n) ≡ None = same in cc)
last-same one other text name (Some n) (Some m) same =
    let h : one.flags n ≡ other.flags m = cc in
    ap (λ fs. Some (or_fault (NoTaggedCharacters (length (encode_utf8_all name))) (values.last_tagged fs))) h

tagged-same : (one other : Meanings) (text : List ℕ) → MeanTheSame one other → (front : List ℕ)
    → option_map (meant one text) (tagged one.tags front) ≡ option_map (meant other text) (tagged other.tags front)
tagged-same one other text same front =
    let of_first : List ℕ = without_last 6 front in
    let of_last : List ℕ = without_last 5 front in
    elim (ends_with nat_eq front (codes ".first")) as (λ b.
    option_map (meant one text) (if b then option_map (first_tagged of_first) (one.tags of_first)
    else (if ends_with nat_eq front (codes ".last") then option_map (last_tagged of_last) (one.tags of_last) else None))
    ≡ option_map (meant other text) (if b then option_map (first_tagged of_first) (other.tags of_first)
    else (if ends_with nat_eq front (codes ".last") then option_map (last_tagged of_last) (other.tags of_last)
    else None))) [
      | true ↦ first-same one other text of_first (one.tags of_first) (other.tags of_first) (same.tags of_first)
      | false ↦ elim (ends_with nat_eq front (codes ".last")) as (λ b.
          option_map (meant one text) (if b then option_map (last_tagged of_last) (one.tags of_last) else None)
          ≡ option_map (meant other text) (if b then option_map (last_tagged of_last) (other.tags of_last) else None)) [
            | true ↦ last-same one other text of_last (one.tags of_last) (other.tags of_last) (same.tags of_last)
            | false ↦ refl
          ]
    ]

-- ---- places in lines have no names in them

in_line-same : (one other : Meanings) (text : List ℕ) (line : ℕ) (rest : List ℕ) →
    option_map (meant one text) (in_line line rest) ≡ option_map (meant other text) (in_line line rest)
in_line-same one other text line rest =
    elim (bytes_eq rest (codes "end")) as (λ b. option_map (meant one text) (if b then Some (base.LineEnd line)
    else option_map (base.At line) (number_of rest))
    ≡ option_map (meant other text) (if b then Some (base.LineEnd line)
    else option_map (base.At line) (number_of rest))) [
      | true ↦ refl
      | false ↦ elim (number_of rest) as (λ o. option_map (meant one text) (option_map (base.At line) o)
          ≡ option_map (meant other text) (option_map (base.At line) o)) [
            | None ↦ refl
            | Some n ↦ refl
          ]
    ]

around-same : (one other : Meanings) (text word : List ℕ) (dot : Option ℕ) →
    option_map (meant one text) (around_dot word dot) ≡ option_map (meant other text) (around_dot word dot)
around-same one other text word None = refl
around-same one other text word (Some dot) =
    elim (number_of (take dot word)) as (λ o.
    option_map (meant one text) (option_and_then (λ line. in_line line (drop (suc dot) word)) o)
    ≡ option_map (meant other text) (option_and_then (λ line. in_line line (drop (suc dot) word)) o)) [
      | None ↦ refl
      | Some line ↦ in_line-same one other text line (drop (suc dot) word)
    ]

place-same : (one other : Meanings) (text word : List ℕ) →
    option_map (meant one text) (place_of word) ≡ option_map (meant other text) (place_of word)
place-same one other text word =
    elim (bytes_eq word (codes "end")) as (λ b. option_map (meant one text) (if b then Some base.End
    else around_dot word (position (λ c. c == 46) word))
    ≡ option_map (meant other text) (if b then Some base.End else around_dot word (position (λ c. c == 46) word))) [
      | true ↦ refl
      | false ↦ around-same one other text word (position (λ c. c == 46) word)
    ]

-- ---- indices

base-same : (one other : Meanings) (text : List ℕ) → MeanTheSame one other → (word : List ℕ)
    → option_map (with_length (meant one text)) (base_of one.marks one.tags word)
    ≡ option_map (with_length (meant other text)) (base_of other.marks other.tags word)
base-same one other text same word =
    let f : Base → Value = meant one text in
    let g : Base → Value = meant other text in
    let places = long-same f g (length (token word)) (place_of (token word)) (place_of (token word))
    (place-same one other text (token word)) in
    let marks = front-same f g (marked one.marks) (marked other.marks) (λ front.
    marked-same one other text (one.marks front) (other.marks front) (same.marks front)) word in
    let tags = front-same f g (tagged one.tags) (tagged other.tags) (tagged-same one other text same) word in
    or-map (with_length f) (place_base word)
    (option_or (longest_front (marked one.marks) word) (longest_front (tagged one.tags) word))
    ∙ ap (option_or (option_map (with_length f) (place_base word)))
    (or-map (with_length f) (longest_front (marked one.marks) word) (longest_front (tagged one.tags) word))
    ∙ (λ i. option_or (places i) (option_or (marks i) (tags i)))
    ∙ sym (or-map (with_length g) (place_base word)
    (option_or (longest_front (marked other.marks) word) (longest_front (tagged other.tags) word))
    ∙ ap (option_or (option_map (with_length g) (place_base word)))
    (or-map (with_length g) (longest_front (marked other.marks) word) (longest_front (tagged other.tags) word)))

abbrev steps_behind : List ℕ → Base × ℕ → Option WholeIndex
steps_behind word found = option_map (λ modifiers. (found.0, modifiers)) (modifiers_of (tokens_of (drop found.1 word)))

found-same : (is_word : ℕ → Bool) (one other : Meanings) (text word : List ℕ) (a b : Option (Base × ℕ))
    → option_map (with_length (meant one text)) a ≡ option_map (with_length (meant other text)) b
    → value_of is_word one text (option_and_then (steps_behind word) a)
    ≡ value_of is_word other text (option_and_then (steps_behind word) b)
found-same is_word one other text word None None same = refl
found-same is_word one other text word None (Some y) same =
    absurd (let h : None ≡ Some (with_length (meant other text) y) = same in cc)
found-same is_word one other text word (Some x) None same =
    absurd (let h : Some (with_length (meant one text) x) ≡ None = same in cc)
found-same is_word one other text word (Some x) (Some y) same =
    let pair : with_length (meant one text) x ≡ with_length (meant other text) y = cc in
    let value : meant one text x.0 ≡ meant other text y.0 = ap (λ (p : Value × ℕ). p.0) pair in
    let long : x.1 ≡ y.1 = ap (λ (p : Value × ℕ). p.1) pair in
    ap (λ k. value_of is_word one text (option_map (λ ms. (x.0, ms)) (modifiers_of (tokens_of (drop k word))))) long
    ∙ elim (modifiers_of (tokens_of (drop y.1 word))) as (λ o.
    value_of is_word one text (option_map (λ ms. (x.0, ms)) o)
    ≡ value_of is_word other text (option_map (λ ms. (y.0, ms)) o)) [
      | None ↦ refl
      | Some modifiers ↦ ap (then_modified is_word text modifiers) value
    ]

-- a word has the same place where each name means the same
pub word_value-same : (is_word : ℕ → Bool) (one other : Meanings) (text word : List ℕ) → MeanTheSame one other →
    word_value is_word one text word ≡ word_value is_word other text word
word_value-same is_word one other text word same =
    found-same is_word one other text word (base_of one.marks one.tags word) (base_of other.marks other.tags word)
    (base-same one other text same word)
