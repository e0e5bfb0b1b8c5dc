-- The first and the last of the shared marks at one offset, mark by mark.
use Rattle.mark_table.proofs.Common.{◌≡◌, ℕ, ◌+◌, ◌-◌, ◌<◌, ◌≤◌, max, min, nat_lt, Option, None, Some, List, length}
use Rattle.mark_table.proofs.Common.{slice_get, sym, ap, ◌∙◌, subst, inl, inr, arith, lt-ltb, le-ltb, MatchOption}
use Rattle.mark_table.proofs.Common.{SomeIff, cases_lt, cases_eq, none-some, same_Some, slice_get-get_or}
use Rattle.mark_table.proofs.Common.{slice_get_within, MarkNo, IsAt, IsFirstAt, IsLastAt}
use Rattle.std.specs.Bool.{then_some}

-- a place that is found so far, if it is one, and that it is the least
abbrev pub Found : List MarkNo → List ℕ → ℕ → ℕ → ℕ → Type 0
Found at numbers from len first = first < len → (from ≤ first) × IsAt at numbers first

abbrev pub Least : List MarkNo → List ℕ → ℕ → ℕ → ℕ → Type 0
Least at numbers from first upto = (index place : ℕ) (number : MarkNo) → index < upto →
    slice_get at index ≡ Some number → slice_get numbers place ≡ Some number.0 → from ≤ place → first ≤ place

abbrev pub Greatest : List MarkNo → List ℕ → ℕ → ℕ → ℕ → Type 0
Greatest at numbers before places upto = (index place : ℕ) (number : MarkNo) → index < upto →
    slice_get at index ≡ Some number → slice_get numbers place ≡ Some number.0 → place < before → place < places

pub Found-more : (at : List MarkNo) (numbers : List ℕ) (from len first found index : ℕ) (number : MarkNo) →
    slice_get at index ≡ Some number → Found at numbers from len first
    → (found < len → (from ≤ found) × (slice_get numbers found ≡ Some number.0)) →
    Found at numbers from len (min first found)
Found-more at numbers from len first found index number is old new = λ within. elim (cases_lt found first) [
  | inl below ↦ let e : min first found ≡ found = omega arith in let h = new (omega arith) in let low = h.0 in
      (omega arith, (index, number, is, ap (slice_get numbers) e ∙ h.1))
  | inr above ↦ let e : min first found ≡ first = omega arith in let h = old (omega arith) in let low = h.0 in
      (omega arith, (h.1.0, h.1.1, h.1.2, ap (slice_get numbers) e ∙ h.1.3))
]

pub Least-more : (at : List MarkNo) (numbers : List ℕ) (from first found index : ℕ) (number : MarkNo) →
    slice_get at index ≡ Some number → Least at numbers from first index
    → ((place : ℕ) → slice_get numbers place ≡ Some number.0 → from ≤ place → found ≤ place) →
    Least at numbers from (min first found) (index + 1)
Least-more at numbers from first found index number is old new =
    λ i place other below told stands low. elim (cases_eq i index) [
      | inl same ↦
          let one = same_Some other number (sym told ∙ ap (slice_get at) same ∙ is) in
          let h = new place (stands ∙ ap (λ (n : MarkNo). Some n.0) one) low in omega arith
      | inr apart ↦ let h = old i place other (omega arith) told stands low in omega arith
    ]

pub FoundBack-more : (at : List MarkNo) (numbers : List ℕ) (upto places found index : ℕ) (number : MarkNo)
    → slice_get at index ≡ Some number
    → (0 < places → (places ≤ upto) × IsAt at numbers (places - 1))
    → (0 < found → (found ≤ upto) × (slice_get numbers (found - 1) ≡ Some number.0))
    → 0 < max places found
    → (max places found ≤ upto) × IsAt at numbers (max places found - 1)
FoundBack-more at numbers upto places found index number is old new some = elim (cases_lt places found) [
  | inl above ↦ let e : max places found - 1 ≡ found - 1 = omega arith in let h = new (omega arith) in let high = h.0 in
      (omega arith, (index, number, is, ap (slice_get numbers) e ∙ h.1))
  | inr below ↦ let e : max places found - 1 ≡ places - 1 = omega arith in let h = old (omega arith) in
      let high = h.0 in (omega arith, (h.1.0, h.1.1, h.1.2, ap (slice_get numbers) e ∙ h.1.3))
]

pub Greatest-more : (at : List MarkNo) (numbers : List ℕ) (upto places found index : ℕ) (number : MarkNo)
    → slice_get at index ≡ Some number → Greatest at numbers upto places index
    → ((place : ℕ) → slice_get numbers place ≡ Some number.0 → place < upto → place < found)
    → Greatest at numbers upto (max places found) (index + 1)
Greatest-more at numbers upto places found index number is old new =
    λ i place other below told stands low. elim (cases_eq i index) [
      | inl same ↦
          let one = same_Some other number (sym told ∙ ap (slice_get at) same ∙ is) in
          let h = new place (stands ∙ ap (λ (n : MarkNo). Some n.0) one) low in omega arith
      | inr apart ↦ let h = old i place other (omega arith) told stands low in omega arith
    ]

past_end : (at : List MarkNo) (index : ℕ) → slice_get at index ≡ None → length at ≤ index
past_end at index none = elim (cases_lt index (length at)) [
  | inl below ↦ absurd (none-some _ (sym none ∙ slice_get-get_or at index (record { 0 = 0 }) below))
  | inr above ↦ above
]

before : (at : List MarkNo) (index i : ℕ) (number : MarkNo) → slice_get at index ≡ None → slice_get at i ≡ Some number →
    i < index
before at index i number none is = let past = past_end at index none in let within = slice_get_within at i number is in
    omega arith

pub IsFirstAt-all : (at : List MarkNo) (numbers : List ℕ) (from len first index : ℕ) → length numbers ≡ len →
    slice_get at index ≡ None → first ≤ len → Found at numbers from len first → Least at numbers from first index
    → IsFirstAt at numbers from (then_some (nat_lt first len) first)
IsFirstAt-all at numbers from len first index count none within found least = elim (cases_lt first len) [
  | inl below ↦ subst (λ b. IsFirstAt at numbers from (then_some b first)) (sym (lt-ltb first len below))
      (let h = found below in (
        h.0,
        h.1,
        λ place low is.
            least is.0 place is.1 (before at index is.0 is.1 none is.2) is.2 is.3 low,
      ))
  | inr above ↦ subst (λ b. IsFirstAt at numbers from (then_some b first)) (sym (le-ltb first len above))
      (λ place low is. let h = least is.0 place is.1 (before at index is.0 is.1 none is.2) is.2 is.3 low in
      let inside = slice_get_within numbers place is.1.0 is.3 in absurd (omega arith))
]

pub Greatest-all : (at : List MarkNo) (numbers : List ℕ) (upto places index : ℕ) (found : Option ℕ) →
    SomeIff found (1 ≤ places) (places - 1) → slice_get at index ≡ None
    → (0 < places → (places ≤ upto) × IsAt at numbers (places - 1)) → Greatest at numbers upto places index →
    IsLastAt at numbers upto found
Greatest-all at numbers upto places index None is none found greatest = λ place low stands.
    let h = greatest stands.0 place stands.1 (before at index stands.0 stands.1 none stands.2) stands.2 stands.3 low in
    absurd (is (omega arith))
Greatest-all at numbers upto places index (Some last) is none found greatest =
    let some = is.0 in
    let same = is.1 in
    let h = found (omega arith) in
    let under = h.0 in (
      omega arith,
      (h.1.0, h.1.1, h.1.2, ap (slice_get numbers) same ∙ h.1.3),
      λ place low stands. let g = greatest stands.0 place stands.1 (before at index stands.0 stands.1 none stands.2)
          stands.2 stands.3 low in omega arith,
    )

pub last_within : (at : List MarkNo) (numbers : List ℕ) (upto most : ℕ) (found : Option ℕ) → length numbers ≤ most →
    IsLastAt at numbers upto found → MatchOption found (Unit {0}) (λ place. place < most)
last_within at numbers upto most None few is = tt
last_within at numbers upto most (Some last) few is = let within = slice_get_within numbers last is.1.1.0 is.1.3 in
    omega arith

-- one place more at which no mark stands, from the front and from the end
pub none-more : (at : List MarkNo) (numbers : List ℕ) (from place : ℕ) →
    ((other : ℕ) → from ≤ other → other < place → ¬ IsAt at numbers other) → ¬ IsAt at numbers place
    → (other : ℕ) → from ≤ other → other < place + 1 → ¬ IsAt at numbers other
none-more at numbers from place none here = λ other low below stands. elim (cases_eq other place) [
  | inl same ↦ here (subst (IsAt at numbers) same stands)
  | inr apart ↦ none other low (omega (arith, apart, below)) stands
]

pub none-before : (at : List MarkNo) (numbers : List ℕ) (near place upto : ℕ) → near ≡ place + 1 →
    ((other : ℕ) → near ≤ other → other < upto → ¬ IsAt at numbers other) → ¬ IsAt at numbers place
    → (other : ℕ) → place ≤ other → other < upto → ¬ IsAt at numbers other
none-before at numbers near place upto is none here = λ other low below stands. elim (cases_eq other place) [
  | inl same ↦ here (subst (IsAt at numbers) same stands)
  | inr apart ↦ none other (omega (arith, apart, low, is)) below stands
]

-- no mark stands behind the last place of the table
pub none-behind : (at : List MarkNo) (numbers : List ℕ) (from len place : ℕ) → length numbers ≡ len → len ≤ place →
    ((other : ℕ) → from ≤ other → other < place → ¬ IsAt at numbers other)
    → (other : ℕ) → from ≤ other → ¬ IsAt at numbers other
none-behind at numbers from len place count past none = λ other low stands.
    let within = slice_get_within numbers other stands.1.0 stands.3 in
    none other low (omega (arith, within, count, past)) stands

pub first-here : (at : List MarkNo) (numbers : List ℕ) (from place : ℕ) → from ≤ place →
    ((other : ℕ) → from ≤ other → other < place → ¬ IsAt at numbers other) → IsAt at numbers place
    → IsFirstAt at numbers from (Some place)
first-here at numbers from place low none here = (
  low,
  here,
  λ other above stands. elim (cases_lt other place) [
    | inl below ↦ absurd (none other above below stands)
    | inr behind ↦ behind
  ],
)

pub last-here : (at : List MarkNo) (numbers : List ℕ) (near place upto : ℕ) → near ≡ place + 1 → near ≤ upto →
    ((other : ℕ) → near ≤ other → other < upto → ¬ IsAt at numbers other) → IsAt at numbers place
    → IsLastAt at numbers upto (Some place)
last-here at numbers near place upto is short none here = (
  omega (arith, is, short),
  here,
  λ other below stands. elim (cases_lt place other) [
    | inl above ↦ absurd (none other (omega (arith, is, above)) below stands)
    | inr under ↦ under
  ],
)
