-- Words, and shared marks by their names, as they are listed, set and unset.
use Rattle.documents.proofs.Common.{◌≡◌, ℕ, suc, ◌+◌, ◌≤◌, Bool, true, false, List, [], ◌∷◌, ◌++◌, map, refl, sym, ap}
use Rattle.documents.proofs.Common.{◌∙◌, arith, true≢false, find, if◌then◌else◌, is_at, nat_cmp, is_eq, position_from}
use Rattle.documents.proofs.Common.{false_from_ne_true, none-some, same_Some, Right, Place, is_left, is_among, is_same}
use Rattle.documents.proofs.Common.{literal, Document, SharedMark, mark_number, ◌≢◌, filter, not, Option, None, Some}
use Rattle.documents.proofs.Common.{option_map, words-are}
use Rattle.std.proofs.lemmas.Map.Lookups.{exact_unsigned}
use Rattle.std.specs.Bool.{OnFalse}
use Rattle.std.specs.declared.cmp.Ordering.TheVariants.{Less, Equal, Greater}

-- ---- words

-- a word that isn't another one isn't what the other one is
other-word : (word name known : List ℕ) → is_same word name ≡ false → is_same name known ≡ true →
    is_same word known ≡ false
other-word word name known other is = ap (is_same word) (sym (words-are name known is)) ∙ other

-- ---- shared marks that are set

abbrev pub sought : List ℕ → List SharedMark → Option Place
sought word marks = option_map (λ (mark : SharedMark). mark.place)
    (find (λ (mark : SharedMark). is_same word mark.name) marks)

-- a shared mark that another one is put
pub shared-other : (word name : List ℕ) (place : Place) (marks : List SharedMark) → is_same word name ≡ false →
    sought word (map (λ (mark : SharedMark). if is_same name mark.name then record mark { place = place }
    else mark) marks) ≡ sought word marks
shared-other word name place [] other = refl
shared-other word name place (mark ∷ marks) other =
    let rest = map (λ (mark : SharedMark). if is_same name mark.name then record mark { place = place } else mark)
    marks in
    elim (is_same name mark.name) as (λ b. is_same name mark.name ≡ b
    → sought word ((if b then record mark { place = place } else mark) ∷ rest) ≡ sought word (mark ∷ marks)) [
      | true ↦ λ is.
          let no = other-word word name mark.name other is in
          ap (λ b. option_map (λ (mark : SharedMark). mark.place) (if b then Some (record mark { place = place })
          else find (λ (mark : SharedMark). is_same word mark.name) rest)) no
          ∙ shared-other word name place marks other
          ∙ sym (ap (λ b. option_map (λ (mark : SharedMark). mark.place) (if b then Some mark
          else find (λ (mark : SharedMark). is_same word mark.name) marks)) no)
      | false ↦ λ _. elim (is_same word mark.name) as (λ b. option_map (λ (mark : SharedMark). mark.place)
          (if b then Some mark else find (λ (mark : SharedMark). is_same word mark.name) rest)
          ≡ option_map (λ (mark : SharedMark). mark.place)
          (if b then Some mark else find (λ (mark : SharedMark). is_same word mark.name) marks))
          [ true ↦ refl | false ↦ shared-other word name place marks other ]
    ] refl

-- ---- a mark that is made

abbrev pub made_mark : List ℕ → ℕ → SharedMark
made_mark name offset = record { name = name; place = record { offset = offset; gravity = Right } }

pub made-other : (word name : List ℕ) (offset : ℕ) (marks : List SharedMark) → is_same word name ≡ false →
    sought word (marks ++ made_mark name offset ∷ []) ≡ sought word marks
made-other word name offset [] other =
    ap (λ b. option_map (λ (mark : SharedMark). mark.place) (if b then Some (made_mark name offset) else None)) other
made-other word name offset (mark ∷ marks) other =
    elim (is_same word mark.name) as (λ b. option_map (λ (mark : SharedMark). mark.place)
    (if b then Some mark else find (λ (mark : SharedMark). is_same word mark.name)
    (marks ++ made_mark name offset ∷ []))
    ≡ option_map (λ (mark : SharedMark). mark.place)
    (if b then Some mark else find (λ (mark : SharedMark). is_same word mark.name) marks))
    [ true ↦ refl | false ↦ made-other word name offset marks other ]

-- ---- marks that are taken out

abbrev pub left_marks : List (List ℕ) → List SharedMark → List SharedMark
left_marks names marks = filter (λ (mark : SharedMark). is_left names mark.name) marks

pub left-other : (word : List ℕ) (names : List (List ℕ)) (marks : List SharedMark) → is_among word names ≡ false →
    sought word (left_marks names marks) ≡ sought word marks
left-other word names [] other = refl
left-other word names (mark ∷ marks) other =
    elim (is_among mark.name names) as (λ b. is_among mark.name names ≡ b
    → sought word (if not b then mark ∷ left_marks names marks else left_marks names marks)
    ≡ sought word (mark ∷ marks)) [
      | true ↦ λ gone.
          let no : is_same word mark.name ≡ false = false_from_ne_true (is_same word mark.name) (λ same.
          true≢false (sym gone ∙ ap (λ n. is_among n names) (sym (words-are word mark.name same)) ∙ other)) in
          left-other word names marks other
          ∙ sym (ap (λ b. option_map (λ (mark : SharedMark). mark.place) (if b then Some mark
          else find (λ (mark : SharedMark). is_same word mark.name) marks)) no)
      | false ↦ λ _. elim (is_same word mark.name) as (λ b. option_map (λ (mark : SharedMark). mark.place)
          (if b then Some mark else find (λ (mark : SharedMark). is_same word mark.name) (left_marks names marks))
          ≡ option_map (λ (mark : SharedMark). mark.place)
          (if b then Some mark else find (λ (mark : SharedMark). is_same word mark.name) marks))
          [ true ↦ refl | false ↦ left-other word names marks other ]
    ] refl

pub left-none : (word : List ℕ) (names : List (List ℕ)) (marks : List SharedMark) → is_among word names ≡ true →
    sought word (left_marks names marks) ≡ None
left-none word names [] gone = refl
left-none word names (mark ∷ marks) gone =
    elim (is_among mark.name names) as (λ b. is_among mark.name names ≡ b
    → sought word (if not b then mark ∷ left_marks names marks else left_marks names marks) ≡ None) [
      | true ↦ λ _. left-none word names marks gone
      | false ↦ λ stays.
          let no : is_same word mark.name ≡ false = false_from_ne_true (is_same word mark.name) (λ same.
          true≢false (sym gone ∙ ap (λ n. is_among n names) (words-are word mark.name same) ∙ stays)) in
          ap (λ b. option_map (λ (mark : SharedMark). mark.place) (if b then Some mark
          else find (λ (mark : SharedMark). is_same word mark.name) (left_marks names marks))) no
          ∙ left-none word names marks gone
    ] refl

-- ---- shared marks by their numbers

position-above : {A : Type 0} (p : A → Bool) (from : ℕ) (xs : List A) (at : ℕ) → position_from p from xs ≡ Some at →
    from ≤ at
position-above p from [] at is = absurd (none-some at is)
position-above p from (x ∷ xs) at is =
    elim (p x) as (λ b. (if b then Some from else position_from p (from + 1) xs) ≡ Some at → from ≤ at) [
      | true ↦ λ here. let same : from ≡ at = same_Some from at here in omega (arith, same)
      | false ↦ λ later. let above = position-above p (from + 1) xs at later in omega (arith, above)
    ] is

-- one place is of one name
position-same : (a b : List ℕ) (from : ℕ) (marks : List SharedMark) (at : ℕ)
    → position_from (λ (mark : SharedMark). is_same a mark.name) from marks ≡ Some at
    → position_from (λ (mark : SharedMark). is_same b mark.name) from marks ≡ Some at → a ≡ b
position-same a b from [] at first second = absurd (none-some at first)
position-same a b from (mark ∷ marks) at first second =
    let one : Bool → Option ℕ = λ t. if t then Some from
    else position_from (λ (mark : SharedMark). is_same a mark.name) (from + 1) marks in
    let other : Bool → Option ℕ = λ t. if t then Some from
    else position_from (λ (mark : SharedMark). is_same b mark.name) (from + 1) marks in
    elim (is_same a mark.name) as (λ t. is_same a mark.name ≡ t → one t ≡ Some at → a ≡ b) [
      | true ↦ λ a_is here. elim (is_same b mark.name) as (λ t. is_same b mark.name ≡ t → other t ≡ Some at → a ≡ b) [
        | true ↦ λ b_is _. words-are a mark.name a_is ∙ sym (words-are b mark.name b_is)
        | false ↦ λ _ later.
            let same : from ≡ at = same_Some from at here in
            let above = position-above (λ (mark : SharedMark). is_same b mark.name) (from + 1) marks at later in
            absurd (omega (arith, same, above))
      ] refl second
      | false ↦ λ _ later. elim (is_same b mark.name) as (λ t. is_same b mark.name ≡ t → other t ≡ Some at → a ≡ b) [
        | true ↦ λ _ here.
            let same : from ≡ at = same_Some from at here in
            let above = position-above (λ (mark : SharedMark). is_same a mark.name) (from + 1) marks at later in
            absurd (omega (arith, same, above))
        | false ↦ λ _ also. position-same a b (from + 1) marks at later also
      ] refl second
    ] refl first

abbrev placed_at : Document → List ℕ → Option ℕ
placed_at document name = position_from (λ (mark : SharedMark). is_same name mark.name) 0 document.marks

-- the name of a shared mark, by its number
pub record IsNumbered (document : Document) (name : List ℕ) (number : ℕ) : Type 0 where
  pub insert : is_same name (literal "insert") ≡ false
  pub current : is_same name (literal "current") ≡ false
  pub at : placed_at document name ≡ Some number

at-number : (place : Option ℕ) (number : ℕ) → option_map (λ k. suc (suc k)) place ≡ Some (2 + number) →
    place ≡ Some number
at-number None number is = absurd (none-some (2 + number) is)
at-number (Some place) number is =
    let same : suc (suc place) ≡ 2 + number = same_Some (suc (suc place)) (2 + number) is in
    let here : place ≡ number = omega (arith, same) in ap Some here

numbered : (document : Document) (name : List ℕ) (number : ℕ) → mark_number document name ≡ Some (2 + number) →
    IsNumbered document name number
numbered document name number is = by (is_same name (literal "insert")) (is_same name (literal "current")) refl refl
    (λ i. is i)
  where
    by : (b c : Bool) → is_same name (literal "insert") ≡ b → is_same name (literal "current") ≡ c
        → (if b then Some 0 else (if c then Some 1 else option_map (λ k. suc (suc k)) (placed_at document name)))
        ≡ Some (2 + number) → IsNumbered document name number
    by true c insert current is = absurd (let no : 0 ≡ 2 + number = same_Some 0 (2 + number) is in omega (arith, no))
    by false true insert current is =
        absurd (let no : 1 ≡ 2 + number = same_Some 1 (2 + number) is in omega (arith, no))
    by false false insert current is =
        record { insert = insert; current = current; at = at-number (placed_at document name) number is }

pub same-number : (document : Document) (a b : List ℕ) (number : ℕ) → mark_number document a ≡ Some (2 + number) →
    mark_number document b ≡ Some (2 + number) → a ≡ b
same-number document a b number first second =
    position-same a b 0 document.marks number (numbered document a number first).at
    (numbered document b number second).at

-- ---- words and one more

-- ---- words and numbers that were seen

pub other-number : (place number : ℕ) → number ≢ place → is_at (nat_cmp place) number ≡ false
other-number place number other =
    elim (nat_cmp place number) as (λ o. nat_cmp place number ≡ o → is_eq o ≡ false) [
      | Less ↦ λ _. refl
      | Equal ↦ λ same. absurd (other (sym (exact_unsigned place number same)))
      | Greater ↦ λ _. refl
    ] refl

pub not-true : (test new : Bool) → new ≡ not test → new ≡ true → test ≡ false
not-true true new is there = absurd (true≢false (sym there ∙ is))
not-true false new is there = refl

pub not-false : (test new : Bool) → new ≡ not test → new ≡ false → test ≡ true
not-false true new is none = refl
not-false false new is none = absurd (true≢false (sym is ∙ none))

pub on-false : (test : Bool) (P : Type 0) → OnFalse test P → test ≡ false → P
on-false true P holds none = absurd (true≢false none)
on-false false P holds none = holds
