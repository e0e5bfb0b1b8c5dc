-- What is found of the marks of a document.
use Rattle.documents.proofs.Common.{◌≡◌, ℕ, zero, suc, ◌+◌, ◌-◌, ◌<◌, ◌≤◌, Bool, true, false, List, [], ◌∷◌, refl, sym}
use Rattle.documents.proofs.Common.{ap, ap₂, ◌∙◌, arith, inl, inr, find, slice_get, nat_le, is_some, option_and_then}
use Rattle.documents.proofs.Common.{unwrap_or, if◌then◌else◌, AllByRecursion, position_from, false≢true, nat_tests}
use Rattle.documents.proofs.Common.{none-some, same_Some, Contains-from_stands, Mark, number_of, Place, Marks}
use Rattle.documents.proofs.Common.{shared_place, new_mark, is_same, literal, Document, Parts, SharedMark, Widget}
use Rattle.documents.proofs.Common.{mark_of, placed, widget_at, IsMarked, Stands, mark_number, mark_place, view_end}
use Rattle.documents.proofs.Common.{view_start, Contains, Option, None, Some, option_map, ◌&&◌}
use Rattle.mark_table.specs.SharedMarks.{numbers_of}
use Rattle.documents.proofs.PlacedLaws.{StandsMark, found_mark, marked-there, there_is}
use Rattle.std.specs.FinMap as finite

-- where the shared mark of a name stands, if there is one
abbrev pub sought_place : List ℕ → Document → Option Place
sought_place word document =
    option_map (λ (mark : SharedMark). mark.place) (find (λ (mark : SharedMark). is_same word mark.name) document.marks)

-- a name that isn't one of a widget's own
pub record IsShared (word : List ℕ) : Type 0 where
  pub insert : is_same word (literal "insert") ≡ false
  pub current : is_same word (literal "current") ≡ false

module _ {parts : Parts} {document : Document} (stands : Stands parts document) where
  abbrev places : Marks
  places = parts.content.marks

  abbrev listed : List SharedMark
  listed = placed parts.content.marks parts.marks.marks

  marks-are : document.marks ≡ listed
  marks-are = ap (λ (d : Document). d.marks) (sym stands.is)

  -- ---- the mark of a name

  number-shared : (word : List ℕ) → IsShared word → mark_number document word
      ≡ option_map (λ k. suc (suc k)) (position_from (λ (mark : SharedMark). is_same word mark.name) 0 listed)
  number-shared word shared =
      ap₂ (λ b c. if b then Some 0 else (if c then Some 1
      else option_map (λ k. suc (suc k))
      (position_from (λ (mark : SharedMark). is_same word mark.name) 0 document.marks)))
      shared.insert shared.current
      ∙ ap (λ ms. option_map (λ k. suc (suc k)) (position_from (λ (mark : SharedMark). is_same word mark.name) 0 ms))
      marks-are

  pub number-none : (word : List ℕ) → IsShared word → number_of word parts.marks.marks ≡ None →
      None ≡ mark_number document word
  number-none word shared none = elim (found_mark places word parts.marks.marks 0 stands.sound.marked.each) [
    | inl unknown ↦ sym (ap (option_map (λ k. suc (suc k))) unknown.1) ∙ sym (number-shared word shared)
    | inr there ↦ absurd (none-some there.mark.number (sym none ∙ there.number))
  ]

  -- the place in the order, by the number
  place-of : (word : List ℕ) (number place : ℕ) → number_of word parts.marks.marks ≡ Some number →
      slice_get (numbers_of parts.marks.marks) place ≡ Some number
      → (there : StandsMark places word parts.marks.marks 0) → there.place ≡ place
  place-of word number place known numbered there =
      stands.sound.marked.marks.numbers_apart there.place place number (there.numbered ∙ sym there.number
      ∙ known) numbered

  pub number-known : (word : List ℕ) (number place : ℕ) → IsShared word →
      number_of word parts.marks.marks ≡ Some number → slice_get (numbers_of parts.marks.marks) place ≡ Some number
      → Some (2 + place) ≡ mark_number document word
  number-known word number place shared known numbered =
      elim (found_mark places word parts.marks.marks 0 stands.sound.marked.each) [
        | inl unknown ↦ absurd (none-some number (sym unknown.0 ∙ known))
        | inr there ↦
            let same = place-of word number place known numbered there in
            let two : 2 + place ≡ suc (suc (0 + there.place)) = omega (arith, same) in
            ap Some two ∙ sym (ap (option_map (λ k. suc (suc k))) there.found) ∙ sym (number-shared word shared)
      ]

  pub number-there : (word : List ℕ) (number : ℕ) → number_of word parts.marks.marks ≡ Some number →
      Contains (numbers_of parts.marks.marks) number
  number-there word number known = elim (found_mark places word parts.marks.marks 0 stands.sound.marked.each) [
    | inl unknown ↦ absurd (none-some number (sym unknown.0 ∙ known))
    | inr there ↦ Contains-from_stands (numbers_of parts.marks.marks) number (
      there.place,
      there.numbered
          ∙ sym there.number ∙ known,
    )
  ]

  -- ---- what a widget shows of the shared marks

  listed-at : (marks : List Mark) (place number : ℕ) → slice_get (numbers_of marks) place ≡ Some number
      → option_map (λ (mark : SharedMark). mark.place) (slice_get (placed places marks) place)
      ≡ Some (mark_of places number)
  listed-at [] place number is = absurd (none-some number is)
  listed-at (mark ∷ marks) zero number is = ap (λ n. Some (mark_of places n)) (same_Some mark.number number is)
  listed-at (mark ∷ marks) (suc place) number is = listed-at marks place number is

  marked-at : (marks : List Mark) (place number : ℕ) → AllByRecursion (IsMarked places) marks →
      slice_get (numbers_of marks) place ≡ Some number → is_some (finite.get places number) ≡ true
  marked-at [] place number each is = absurd (none-some number is)
  marked-at (mark ∷ marks) zero number each is =
      ap (λ n. is_some (finite.get places n)) (sym (same_Some mark.number number is)) ∙ marked-there places mark each.0
  marked-at (mark ∷ marks) (suc place) number each is = marked-at marks place number each.1 is

  twice : (found : Option SharedMark) (f : Place → Option ℕ) →
      option_and_then (λ (mark : SharedMark). f mark.place) found
      ≡ option_and_then f (option_map (λ (mark : SharedMark). mark.place) found)
  twice None f = refl
  twice (Some mark) f = refl

  module _ (at : ℕ) where
    abbrev widget : Widget
    widget = widget_at document at

    -- a shared mark that stands in a store is shown between the bounds
    pub mark-between : (place number : ℕ) (found : Place) →
        slice_get (numbers_of parts.marks.marks) place ≡ Some number → finite.get places number ≡ Some found
        → (nat_le (view_start widget) found.offset && nat_le found.offset (view_end document widget))
        ≡ is_some (mark_place document widget (2 + place))
    mark-between place number found numbered stored =
        let two : 2 + place ≡ suc (suc place) = omega arith in
        let shown_so : Place → Option ℕ = shared_place (view_start widget) (view_end document widget) in
        sym (ap (λ n. is_some (mark_place document widget n)) two
        ∙ ap (λ ms. is_some (option_and_then (λ (mark : SharedMark). shown_so mark.place) (slice_get ms place)))
        marks-are
        ∙ ap is_some (twice (slice_get listed place) shown_so)
        ∙ ap (λ o. is_some (option_and_then shown_so o)) (listed-at parts.marks.marks place number numbered
        ∙ ap (λ o. Some (unwrap_or o new_mark)) stored)
        ∙ some-if (nat_le (view_start widget) found.offset && nat_le found.offset (view_end document widget))
        (found.offset - view_start widget))
      where
        some-if : (b : Bool) (n : ℕ) → is_some (if b then Some n else None) ≡ b
        some-if true n = refl
        some-if false n = refl

    -- by bounds as they were found: one that stands behind the start, and one that doesn't
    pub mark-behind : (place number first behind : ℕ) (found : Place) → first ≡ view_start widget →
        behind ≡ view_end document widget → slice_get (numbers_of parts.marks.marks) place ≡ Some number
        → finite.get places number ≡ Some found → first ≤ found.offset →
        nat_le found.offset behind ≡ is_some (mark_place document widget (2 + place))
    mark-behind place number first behind found starts ends numbered stored after =
        let test : nat_le first found.offset ≡ true = grind (arith, nat_tests) in
        sym (ap (λ b. b && nat_le found.offset behind) test)
        ∙ (λ i. nat_le (starts i) found.offset && nat_le found.offset (ends i))
        ∙ mark-between place number found numbered stored

    pub mark-before : (place number first : ℕ) (found : Place) → first ≡ view_start widget →
        slice_get (numbers_of parts.marks.marks) place ≡ Some number
        → finite.get places number ≡ Some found → found.offset < first →
        nat_le first found.offset ≡ is_some (mark_place document widget (2 + place))
    mark-before place number first found starts numbered stored before =
        let test : nat_le first found.offset ≡ false = grind (arith, nat_tests) in
        test ∙ sym (ap (λ b. b && nat_le found.offset (view_end document widget)) test)
        ∙ (λ i. nat_le (starts i) found.offset && nat_le found.offset (view_end document widget))
        ∙ mark-between place number found numbered stored

    pub mark-unknown : (place number : ℕ) → slice_get (numbers_of parts.marks.marks) place ≡ Some number →
        finite.get places number ≡ None → ⊥
    mark-unknown place number numbered stored =
        false≢true (sym (ap is_some stored)
        ∙ marked-at parts.marks.marks place number stands.sound.marked.each numbered)

  -- ---- the place of a shared mark

  sought-is : (word : List ℕ) → sought_place word document ≡ option_map (λ (mark : SharedMark). mark.place)
      (find (λ (mark : SharedMark). is_same word mark.name) listed)
  sought-is word =
      ap (λ ms. option_map (λ (mark : SharedMark). mark.place) (find (λ (mark : SharedMark). is_same word mark.name) ms))
      marks-are

  pub sought-none : (word : List ℕ) → number_of word parts.marks.marks ≡ None → sought_place word document ≡ None
  sought-none word none = elim (found_mark places word parts.marks.marks 0 stands.sound.marked.each) [
    | inl unknown ↦ sought-is word ∙ ap (option_map (λ (mark : SharedMark). mark.place)) unknown.2
    | inr there ↦ absurd (none-some there.mark.number (sym none ∙ there.number))
  ]

  pub sought-known : (word : List ℕ) (number : ℕ) → number_of word parts.marks.marks ≡ Some number →
      (place : Place) × (finite.get places number ≡ Some place) × (sought_place word document ≡ Some place)
  sought-known word number known = elim (found_mark places word parts.marks.marks 0 stands.sound.marked.each) [
    | inl unknown ↦ absurd (none-some number (sym unknown.0 ∙ known))
    | inr there ↦ (
      mark_of places there.mark.number,
      ap (finite.get places) (same_Some number there.mark.number (sym known ∙ there.number))
          ∙ there_is (finite.get places there.mark.number) (marked-there places there.mark there.marked),
      sought-is word ∙ ap (option_map (λ (mark : SharedMark). mark.place)) there.sought,
    )
  ]
