-- The mark of a name: its number in the store, where it is, and how it is put at a place.
use Rattle.documents.proofs.Common.{◌≡◌, ℕ, ◌+◌, ◌*◌, ◌≤◌, Bool, true, false, List, find, length, sym, ap, ap₂, ◌∙◌}
use Rattle.documents.proofs.Common.{refl, subst, inl, inr, ◌||◌, if◌then◌else◌, none-some, same_Some, true≢false}
use Rattle.documents.proofs.Common.{AreMarks, Mark, SharedMarks, number_of, turned, known_marks, Place, Content}
use Rattle.documents.proofs.Common.{LimitTable, Empty, is_own, is_same, literal, Document, Parts, SharedMark, Widget}
use Rattle.documents.proofs.Common.{widget_at, Stands, place_named, set_found, with_current, with_insert, with_mark}
use Rattle.documents.proofs.Common.{with_shared, Does, answered, is_named, Option, None, Some, Ok, Err, OnErr, OnOk}
use Rattle.documents.proofs.Common.{Result, option_map, IsSome, MatchResult, gravity_of}
use Rattle.documents.proofs.ChangeLaws.{Leaves, does-nothing}
use Rattle.documents.proofs.MarkLaws.{leaves-current, leaves-insert, leaves-turned, map-other, put_in, turned-kept}
use Rattle.documents.proofs.MarkQueryLaws.{sought-known, sought-none, sought_place}
use Rattle.documents.proofs.MeaningLaws.{current-there, insert-there, known-is, number_by}
use Rattle.documents.proofs.PartsLaws.{Sits}
use Rattle.documents.proofs.PlacedLaws.{found_mark}
use Rattle.std.specs.FinMap as finite

no_one : {A B : Type 0} (f : A → B) (found : Option A) → option_map f found ≡ None → found ≡ None
no_one f None none = refl
no_one f (Some x) none = absurd (none-some (f x) (sym none))

module _ {parts : Parts} {document : Document} (stands : Stands parts document) where
  abbrev table : List Mark
  table = parts.marks.marks

  -- the place of a name, by whether it is `insert` or `current`
  abbrev place_by : Widget → List ℕ → Bool → Bool → Option Place
  place_by widget word insert current =
      if insert then Some widget.insert
      else (if current then Some widget.current else sought_place word document)

  -- a name that no mark has is none of a widget's own, and none in the table
  pub new-name : (widget : Widget) (word : List ℕ) → place_named document widget word ≡ None →
      (is_own word ≡ false) × (number_of word table ≡ None)
  new-name widget word = by (is_same word (literal "insert")) (is_same word (literal "current")) refl refl
    where
      by : (b c : Bool) → is_same word (literal "insert") ≡ b → is_same word (literal "current") ≡ c →
          place_by widget word b c ≡ None → (is_own word ≡ false) × (number_of word table ≡ None)
      by true c is also none = absurd (none-some widget.insert (sym none))
      by false true is also none = absurd (none-some widget.current (sym none))
      by false false is also none = (
        ap₂ (λ a b. a || b) is also,
        elim (number_of word table) as (λ o. number_of word table ≡ o → o ≡ None) [
          | None ↦ λ _. refl
          | Some number ↦ λ known.
              let there = sought-known stands word number known in absurd (none-some there.0 (sym none ∙ there.2))
        ] refl,
      )

  -- the table doesn't have a widget's own marks
  unlisted : (word : List ℕ) → is_own word ≡ true → number_of word table ≡ None
  unlisted word own = elim (found_mark parts.content.marks word table 0 stands.sound.marked.each) [
    | inl unknown ↦ unknown.0
    | inr there ↦ absurd (true≢false (sym own ∙ ap is_own there.named ∙ there.marked.shared))
  ]

  -- a name that the table doesn't have changes no gravity
  pub untouched : {B : Type 0} (word : List ℕ) (place : Place) (f : Mark → B) →
      option_map f (find (is_named word) table) ≡ None
      → record parts.marks { marks = turned word place.gravity table } ≡ parts.marks
  untouched word place f none =
      ap (λ marks. record parts.marks { marks = marks })
      (map-other (is_named word) (λ (mark : Mark). record mark { gravity = place.gravity }) table
      (no_one f (find (is_named word) table) none))

  -- the table after the gravity of a name was set there, if it has that name
  pub table-set : {A E : Type 0} {made : SharedMarks} (result : Result A E) (word : List ℕ) (place : Place)
      → MatchResult result (λ _. IsSome (gravity_of word table)) (λ _. gravity_of word table ≡ None)
      → OnOk result (made ≡ record parts.marks { marks = turned word place.gravity table }) →
      OnOk result (AreMarks made) → OnErr result (made ≡ parts.marks)
      → AreMarks made × (made ≡ record parts.marks { marks = turned word place.gravity table })
  table-set (Ok _) word place known is sound same = (sound, is)
  table-set (Err _) word place none is sound same = (
    subst AreMarks (sym same) stands.sound.marked.marks,
    same ∙ sym (untouched word place (λ (mark : Mark). mark.gravity) none),
  )

  module _ {at slot : ℕ} (sits : Sits parts document at slot) where
    abbrev actor : Widget
    actor = widget_at document at

    abbrev known : List ℕ → Option ℕ
    known word = known_marks table slot word

    -- a name without a number is no mark's
    pub named-none : (word : List ℕ) → known word ≡ None → place_named document actor word ≡ None
    named-none word none =
        by (is_same word (literal "insert")) (is_same word (literal "current")) (sym (known-is table slot word) ∙ none)
      where
        by : (b c : Bool) → number_by table slot word b c ≡ None → place_by actor word b c ≡ None
        by true c is = absurd (none-some (2 * slot) (sym is))
        by false true is = absurd (none-some (2 * slot + 1) (sym is))
        by false false is = sought-none stands word is

    -- what is stored by the number is where the mark is
    pub named-known : (word : List ℕ) (number : ℕ) → known word ≡ Some number →
        (place : Place) × (finite.get parts.content.marks number ≡ Some place)
        × (place_named document actor word ≡ Some place)
    named-known word number is =
        by (is_same word (literal "insert")) (is_same word (literal "current")) (sym (known-is table slot word) ∙ is)
      where
        by : (b c : Bool) → number_by table slot word b c ≡ Some number → (place : Place)
            × (finite.get parts.content.marks number ≡ Some place) × (place_by actor word b c ≡ Some place)
        by true c is = (
          actor.insert,
          ap (finite.get parts.content.marks) (sym (same_Some (2 * slot) number is))
              ∙ insert-there parts document at slot sits,
          refl,
        )
        by false true is = (
          actor.current,
          ap (finite.get parts.content.marks) (sym (same_Some (2 * slot + 1) number is))
              ∙ current-there parts document at slot sits,
          refl,
        )
        by false false is = sought-known stands word number is

    -- an unknown mark isn't put
    pub does-unknown : (limits : LimitTable) (word : List ℕ) (target : Place) → known word ≡ None →
        Does limits document document (Ok Empty) (answered (with_mark document actor word target) Empty)
    does-unknown limits word target none =
        does-nothing limits document (answered (with_mark document actor word target) Empty)
        (ap (λ d. answered d Empty) (by (is_same word (literal "insert")) (is_same word (literal "current"))
        (sym (known-is table slot word) ∙ none)))
      where
        by : (b c : Bool) → number_by table slot word b c ≡ None
            → (if b then with_insert document actor target
            else (if c then with_current document actor target else with_shared document word target)) ≡ document
        by true c is = absurd (none-some (2 * slot) (sym is))
        by false true is = absurd (none-some (2 * slot + 1) (sym is))
        by false false is =
            ap (λ marks. record document { marks = marks })
            (map-other (λ (mark : SharedMark). is_same word mark.name)
            (λ (mark : SharedMark). record mark { place = target }) document.marks
            (no_one (λ (mark : SharedMark). mark.place)
            (find (λ (mark : SharedMark). is_same word mark.name) document.marks) (sought-none stands word is)))

    -- a mark that is put, with its gravity in the table
    pub leaves-put : {made : SharedMarks} {changed : Content} (limits : LimitTable) (word : List ℕ) (number : ℕ)
        (target : Place) → known word ≡ Some number → target.offset ≤ length parts.content.cells
        → (number_of word table ≡ None → made ≡ parts.marks) → (number_of word table ≡ Some number →
        AreMarks made × (made ≡ record parts.marks { marks = turned word target.gravity table }))
        → changed ≡ put_in number target parts.content
        → Leaves limits (record parts { marks = made; content = changed }) document (Ok Empty)
        (answered (with_mark document actor word target) Empty)
    leaves-put {made} {changed} limits word number target is within own shared put =
        by (is_same word (literal "insert")) (is_same word (literal "current")) refl refl
        (sym (known-is table slot word) ∙ is)
      where
        by_own : (left : Document) (n : ℕ) → is_own word ≡ true → Some n ≡ Some number
            → (changed ≡ put_in n target parts.content
            → Leaves limits (record parts { content = changed }) document (Ok Empty) (answered left Empty))
            → Leaves limits (record parts { marks = made; content = changed }) document (Ok Empty) (answered left Empty)
        by_own left n is_one same leaves =
            subst (λ (marks : SharedMarks). Leaves limits (record parts { marks = marks; content = changed }) document
            (Ok Empty) (answered left Empty)) (sym (own (unlisted word is_one)))
            (leaves (put ∙ ap (λ m. put_in m target parts.content) (sym (same_Some n number same))))

        by : (b c : Bool) → is_same word (literal "insert") ≡ b → is_same word (literal "current") ≡ c →
            number_by table slot word b c ≡ Some number
            → Leaves limits (record parts { marks = made; content = changed }) document (Ok Empty)
            (answered (if b then with_insert document actor target
            else (if c then with_current document actor target else with_shared document word target)) Empty)
        by true c insert current one = by_own (with_insert document actor target) (2 * slot)
            (ap (λ b. b || is_same word (literal "current")) insert) one
            (leaves-insert limits parts document at slot target changed stands sits within)
        by false true insert current one = by_own (with_current document actor target) (2 * slot + 1)
            (ap₂ (λ b c. b || c) insert current) one
            (leaves-current limits parts document at slot target changed stands sits within)
        by false false insert current one =
            leaves-turned limits parts made changed document word number target stands within one (shared one).0
            (shared one).1 put

    -- the mark of a name moves, and keeps its gravity
    pub leaves-set : {changed : Content} (limits : LimitTable) (word : List ℕ) (number offset : ℕ) (found : Place) →
        known word ≡ Some number → finite.get parts.content.marks number ≡ Some found
        → offset ≤ length parts.content.cells →
        changed ≡ put_in number (record found { offset = offset }) parts.content
        → Leaves limits (record parts { content = changed }) document (Ok Empty)
        (set_found limits document actor word offset (place_named document actor word))
    leaves-set {changed} limits word number offset found is there within put =
        let named = named-known word number is in
        subst (λ place. Leaves limits (record parts { content = changed }) document (Ok Empty)
        (set_found limits document actor word offset place)) (sym there ∙ named.1 ∙ sym named.2)
        (leaves-put limits word number (record found { offset = offset }) is within (λ _. refl) (λ known. (
          stands.sound.marked.marks,
          λ i. record parts.marks { marks = sym (turned-kept word number found stands known there) i },
        )) put)
