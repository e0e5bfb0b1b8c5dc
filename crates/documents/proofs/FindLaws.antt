-- The widgets of a document by their names.
use Rattle.documents.proofs.Common.{◌≡◌, ℕ, suc, ◌+◌, Bool, true, false, cond, List, [], ◌∷◌, map, refl, sym, ap, ◌∙◌}
use Rattle.documents.proofs.Common.{arith, inl, inr, ◌⊎◌, true≢false, IfSome, bytes_eq, find, slice_get, is_some}
use Rattle.documents.proofs.Common.{position_from, false_from_ne_true, none-some, same_Some, bytes_eq-Decides, Named}
use Rattle.documents.proofs.Common.{is_among, is_same, Document, Parts, Widget, widget_at, widget_of, Stands}
use Rattle.documents.proofs.Common.{window_names, widget_named, Option, None, Some, ◌||◌}
use Rattle.name_list.specs.Names.{names_of, place_of}
use Rattle.std.proofs.lemmas.Iterator.Adapters.{position_from-zero}
use Rattle.documents.proofs.PartsLaws.{widget-is}
use Rattle.documents.proofs.WellFormedLaws.{windows-kept}

pub bytes_eq-turned : (a b : List ℕ) → bytes_eq a b ≡ bytes_eq b a
bytes_eq-turned a b = elim (bytes_eq b a) as (λ v. bytes_eq b a ≡ v → bytes_eq a b ≡ v) [
  | true ↦ λ same. (bytes_eq-Decides a b).1 (sym ((bytes_eq-Decides b a).0 same))
  | false ↦ λ other. false_from_ne_true (bytes_eq a b) (λ same.
      true≢false (sym ((bytes_eq-Decides b a).1 (sym ((bytes_eq-Decides a b).0 same))) ∙ other))
] refl

module _ (name : List ℕ) (widget_for : Named → Widget) (named_so : (seat : Named) →
    (widget_for seat).name ≡ seat.name) where
  abbrev test : Named → Bool
  test seat = bytes_eq name seat.name

  abbrev sought : List Named → Option Widget
  sought seats = find (λ (widget : Widget). is_same widget.name name) (map widget_for seats)

  abbrev IsNowhere : ℕ → List Named → Type 0
  IsNowhere from seats =
      (position_from test from seats ≡ None) × (sought seats ≡ None) × (is_among name (names_of seats) ≡ false)

  abbrev IsSomewhere : ℕ → List Named → Type 0
  IsSomewhere from seats =
      (at : ℕ) × (seat : Named) × (position_from test from seats ≡ Some (from + at)) × (slice_get seats at ≡ Some seat)
      × (sought seats ≡ Some (widget_for seat)) × (is_among name (names_of seats) ≡ true)

  test-is : (seat : Named) → is_same (widget_for seat).name name ≡ test seat
  test-is seat = ap (λ n. bytes_eq n name) (named_so seat) ∙ bytes_eq-turned seat.name name

  pub found_seat : (from : ℕ) (seats : List Named) → IsNowhere from seats ⊎ IsSomewhere from seats
  found_seat from [] = inl (refl, refl, refl)
  found_seat from (seat ∷ seats) =
      elim (test seat) as (λ b. test seat ≡ b → IsNowhere from (seat ∷ seats) ⊎ IsSomewhere from (seat ∷ seats)) [
        | true ↦ λ same. inr (
          0,
          seat,
          ap (λ b. cond b (Some from) (position_from test (from + 1) seats)) same
              ∙ ap Some (let h : from ≡ from + 0 = omega arith in h),
          refl,
          ap (λ b. cond b (Some (widget_for seat)) (sought seats)) (test-is seat ∙ same),
          ap (λ b. b || is_among name (names_of seats)) same,
        )
        | false ↦ λ other.
            let position = ap (λ b. cond b (Some from) (position_from test (from + 1) seats)) other in
            let widget = ap (λ b. cond b (Some (widget_for seat)) (sought seats)) (test-is seat ∙ other) in
            let among = ap (λ b. b || is_among name (names_of seats)) other in
            elim (found_seat (from + 1) seats) [
              | inl none ↦ inl (position ∙ none.0, widget ∙ none.1, among ∙ none.2)
              | inr there ↦ inr (
                suc there.0,
                there.1,
                position ∙ there.2 ∙ ap Some (let h : from + 1 + there.0 ≡ from + suc there.0 = omega arith in h),
                there.3,
                widget ∙ there.4,
                among ∙ there.5,
              )
            ]
      ] refl

module _ {parts : Parts} {document : Document} (name : List ℕ) (stands : Stands parts document) where
  abbrev seats : List Named
  seats = parts.seats.entries

  abbrev held : Named → Widget
  held seat = widget_of parts.journal parts.content.marks seat

  abbrev same_name : (seat : Named) → (held seat).name ≡ seat.name
  same_name seat = refl

  place-from : place_of name seats ≡ position_from (λ (seat : Named). bytes_eq name seat.name) 0 seats
  place-from = position_from-zero (λ (seat : Named). bytes_eq name seat.name) seats

  named-is : widget_named name document ≡ find (λ (widget : Widget). is_same widget.name name) (map held seats)
  named-is = ap (widget_named name) (sym stands.is)

  pub widget-none : (found : Option ℕ) → found ≡ place_of name seats → found ≡ None → widget_named name document ≡ None
  widget-none found is none = elim (found_seat name held same_name 0 seats) [
    | inl nowhere ↦ named-is ∙ nowhere.1
    | inr there ↦ absurd (none-some (0 + there.0) (sym none ∙ is ∙ place-from ∙ there.2))
  ]

  pub widget-some : (found : Option ℕ) → found ≡ place_of name seats →
      IfSome found (λ at. widget_named name document ≡ Some (widget_at document at))
  widget-some None is = tt
  widget-some (Some at) is = elim (found_seat name held same_name 0 seats) [
    | inl nowhere ↦ absurd (none-some at (sym (is ∙ place-from ∙ nowhere.0)))
    | inr there ↦
        let same : 0 + there.0 ≡ at = same_Some (0 + there.0) at (sym (is ∙ place-from ∙ there.2)) in
        let here : there.0 ≡ at = omega (arith, same) in
        named-is ∙ there.4
        ∙ ap Some (sym (widget-is parts document at there.1 stands.is (ap (slice_get seats) (sym here) ∙ there.3)))
  ]

  pub widget-among : (found : Option ℕ) → found ≡ place_of name seats →
      is_some found ≡ is_among name (window_names document)
  widget-among found is =
      let names : window_names document ≡ names_of seats = ap window_names (sym stands.is) ∙ windows-kept parts in
      ap is_some (is ∙ place-from)
      ∙ elim (found_seat name held same_name 0 seats) [
        | inl nowhere ↦ ap is_some nowhere.0 ∙ sym nowhere.2
        | inr there ↦ ap is_some there.2 ∙ sym there.5
      ]
      ∙ ap (is_among name) (sym names)
