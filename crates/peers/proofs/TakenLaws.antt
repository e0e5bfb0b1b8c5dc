-- What is told of a command of a widget that edits the text takes the marks to where the command leaves them.
use Rattle.peers.proofs.Common.{TakesMarksBut, ◌≡◌, ℕ, zero, suc, ◌+◌, ◌<◌, true, false, List, [], ◌∷◌, Ok, Err, Result}
use Rattle.peers.proofs.Common.{length, refl, arith, get_or, nat_lt, if◌then◌else◌, ltb-false, LimitTable, Empty, Fault}
use Rattle.peers.proofs.Common.{IndexOrder, one_or_more_of, two_or_more_of, Pair, pairs_at, Document, Widget}
use Rattle.peers.proofs.Common.{delete_places, replace_span, place_at, watched, Change, answered, change_with, refused}
use Rattle.peers.proofs.Common.{unless_idle, insert_at, insertion_offset, is_idle, IsPlaced, delete, replace}
use Rattle.peers.proofs.Common.{replace_places, replace_words, insert_pairs, insert_words, places_at, AllByRecursion}
use Rattle.peers.proofs.Common.{no_widget, insert_key, deleted-taken, inserted-taken, placed-active, refused-taken}
use Rattle.peers.proofs.Common.{replaced-taken, still-taken, insert}
use Rattle.peers.proofs.DoneLaws.{places-within}

-- what holds of a refusal, and of what follows a value
made-with : {A : Type 0} (P : Change → Type 0) (document : Document) (value : Result A Fault) (next : A → Change)
    → ((fault : Fault) → P (refused document fault)) → ((given : A) → value ≡ Ok given → P (next given))
    → P (change_with document value next)
made-with P document (Err fault) next fails goes = fails fault
made-with P document (Ok given) next fails goes = goes given refl

made-active : (P : Change → Type 0) (document : Document) (widget : Widget) (change : Change)
    → P (answered document Empty) → (is_idle document widget ≡ false → P change)
    → P (unless_idle widget document change)
made-active P document widget change still next =
    elim (is_idle document widget) as (λ b. is_idle document widget ≡ b
    → P (if b then answered document Empty else change)) [
      | true ↦ λ _. still
      | false ↦ λ busy. next busy
    ] refl

-- a widget of a document is placed
pub placed-at : (document : Document) (widgets : List Widget) (seat : ℕ) → AllByRecursion (IsPlaced document) widgets
    → seat < length widgets → IsPlaced document (get_or widgets seat no_widget)
placed-at document [] seat all within = absurd (omega (arith, within))
placed-at document (widget ∷ widgets) zero all within = all.0
placed-at document (widget ∷ widgets) (suc seat) all within =
    placed-at document widgets seat all.1 (omega (arith, within))

module _ (limits : LimitTable) (document : Document) (widget : Widget) (placed : IsPlaced document widget) where
  pub inserts-take : (position : ℕ) (words : List (List ℕ))
      → TakesMarksBut [] document (insert limits document widget position words)
  inserts-take position words =
      let P : Change → Type 0 = TakesMarksBut [] document in
      let fails : (fault : Fault) → P (refused document fault) = refused-taken [] document in
      made-with P document (one_or_more_of words) (insert_words limits document widget position) fails (λ given _.
      made-with P document (place_at document widget position given.0)
      (insert_pairs limits document widget (pairs_at (position + 1) given.1)) fails (λ place _.
      made-with P document (pairs_at (position + 1) given.1)
      (λ pairs. unless_idle widget document (insert_at limits document widget (insertion_offset document widget place)
      pairs)) fails (λ pairs _.
      made-active P document widget
      (insert_at limits document widget (insertion_offset document widget place) pairs)
      (still-taken [] document (answered document Empty) refl (λ key _. refl))
      (λ busy. inserted-taken document widget placed busy limits place pairs))))

  pub deletes-take : (position : ℕ) (words : List (List ℕ))
      → TakesMarksBut [] document (delete document widget position words)
  deletes-take position words =
      let P : Change → Type 0 = TakesMarksBut [] document in
      let fails : (fault : Fault) → P (refused document fault) = refused-taken [] document in
      made-with P document (places_at document widget position words)
      (λ places. unless_idle widget document (delete_places document widget places)) fails (λ places is.
      made-active P document widget (delete_places document widget places)
      (still-taken [] document (answered document Empty) refl (λ key _. refl))
      (λ busy. deleted-taken document widget placed busy places
      (places-within document widget position words places (placed-active document widget placed busy).within is)))

  -- all but the widget's `insert`
  replaces-places-take : (second from to : ℕ) (pairs : List Pair)
      → TakesMarksBut (watched document (insert_key widget.name) ∷ []) document
      (replace_places limits document widget second from to pairs)
  replaces-places-take second from to pairs =
      let marks = watched document (insert_key widget.name) ∷ [] in
      let P : Change → Type 0 = TakesMarksBut marks document in
      let change : Change = replace_span limits document widget (insertion_offset document widget from)
      (insertion_offset document widget to) pairs in
      elim (nat_lt to from) as (λ b. nat_lt to from ≡ b
      → P (if b then refused document (IndexOrder second) else unless_idle widget document change)) [
        | true ↦ λ _. refused-taken marks document (IndexOrder second)
        | false ↦ λ ordered. made-active P document widget change
            (still-taken marks document (answered document Empty) refl (λ key _. refl))
            (λ busy. replaced-taken document widget placed busy limits from to pairs (ltb-false to from ordered))
      ] refl

  pub replaces-take : (position : ℕ) (words : List (List ℕ))
      → TakesMarksBut (watched document (insert_key widget.name) ∷ []) document
      (replace limits document widget position words)
  replaces-take position words =
      let marks = watched document (insert_key widget.name) ∷ [] in
      let P : Change → Type 0 = TakesMarksBut marks document in
      let fails : (fault : Fault) → P (refused document fault) = refused-taken marks document in
      made-with P document (two_or_more_of words) (replace_words limits document widget position) fails (λ given _.
      made-with P document (place_at document widget position given.0) (λ from.
      change_with document (place_at document widget (position + 1) given.1) (λ to.
      change_with document (pairs_at (position + 2) given.2)
      (replace_places limits document widget (position + 1) from to))) fails (λ from _.
      made-with P document (place_at document widget (position + 1) given.1) (λ to.
      change_with document (pairs_at (position + 2) given.2)
      (replace_places limits document widget (position + 1) from to)) fails (λ to _.
      made-with P document (pairs_at (position + 2) given.2)
      (replace_places limits document widget (position + 1) from to) fails (λ pairs _.
      replaces-places-take (position + 1) from to pairs))))
