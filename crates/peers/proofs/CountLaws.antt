-- What `count` gives, by what its indices give.
use Rattle.peers.proofs.Common.{◌≡◌, ℕ, ◌+◌, List, ap, ◌∙◌, Ok, Err, Fault, Document, Widget, with_value, place_at}
use Rattle.peers.proofs.Common.{count_between, count_words}
use Rattle.search_dump.specs.declared.counting.Counted.{Counted}

module _ (document : Document) (widget : Widget) (options : List Counted) (position : ℕ) (first second : List ℕ)
    (from : ℕ) (placed : place_at document widget position first ≡ Ok from) where
  so-far : count_words document widget options position (first, second)
      ≡ with_value (place_at document widget (position + 1) second) (count_between document widget options from)
  so-far =
      ap (λ found. with_value found (λ from. with_value (place_at document widget (position + 1) second)
      (count_between document widget options from))) placed

  -- the second index has a fault
  pub count-fault : (fault : Fault) → place_at document widget (position + 1) second ≡ Err fault →
      count_words document widget options position (first, second) ≡ Err fault
  count-fault fault is = so-far ∙ ap (λ found. with_value found (count_between document widget options from)) is

  -- both stand for places
  pub count-found : (to : ℕ) → place_at document widget (position + 1) second ≡ Ok to →
      count_words document widget options position (first, second) ≡ count_between document widget options from to
  count-found to is = so-far ∙ ap (λ found. with_value found (count_between document widget options from)) is
