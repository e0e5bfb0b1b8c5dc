-- What `compare` gives, by what its indices give.
use Rattle.peers.proofs.Common.{◌≡◌, ℕ, ◌+◌, List, ap, ◌∙◌, Ok, Err, Fault, Document, Widget, with_value, place_at}
use Rattle.peers.proofs.Common.{Flag, BadComparison, three_of, comparison_of, holds, ok_or}
use Rattle.peers.specs.Indices.{compare, compared, compared_at}
use Rattle.peers.specs.declared.comparisons.Comparison.{Comparison}

module _ (document : Document) (widget : Widget) (position : ℕ) (words : List (List ℕ)) (left operator right : List ℕ)
    (from : ℕ) (comparison : Comparison) (three : three_of words ≡ Ok (left, operator, right))
    (placed : place_at document widget position left ≡ Ok from)
    (read : ok_or (comparison_of operator) (BadComparison (position + 1)) ≡ Ok comparison) where
  so-far : compare document widget position words
      ≡ with_value (place_at document widget (position + 2) right) (λ to. Ok (Flag (holds comparison from to)))
  so-far =
      ap (λ found. with_value found (compared_at document widget position)) three
      ∙ ap (λ found. compared found (ok_or (comparison_of operator) (BadComparison (position + 1)))
      (place_at document widget (position + 2) right)) placed
      ∙ ap (λ found. compared (Ok from) found (place_at document widget (position + 2) right)) read

  -- the second index has a fault
  pub compare-fault : (fault : Fault) → place_at document widget (position + 2) right ≡ Err fault →
      compare document widget position words ≡ Err fault
  compare-fault fault is = so-far ∙ ap (λ found. with_value found (λ to. Ok (Flag (holds comparison from to)))) is

  -- both stand for places
  pub compare-found : (to : ℕ) → place_at document widget (position + 2) right ≡ Ok to →
      compare document widget position words ≡ Ok (Flag (holds comparison from to))
  compare-found to is = so-far ∙ ap (λ found. with_value found (λ to. Ok (Flag (holds comparison from to)))) is
