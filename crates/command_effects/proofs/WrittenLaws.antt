-- What stands in the text of a list that was written.
use Rattle.command_effects.proofs.Common.{◌≡◌, ℕ, ◌+◌, Bool, true, false, cond, List, [], ◌∷◌, ◌++◌, take, refl, sym}
use Rattle.command_effects.proofs.Common.{ap, ◌∙◌, Some, slice_get, filter, get_or_from_slice_get, slice_get_within}
use Rattle.command_effects.proofs.Common.{append-nil}
use Rattle.command_effects.proofs.MadeLaws.{take-more}

pub take-found : {A : Type 0} (xs : List A) (at : ℕ) (x : A) → slice_get xs at ≡ Some x →
    take (at + 1) xs ≡ take at xs ++ x ∷ []
take-found xs at x is = take-more xs at x (slice_get_within xs at x is) (sym (get_or_from_slice_get xs at x x is))

pub filter-append : {A : Type 0} (p : A → Bool) (xs ys : List A) → filter p (xs ++ ys) ≡ filter p xs ++ filter p ys
filter-append p [] ys = refl
filter-append p (x ∷ xs) ys =
    elim (p x) as (λ b. cond b (x ∷ filter p (xs ++ ys)) (filter p (xs ++ ys))
    ≡ cond b (x ∷ filter p xs) (filter p xs) ++ filter p ys) [
      | true ↦ ap (λ zs. x ∷ zs) (filter-append p xs ys)
      | false ↦ filter-append p xs ys
    ]

-- one element more that passes, and one that doesn't
pub filter-in : {A : Type 0} (p : A → Bool) (xs : List A) (at : ℕ) (x : A) → slice_get xs at ≡ Some x → p x ≡ true →
    filter p (take (at + 1) xs) ≡ filter p (take at xs) ++ x ∷ []
filter-in p xs at x is passes =
    ap (filter p) (take-found xs at x is) ∙ filter-append p (take at xs) (x ∷ [])
    ∙ ap (λ b. filter p (take at xs) ++ cond b (x ∷ []) []) passes

pub filter-out : {A : Type 0} (p : A → Bool) (xs : List A) (at : ℕ) (x : A) → slice_get xs at ≡ Some x → p x ≡ false →
    filter p (take (at + 1) xs) ≡ filter p (take at xs)
filter-out p xs at x is fails =
    ap (filter p) (take-found xs at x is) ∙ filter-append p (take at xs) (x ∷ [])
    ∙ ap (λ b. filter p (take at xs) ++ cond b (x ∷ []) []) fails ∙ append-nil (filter p (take at xs))
