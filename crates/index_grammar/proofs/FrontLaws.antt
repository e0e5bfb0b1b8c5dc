-- How long the front of a list is that has a property, by the place of the first element without.
use Rattle.index_grammar.proofs.Common.{◌≡◌, ℕ, ◌+◌, Bool, true, false, cond, not, List, [], ◌∷◌, length, Option, Some}
use Rattle.index_grammar.proofs.Common.{None, refl, sym, ap, ◌∙◌, arith, position, nat_lt, prefix_len, nat_tests}
use Rattle.index_grammar.proofs.Common.{prefix_len-le-length}

pub front-some : (p : ℕ → Bool) (xs : List ℕ) (found : Option ℕ) (at : ℕ) → found ≡ position p xs → found ≡ Some at →
    at ≡ prefix_len (λ x. not (p x)) xs
front-some p xs found at is some =
    elim (nat_lt (prefix_len (λ x. not (p x)) xs) (length xs)) as (λ b.
    cond b (Some (prefix_len (λ x. not (p x)) xs)) None ≡ Some at → at ≡ prefix_len (λ x. not (p x)) xs) [
      | true ↦ λ e. let h : Some (prefix_len (λ x. not (p x)) xs) ≡ Some at = e in cc
      | false ↦ λ e. absurd (let h : None ≡ Some at = e in cc)
    ] (sym is ∙ some)

pub front-none : (p : ℕ → Bool) (xs : List ℕ) (found : Option ℕ) → found ≡ position p xs → found ≡ None →
    length xs ≡ prefix_len (λ x. not (p x)) xs
front-none p xs found is none =
    elim (nat_lt (prefix_len (λ x. not (p x)) xs) (length xs)) as (λ b.
    nat_lt (prefix_len (λ x. not (p x)) xs) (length xs) ≡ b →
    cond b (Some (prefix_len (λ x. not (p x)) xs)) None ≡ None → length xs ≡ prefix_len (λ x. not (p x)) xs) [
      | true ↦ λ _ e. absurd (let h : Some (prefix_len (λ x. not (p x)) xs) ≡ None = e in cc)
      | false ↦ λ no _. grind (arith, nat_tests, prefix_len-le-length (λ x. not (p x)) xs, no)
    ] refl (sym is ∙ none)

pub twice : (p : ℕ → Bool) (xs : List ℕ) → prefix_len (λ x. not (not (p x))) xs ≡ prefix_len p xs
twice p [] = refl
twice p (x ∷ xs) = elim (p x) as (λ b. cond (not (not b)) (1 + prefix_len (λ x. not (not (p x))) xs) 0
    ≡ cond b (1 + prefix_len p xs) 0) [
      | true ↦ ap (λ n. 1 + n) (twice p xs)
      | false ↦ refl
    ]
