-- Texts without a character beyond ASCII.
use Rattle.index_grammar.proofs.Common.{◌≡◌, ℕ, zero, suc, ◌<◌, Bool, true, false, ◌&&◌, List, [], ◌∷◌, refl, arith}
use Rattle.index_grammar.proofs.Common.{list_all, IsAscii, slice_index, nat_lt, Decides-ltb, false≢true}

abbrev pub is_low : ℕ → Bool
is_low c = nat_lt c 128

pub ascii_of : (text : List ℕ) → list_all is_low text ≡ true → IsAscii text
ascii_of [] low i = omega arith
ascii_of (c ∷ text) low i =
    elim (is_low c) as (λ b. is_low c ≡ b → (b && list_all is_low text) ≡ true → slice_index (c ∷ text) i < 128) [
      | false ↦ λ _ none. absurd (false≢true none)
      | true ↦ λ here rest. elim i as (λ j. slice_index (c ∷ text) j < 128) [
        | zero ↦ (Decides-ltb c 128).0 here
        | suc j ↦ ascii_of text rest j
      ]
    ] refl low
