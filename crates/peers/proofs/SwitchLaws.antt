-- The switches of a command, one word after the other.
use Rattle.peers.proofs.Common.{◌≡◌, ℕ, ◌+◌, ◌<◌, true, false, cond, List, [], ◌∷◌, ◌++◌, length, take, refl, sym, ap}
use Rattle.peers.proofs.Common.{◌∙◌, Some, String, ◌||◌, chars, get_or, if◌then◌else◌, reverse, string_bytes}
use Rattle.peers.proofs.Common.{reverse-append, texts_of, literal, direction_by, direction_of, is_direction, stands_for}
use Rattle.peers.proofs.Common.{turned, find}
use Rattle.command_effects.proofs.SlotLaws.{texts-more}
use Rattle.index_grammar.specs.declared.indices.Direction.{Direction}
use Rattle.index_grammar.specs.declared.indices.Direction.TheVariants.{Back, Forward}

-- a word is for one direction, for the other, or for none
turned-is : (words : List (List ℕ)) (word : List ℕ) → turned (direction_of words) word
    ≡ direction_by (find is_direction (word ∷ reverse words))
turned-is words word =
    elim (stands_for (literal "-forwards") word) as (λ f. stands_for (literal "-forwards") word ≡ f
    → (if stands_for (literal "-backwards") word then Back else (if f then Forward else direction_of words))
    ≡ direction_by (cond (f || stands_for (literal "-backwards") word) (Some word) (find is_direction (reverse words)))) [
      | true ↦ λ _. refl
      | false ↦ λ _. elim (stands_for (literal "-backwards") word) as (λ b. stands_for (literal "-backwards") word ≡ b
          → (if b then Back else direction_of words)
          ≡ direction_by (cond b (Some word) (find is_direction (reverse words)))) [
            | true ↦ λ back. sym (ap (λ b. if b then Back else Forward) back)
            | false ↦ λ _. refl
          ] refl
    ] refl

direction-more : (words : List (List ℕ)) (word : List ℕ) →
    turned (direction_of words) word ≡ direction_of (words ++ word ∷ [])
direction-more words word =
    turned-is words word ∙ ap (λ ws. direction_by (find is_direction ws)) (sym (reverse-append words (word ∷ [])))

pub direction-step : {Z : Type 0} (words : List (String Z)) (at : ℕ) (word : String Z) (bytes : List ℕ)
    (direction : Direction) → at < length words → word ≡ get_or words at word → bytes ≡ string_bytes word
    → direction ≡ direction_of (texts_of (take at words)) →
    turned direction (chars bytes) ≡ direction_of (texts_of (take (at + 1) words))
direction-step {Z} words at word bytes direction within is bytes_are old =
    ap (λ d. turned d (chars bytes)) old ∙ direction-more (texts_of (take at words)) (chars bytes)
    ∙ ap direction_of (sym (texts-more words at word bytes within is bytes_are))
