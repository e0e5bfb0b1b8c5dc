-- The places of indices, one after the other.
use Rattle.peers.proofs.Common.{◌≡◌, ℕ, zero, suc, ◌+◌, ◌<◌, List, [], ◌∷◌, ◌++◌, length, drop, get_or, refl, sym, ap}
use Rattle.peers.proofs.Common.{◌∙◌, arith, Result, Ok, Err, String, chars, string_bytes, texts_of, Fault, with_value}
use Rattle.peers.proofs.Common.{place_at, and_place, places_at, Document, Widget, append_assoc}

drop-at : {A : Type 0} (xs : List A) (at : ℕ) (x : A) → at < length xs → x ≡ get_or xs at x →
    drop at xs ≡ x ∷ drop (at + 1) xs
drop-at [] at x within is = absurd (omega (arith, within))
drop-at (y ∷ xs) zero x within is = ap (λ z. z ∷ xs) (sym is)
drop-at (y ∷ xs) (suc at) x within is = drop-at xs at x (omega (arith, within)) is
    ∙ ap (λ n. x ∷ drop n (y ∷ xs)) (let h : suc (at + 1) ≡ suc at + 1 = omega arith in h)

-- the places of the words from one on, behind those that were found
abbrev pub Found : Document → Widget → {Z : Type 0} → ℕ → List (String Z) → ℕ → List ℕ → Type 0
Found document widget {Z} position words index places =
    places_at document widget position (texts_of words)
    ≡ with_value (places_at document widget (position + index) (texts_of (drop index words))) (λ rest.
    Ok (places ++ rest))

module _ {Z : Type 0} (document : Document) (widget : Widget) (position index : ℕ) (words : List (String Z)) (word : String Z)
    (bytes places : List ℕ)
    (within : index < length words) (is : word ≡ get_or words index word) (bytes_are : bytes
    ≡ string_bytes word) (found : Found document widget position words index places) where
  next : places_at document widget position (texts_of words)
      ≡ with_value (and_place (place_at document widget (position + index) (chars bytes))
      (places_at document widget (position + (index + 1)) (texts_of (drop (index + 1) words)))) (λ rest.
      Ok (places ++ rest))
  next =
      found ∙ ap (λ ws. with_value (places_at document widget (position + index) (texts_of ws)) (λ rest. Ok (places ++ rest)))
      (drop-at words index word within is)
      ∙ ap (λ n. with_value (and_place (place_at document widget (position + index) (chars (string_bytes word)))
      (places_at document widget n (texts_of (drop (index + 1) words)))) (λ rest. Ok (places ++ rest)))
      (let h : suc (position + index) ≡ position + (index + 1) = omega arith in h)
      ∙ ap (λ bs. with_value (and_place (place_at document widget (position + index) (chars bs))
      (places_at document widget (position + (index + 1)) (texts_of (drop (index + 1) words)))) (λ rest.
      Ok (places ++ rest)))
      (sym bytes_are)

  pub found-more : (place : ℕ) → place_at document widget (position + index) (chars bytes) ≡ Ok place →
      Found document widget position words (index + 1) (places ++ place ∷ [])
  found-more place gives =
      next
      ∙ ap (λ p.
      with_value (and_place p (places_at document widget (position + (index + 1)) (texts_of (drop (index + 1) words))))
      (λ rest. Ok (places ++ rest))) gives
      ∙ one_more (places_at document widget (position + (index + 1)) (texts_of (drop (index + 1) words)))
    where
      one_more : (rest : Result (List ℕ) Fault) → with_value (and_place (Ok place) rest) (λ rest. Ok (places ++ rest))
          ≡ with_value rest (λ rest. Ok ((places ++ place ∷ []) ++ rest))
      one_more (Err fault) = refl
      one_more (Ok rest) = ap Ok (sym (append_assoc places (place ∷ []) rest))

  pub found-fault : (fault : Fault) → place_at document widget (position + index) (chars bytes) ≡ Err fault →
      places_at document widget position (texts_of words) ≡ Err fault
  found-fault fault gives =
      next
      ∙ ap (λ p.
      with_value (and_place p (places_at document widget (position + (index + 1)) (texts_of (drop (index + 1) words))))
      (λ rest. Ok (places ++ rest))) gives
