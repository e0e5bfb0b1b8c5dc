-- Runs of characters of a text, in the part of it that a view shows.
use Rattle.text_index.proofs.Common.{◌≡◌, ℕ, zero, suc, ◌+◌, ◌-◌, ◌≤◌, min, Bool, true, false, cond, List, [], ◌∷◌}
use Rattle.text_index.proofs.Common.{◌++◌, length, take, drop, refl, sym, ap, ◌∙◌, arith, length-drop, reverse}
use Rattle.text_index.proofs.Common.{slice_range, prefix_len, suffix_len, length-reverse, length-take-le}
use Rattle.text_index.proofs.Common.{reverse-append, take-take, drop-drop}
use Rattle.text_index.proofs.ViewLaws.{take-apart}

-- a front of a text ends its run
prefix-front : (test : ℕ → Bool) (n : ℕ) (text : List ℕ) → prefix_len test (take n text) ≡ min n (prefix_len test text)
prefix-front test zero text = omega arith
prefix-front test (suc n) [] = omega arith
prefix-front test (suc n) (c ∷ text) = by (test c) (prefix-front test n text) where
  by : (b : Bool) → prefix_len test (take n text) ≡ min n (prefix_len test text) →
      cond b (1 + prefix_len test (take n text)) 0 ≡ min (suc n) (cond b (1 + prefix_len test text) 0)
  by true is = ap (λ k. 1 + k) is ∙ omega arith
  by false is = omega arith

take-nil : (n : ℕ) → take {A = ℕ} n [] ≡ []
take-nil zero = refl
take-nil (suc n) = refl

-- so many characters on in a front
drop-front : (n k : ℕ) (text : List ℕ) → drop k (take n text) ≡ take (n - k) (drop k text)
drop-front n zero text = ap (λ m. take m text) (let same : n ≡ n - 0 = omega arith in same)
drop-front zero (suc k) text = ap (λ m. take m (drop (suc k) text)) (let none : 0 ≡ 0 - suc k = omega arith in none)
drop-front (suc n) (suc k) [] = sym (take-nil (suc n - suc k))
drop-front (suc n) (suc k) (c ∷ text) =
    drop-front n k text ∙ ap (λ m. take m (drop k text)) (let same : n - k ≡ suc n - suc k = omega arith in same)

-- the run from a place on ends where that of the text does, or with the part
pub run_end-part : (test : ℕ → Bool) (text : List ℕ) (s e place found : ℕ) → s + place ≤ e →
    found ≡ (s + place) + prefix_len test (drop (s + place) text)
    → min found e - s ≡ place + prefix_len test (drop place (slice_range text s e))
run_end-part test text s e place found within is =
    let run : prefix_len test (drop place (slice_range text s e))
    ≡ min ((e - s) - place) (prefix_len test (drop (s + place) text)) =
    ap (prefix_len test) (drop-front (e - s) place (drop s text)
    ∙ ap (take ((e - s) - place)) (drop-drop place s text))
    ∙ prefix-front test ((e - s) - place) (drop (s + place) text) in
    omega (arith, run, is, within)

-- what goes on in front of a text makes its run no shorter
prefix-rest : (test : ℕ → Bool) (text rest : List ℕ) → length text - prefix_len test text
    ≡ length text - prefix_len test (text ++ rest)
prefix-rest test [] rest = omega arith
prefix-rest test (c ∷ text) rest = by (test c) (prefix-rest test text rest) where
  by : (b : Bool) → length text - prefix_len test text ≡ length text - prefix_len test (text ++ rest) →
      suc (length text) - cond b (1 + prefix_len test text) 0
      ≡ suc (length text) - cond b (1 + prefix_len test (text ++ rest)) 0
  by true is = omega (arith, is)
  by false is = refl

suffix-rest : (test : ℕ → Bool) (front text : List ℕ) → length text - suffix_len test text
    ≡ length text - suffix_len test (front ++ text)
suffix-rest test front text =
    let back = prefix-rest test (reverse text) (reverse front) in
    let same : suffix_len test (front ++ text) ≡ prefix_len test (reverse text ++ reverse front) =
    ap (prefix_len test) (reverse-append front text) in
    omega (arith, back, same, length-reverse text)

-- and the run before a place begins where that of the text does, or with the part
pub run_start-part : (test : ℕ → Bool) (text : List ℕ) (s e place found : ℕ) → s + place ≤ e → e ≤ length text →
    found ≡ (s + place) - suffix_len test (take (s + place) text)
    → found - s ≡ place - suffix_len test (take place (slice_range text s e))
run_start-part test text s e place found within all is =
    let part = take place (drop s text) in
    let same : suffix_len test (take place (slice_range text s e)) ≡ suffix_len test part =
    ap (suffix_len test) (take-take place (e - s) (drop s text) (omega arith)) in
    let whole : suffix_len test (take (s + place) text) ≡ suffix_len test (take s text ++ part) =
    ap (suffix_len test) (take-apart s place text) in
    let long : length part ≡ place = length-take-le place (drop s text) (omega (arith, length-drop s text)) in
    omega (arith, is, same, whole, long, suffix-rest test (take s text) part)
