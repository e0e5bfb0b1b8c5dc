-- The period of a pattern, by its bytes.
use Rattle.search_dump.proofs.Common.{◌≡◌, ◌≢◌, ℕ, ◌+◌, ◌-◌, ◌<◌, ◌≤◌, inl, inr, List, ◌++◌, refl, sym, ap, subst, ◌∙◌}
use Rattle.search_dump.proofs.Common.{arith, length, take, drop, chars, encode_utf8, encode_utf8_all, IsCharBoundary}
use Rattle.search_dump.proofs.Common.{IsUtf8, HasTextAt, LacksTextAt, cases_eq, drop_at, drop-drop, length-append}
use Rattle.search_dump.proofs.Common.{length-drop, take-append-drop, take-append-le, take_at, IsCharBoundary-from_rest}
use Rattle.search_dump.proofs.Common.{IsUtf8-drop, chars-append, encodes-append, encodes-chars, IsPeriod}
use Rattle.search_dump.proofs.TextLaws.{bytes_before, bytes_before-cut, bytes_before-least, bytes_before-less}
use Rattle.search_dump.proofs.TextLaws.{bytes_of_first, bytes_of_none, chars-front, chars-rest, drop_bytes}
use Rattle.search_dump.proofs.TextLaws.{front-within}

-- a place behind the first character
pub later-begins : (bs later : List ℕ) (c : ℕ) → bs ≡ encode_utf8 c ++ later →
    drop (length bs - length later) bs ≡ later
later-begins bs later c first =
    ap (λ n. drop n bs) (omega (arith, ap length first, length-append (encode_utf8 c) later))
    ∙ ap (drop (length (encode_utf8 c))) first ∙ drop_at (encode_utf8 c) later (length (encode_utf8 c)) refl

pub later-boundary : (bs later : List ℕ) (c i : ℕ) → bs ≡ encode_utf8 c ++ later → IsCharBoundary later i →
    IsCharBoundary bs (length bs - length later + i)
later-boundary bs later c i first cut =
    IsCharBoundary-from_rest bs (length bs - length later) i (omega arith)
    (subst (λ rest. IsCharBoundary rest i) (sym (later-begins bs later c first)) cut)

module _ (bs half later tail : List ℕ) (c i j at : ℕ) (utf8 : IsUtf8 bs) (first : bs ≡ encode_utf8 c ++ later) (some : 0
    < length (encode_utf8 c)) (is_half : half ≡ take (length half) bs)
    (lacks : (k : ℕ) → k < i → LacksTextAt half later k) (has : HasTextAt half later i j) (within : i
    ≤ length later) (cut : IsCharBoundary bs at)
    (is_at : at ≡ length bs - length later + i) (again : bs ≡ drop at bs ++ tail) where
  distance : ℕ
  distance = length (chars (take at bs))

  long : length bs ≡ length (encode_utf8 c) + length later
  long = ap length first ∙ length-append (encode_utf8 c) later

  place : at ≡ length (encode_utf8 c) + i
  place = omega (arith, long, is_at)

  fits : length half + at ≤ length bs
  fits =
      omega (arith, long, place, ap length has.split ∙ length-append half (drop j later), length-drop i later, within)

  rest : drop distance (chars bs) ≡ chars (drop at bs)
  unfolding distance
  rest = chars-rest bs at utf8 cut

  parts : chars bs ≡ drop distance (chars bs) ++ chars tail
  parts = ap chars again ∙ chars-append (drop at bs) tail (IsUtf8-drop bs at utf8 cut)
      ∙ ap (λ xs. xs ++ chars tail) (sym rest)

  near : distance ≤ length (chars bs)
  unfolding distance
  near = front-within bs at utf8 cut

  far : 0 < distance
  unfolding distance
  far =
      elim (cases_eq distance 0) [
        | inl same ↦ absurd (omega (
          arith,
          ap (bytes_before (chars bs)) same,
          bytes_of_none (chars bs),
          bytes_before-cut bs at utf8 cut,
          place,
          some,
        ))
        | inr other ↦ omega arith
      ]

  none_less : (less : ℕ) → 0 < less → less < distance → drop less (chars bs)
      ≢ take (length (chars bs) - less) (chars bs)
  unfolding distance
  none_less less above below same =
      let cs = chars bs in
      let front = encode_utf8_all (take (length cs - less) cs) in
      let from = bytes_before cs less in
      let before : from < at = omega (
        arith,
        bytes_before-less cs less distance below near,
        bytes_before-cut bs at utf8 cut,
      ) in
      let behind : length (encode_utf8 c) ≤ from = omega (
        arith,
        bytes_of_first bs later c utf8 first,
        bytes_before-least cs 1 less (omega arith) (omega (arith, near)),
      ) in
      let whole : bs ≡ front ++ encode_utf8_all (drop (length cs - less) cs) =
      sym (encodes-chars bs utf8) ∙ ap encode_utf8_all (sym (take-append-drop (length cs - less) cs))
      ∙ encodes-append (take (length cs - less) cs) (drop (length cs - less) cs) in
      let there : drop from bs ≡ front = ap (drop from) (sym (encodes-chars bs utf8)) ∙ drop_bytes cs less
      ∙ ap encode_utf8_all same in
      let room : length half ≤ length front = omega (arith, ap length there, length-drop from bs, fits, before) in
      let begins : take (length half) front ≡ half =
      sym (take-append-le (length half) front (encode_utf8_all (drop (length cs - less) cs)) room)
      ∙ ap (take (length half)) (sym whole) ∙ sym is_half in
      let in_later : drop (from - length (encode_utf8 c)) later ≡ drop from bs =
      ap (drop (from - length (encode_utf8 c))) (sym (ap (drop (length (encode_utf8 c))) first
      ∙ drop_at (encode_utf8 c) later (length (encode_utf8 c)) refl))
      ∙ drop-drop (from - length (encode_utf8 c)) (length (encode_utf8 c)) bs
      ∙ ap (λ n. drop n bs) (omega (arith, behind)) in
      lacks (from - length (encode_utf8 c)) (omega (arith, before, behind, place)) (drop (length half) front)
      (in_later ∙ there ∙ sym (take-append-drop (length half) front) ∙ ap (λ xs. xs ++ drop (length half) front) begins)

  pub period-at : (front : List ℕ) (count : ℕ) → front ≡ take at bs → count ≡ length (chars front) →
      IsPeriod (chars bs) count (chars front) (chars tail)
  unfolding distance
  period-at front count is_front counted =
      let same : count ≡ distance = counted ∙ ap (λ xs. length (chars xs)) is_front in
      let left : length (drop distance (chars bs)) ≡ length (chars bs) - distance = length-drop distance (chars bs) in
      subst (λ n. IsPeriod (chars bs) n (chars front) (chars tail)) (sym same) (record {
        some = far;
        within = near;
        again = sym (ap (take (length (chars bs) - distance)) parts
            ∙ take_at (drop distance (chars bs)) (chars tail) (length (chars bs) - distance) left);
        least = none_less;
        front = ap chars is_front ∙ sym (chars-front bs at utf8 cut);
        tail = sym (ap (drop (length (chars bs) - distance)) parts
            ∙ drop_at (drop distance (chars bs)) (chars tail) (length (chars bs) - distance) left);
      })
