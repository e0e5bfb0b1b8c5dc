-- Where the characters of a text have a pattern, by its bytes.
use Rattle.search_dump.proofs.Common.{◌≡◌, ℕ, ◌+◌, ◌<◌, ◌≤◌, true, false, Option, None, Some, List, ◌++◌, reverse, refl}
use Rattle.search_dump.proofs.Common.{sym, ap, ◌∙◌, arith, length, take, drop, chars, encode_utf8_all, find}
use Rattle.search_dump.proofs.Common.{IsCharBoundary, IsUtf8, HasTextAt, LacksTextAt, and_from, and_parts}
use Rattle.search_dump.proofs.Common.{false_from_ne_true, le-leb, leb-true, length-append, take-append-drop, take_at}
use Rattle.search_dump.proofs.Common.{bytes_eq-Decides, chars-append, encodes-append, encodes-chars, matches_at, places}
use Rattle.search_dump.proofs.PlaceLaws.{find-greatest, find-least, find-none, find-none-back}
use Rattle.search_dump.proofs.TextLaws.{bytes_before, bytes_before-cut, bytes_before-less, bytes_before-within}
use Rattle.search_dump.proofs.TextLaws.{chars-front, chars-rest, drop_bytes, front-within}

-- what a match says
pub match-fits : (pattern text : List ℕ) (end at : ℕ) → matches_at pattern text end at ≡ true →
    at + length pattern ≤ end
match-fits pattern text end at is = leb-true (at + length pattern) end (and_parts _ _ is).0

pub match-same : (pattern text : List ℕ) (end at : ℕ) → matches_at pattern text end at ≡ true →
    take (length pattern) (drop at text) ≡ pattern
match-same pattern text end at is =
    (bytes_eq-Decides (take (length pattern) (drop at text)) pattern).0 (and_parts _ _ is).1

pub match-from : (pattern text : List ℕ) (end at : ℕ) → at + length pattern ≤ end →
    take (length pattern) (drop at text) ≡ pattern → matches_at pattern text end at ≡ true
match-from pattern text end at fits same = and_from _ _ (le-leb (at + length pattern) end fits)
    ((bytes_eq-Decides (take (length pattern) (drop at text)) pattern).1 same)

abbrev pub first_place : List ℕ → List ℕ → Option ℕ
first_place pattern text =
    find (matches_at (chars pattern) (chars text) (length (chars text))) (places 0 (length (chars text) + 1))

abbrev pub last_place : List ℕ → List ℕ → Option ℕ
last_place pattern text =
    find (matches_at (chars pattern) (chars text) (length (chars text))) (reverse (places 0 (length (chars text) + 1)))

module _ (pattern text : List ℕ) (pattern_utf8 : IsUtf8 pattern) (text_utf8 : IsUtf8 text) where
  -- where a text has no bytes of a pattern it has no match of its characters
  pub lacks-match : (end at : ℕ) → LacksTextAt pattern text (bytes_before (chars text) at) →
      matches_at (chars pattern) (chars text) end at ≡ false
  lacks-match end at lacks =
      false_from_ne_true (matches_at (chars pattern) (chars text) end at) (λ is.
      let rest = drop (length (chars pattern)) (drop at (chars text)) in
      let split : drop at (chars text) ≡ chars pattern ++ rest =
      sym (take-append-drop (length (chars pattern)) (drop at (chars text)))
      ∙ ap (λ xs. xs ++ rest) (match-same (chars pattern) (chars text) end at is) in
      lacks (encode_utf8_all rest)
      (ap (drop (bytes_before (chars text) at)) (sym (encodes-chars text text_utf8)) ∙ drop_bytes (chars text) at
      ∙ ap encode_utf8_all split
      ∙ encodes-append (chars pattern) rest
      ∙ ap (λ xs. xs ++ encode_utf8_all rest) (encodes-chars pattern pattern_utf8)))

  lacks-within : ((k : ℕ) → k ≤ length text → LacksTextAt pattern text k) → (at : ℕ) →
      matches_at (chars pattern) (chars text) (length (chars text)) at ≡ false
  lacks-within lacks at = lacks-match (length (chars text)) at
      (lacks (bytes_before (chars text) at) (bytes_before-within text at text_utf8))

  pub first_place-none : ((k : ℕ) → k ≤ length text → LacksTextAt pattern text k) → first_place pattern text ≡ None
  first_place-none lacks =
      find-none (matches_at (chars pattern) (chars text) (length (chars text))) 0 (length (chars text) + 1)
      (λ k above below. lacks-within lacks k)

  pub last_place-none : ((k : ℕ) → k ≤ length text → LacksTextAt pattern text k) → last_place pattern text ≡ None
  last_place-none lacks =
      find-none-back (matches_at (chars pattern) (chars text) (length (chars text))) 0 (length (chars text) + 1)
      (λ k above below. lacks-within lacks k)

  module _ (i j : ℕ) (from : IsCharBoundary text i) (to : IsCharBoundary text j) (has : HasTextAt pattern text i j)
    where
      -- where it has the bytes of a pattern it has a match of its characters
      has-match : matches_at (chars pattern) (chars text) (length (chars text)) (length (chars (take i text))) ≡ true
      has-match =
          let at = length (chars (take i text)) in
          let split : drop at (chars text) ≡ chars pattern ++ chars (drop j text) =
          chars-rest text i text_utf8 from ∙ ap chars has.split ∙ chars-append pattern (drop j text) pattern_utf8 in
          let long : length (chars text) ≡ at + (length (chars pattern) + length (chars (drop j text))) =
          ap length (sym (take-append-drop at (chars text)))
          ∙ length-append (take at (chars text)) (drop at (chars text))
          ∙ ap (λ n. n + length (drop at (chars text))) (ap length (chars-front text i text_utf8 from))
          ∙ ap (λ xs. at + length xs) split ∙ ap (λ n. at + n) (length-append (chars pattern) (chars (drop j text))) in
          match-from (chars pattern) (chars text) (length (chars text)) at (omega arith)
          (ap (take (length (chars pattern))) split
          ∙ take_at (chars pattern) (chars (drop j text)) (length (chars pattern)) refl)

      pub first_place-at : ((k : ℕ) → k < i → LacksTextAt pattern text k) →
          first_place pattern text ≡ Some (length (chars (take i text)))
      first_place-at lacks =
          let at = length (chars (take i text)) in
          find-least (matches_at (chars pattern) (chars text) (length (chars text))) 0 (length (chars text) + 1) at
          (record {
            above = omega arith;
            below = omega (arith, front-within text i text_utf8 from);
            passes = has-match;
            none = λ k above below. lacks-match (length (chars text)) k (lacks (bytes_before (chars text) k) (omega (
              arith,
              bytes_before-less (chars text) k at below (front-within text i text_utf8 from),
              bytes_before-cut text i text_utf8 from,
            )));
          })

      pub last_place-at : ((k : ℕ) → i < k → k ≤ length text → LacksTextAt pattern text k) →
          last_place pattern text ≡ Some (length (chars (take i text)))
      last_place-at lacks =
          let at = length (chars (take i text)) in
          find-greatest (matches_at (chars pattern) (chars text) (length (chars text))) 0 (length (chars text) + 1) at
          (record {
            above = omega arith;
            below = omega (arith, front-within text i text_utf8 from);
            passes = has-match;
            none = λ k above below. lacks-match (length (chars text)) k (lacks (bytes_before (chars text) k) (omega (
              arith,
              bytes_before-less (chars text) at k above (omega arith),
              bytes_before-cut text i text_utf8 from,
            )) (bytes_before-within text k text_utf8));
          })
