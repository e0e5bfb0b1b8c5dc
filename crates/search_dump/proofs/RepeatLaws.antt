-- Where a pattern that repeats itself stands again.
use Rattle.search_dump.proofs.Common.{◌≡◌, ℕ, ◌+◌, ◌-◌, ◌<◌, ◌≤◌, Bool, true, false, Option, None, Some, List, ◌++◌}
use Rattle.search_dump.proofs.Common.{sym, ap, ◌∙◌, arith, length, take, drop, nat_le, nat_lt, slice_range, SomeIff}
use Rattle.search_dump.proofs.Common.{none-some, same_Some, and_parts, false_from_ne_true, leb-true, ltb-true}
use Rattle.search_dump.proofs.Common.{drop-drop, drop-take, take-append-drop, take-take, Direction, Forward, Back}
use Rattle.search_dump.proofs.Common.{take-apart, Stretch, matches_at, HasMatch, IsBehind, IsPeriod, beside, nearest}
use Rattle.search_dump.proofs.Common.{◌&&◌, min}
use Rattle.search_dump.proofs.MatchLaws.{match-fits, match-from, match-same}
use Rattle.search_dump.proofs.PlaceLaws.{find-greatest, find-least}
use Rattle.search_dump.proofs.WindowLaws.{IsWithin}

module _ (pattern text : List ℕ) (distance : ℕ) (first last : List ℕ) (period : IsPeriod pattern distance first last)
    (place : ℕ) (there : HasMatch pattern text place) where
  here : take (length pattern) (drop place text) ≡ pattern
  here = match-same pattern text (length text) place there

  -- the end of a match, behind its first characters
  end-of : (less : ℕ) → less ≤ length pattern → take (length pattern - less) (drop (place + less) text)
      ≡ drop less pattern
  end-of less within =
      ap (take (length pattern - less)) (sym (drop-drop less place text))
      ∙ sym (drop-take less (length pattern - less) (drop place text))
      ∙ ap (λ n. drop less (take n (drop place text))) (let e : less + (length pattern - less)
      ≡ length pattern = omega arith in e)
      ∙ ap (drop less) here

  pub goes-on : place + length pattern + distance ≤ length text →
      slice_range text (place + length pattern) (place + length pattern + distance) ≡ last →
      HasMatch pattern text (place + distance)
  goes-on room is_last =
      let far = drop (place + distance) text in
      match-from pattern text (length text) (place + distance) (omega arith)
      (ap (λ n. take n far) (let e : length pattern
      ≡ (length pattern - distance) + distance = omega (arith, period.within) in e)
      ∙ take-apart (length pattern - distance) distance far
      ∙ ap (λ xs. xs ++ take distance (drop (length pattern - distance) far)) (end-of distance period.within
      ∙ period.again)
      ∙ ap (λ xs. take (length pattern - distance) pattern ++ take distance xs)
      (drop-drop (length pattern - distance) (place + distance) text
      ∙ ap (λ n. drop n text) (let e : place + distance + (length pattern - distance)
      ≡ place + length pattern = omega (arith, period.within) in e))
      ∙ ap (λ n. take (length pattern - distance) pattern ++ take n (drop (place + length pattern) text))
      (let e : distance ≡ place + length pattern + distance - (place + length pattern) = omega arith in e)
      ∙ ap (λ xs. take (length pattern - distance) pattern ++ xs) (is_last ∙ period.tail)
      ∙ take-append-drop (length pattern - distance) pattern)

  pub goes-back : distance ≤ place → slice_range text (place - distance) place ≡ first →
      HasMatch pattern text (place - distance)
  goes-back room is_first =
      let near = drop (place - distance) text in
      match-from pattern text (length text) (place - distance)
      (omega (arith, match-fits pattern text (length text) place there))
      (ap (λ n. take n near) (let e : length pattern
      ≡ distance + (length pattern - distance) = omega (arith, period.within) in e)
      ∙ take-apart distance (length pattern - distance) near
      ∙ ap (λ n. take n near ++ take (length pattern - distance) (drop distance near)) (let e : distance
      ≡ place - (place - distance) = omega arith in e)
      ∙ ap (λ xs. xs ++ take (length pattern - distance) (drop distance near)) (is_first ∙ period.front)
      ∙ ap (λ xs. take distance pattern ++ take (length pattern - distance) xs)
      (drop-drop distance (place - distance) text
      ∙ ap (λ n. drop n text) (let e : place - distance + distance ≡ place = omega arith in e))
      ∙ ap (λ xs. take distance pattern ++ xs)
      (sym (take-take (length pattern - distance) (length pattern) (drop place text) (omega arith))
      ∙ ap (take (length pattern - distance)) here ∙ sym period.again)
      ∙ take-append-drop distance pattern)

-- two matches don't stand at less than the period
module _ (pattern text : List ℕ) (distance : ℕ) (first last : List ℕ) (period : IsPeriod pattern distance first last)
  where
    none-nearer : (place less end : ℕ) → HasMatch pattern text place → 0 < less → less < distance →
        matches_at pattern text end (place + less) ≡ false
    none-nearer place less end there above below =
        false_from_ne_true (matches_at pattern text end (place + less)) (λ is.
        period.least less above below
        (sym (end-of pattern text distance first last period place there less (omega (arith, period.within)))
        ∙ sym (take-take (length pattern - less) (length pattern) (drop (place + less) text) (omega arith))
        ∙ ap (take (length pattern - less)) (match-same pattern text end (place + less) is)))

    none-nearer-back : (place less end : ℕ) → less ≤ place → HasMatch pattern text place → 0 < less → less < distance →
        matches_at pattern text end (place - less) ≡ false
    none-nearer-back place less end within there above below =
        false_from_ne_true (matches_at pattern text end (place - less)) (λ is.
        let e : place - less + less ≡ place = omega arith in
        let fits = match-fits pattern text (length text) place there in
        let earlier : HasMatch pattern text (place - less) = match-from pattern text (length text) (place - less)
        (omega arith) (match-same pattern text end (place - less) is) in
        period.least less above below
        (sym (end-of pattern text distance first last period (place - less) earlier less (omega (arith, period.within)))
        ∙ ap (λ n. take (length pattern - less) (drop n text)) e
        ∙ sym (take-take (length pattern - less) (length pattern) (drop place text) (omega arith))
        ∙ ap (take (length pattern - less)) (match-same pattern text (length text) place there)))

    -- so the one at the period is the first behind a match
    pub nearest-beside : (direction : Direction) (stretch : Stretch) (place : ℕ) → HasMatch pattern text place →
        IsBehind direction stretch place
        → IsWithin stretch (length pattern) (beside direction place distance) →
        HasMatch pattern text (beside direction place distance) →
        Some (beside direction place distance) ≡ nearest direction pattern text stretch
    nearest-beside Forward stretch place there behind within found =
        sym (find-least (matches_at pattern text stretch.end) stretch.low stretch.high (place + distance) (record {
          above = within.above;
          below = within.below;
          passes = match-from pattern text stretch.end (place + distance) within.fits
              (match-same pattern text (length text) (place + distance) found);
          none = λ k above below.
              let e : place + (k - place) ≡ k = omega arith in
              ap (matches_at pattern text stretch.end) (sym e)
              ∙ none-nearer place (k - place) stretch.end there (omega arith) (omega arith);
        }))
    nearest-beside Back stretch place there behind within found =
        sym (find-greatest (matches_at pattern text stretch.end) stretch.low stretch.high (place - distance) (record {
          above = within.above;
          below = within.below;
          passes = match-from pattern text stretch.end (place - distance) within.fits
              (match-same pattern text (length text) (place - distance) found);
          none = λ k above below.
              let e : place - (place - k) ≡ k = omega arith in
              ap (matches_at pattern text stretch.end) (sym e)
              ∙ none-nearer-back place (place - k) stretch.end (omega arith) there (omega arith) (omega arith);
        }))

-- ---- as the code says it

pub some-given : (found : Option ℕ) (given : Type 0) (value at : ℕ) → SomeIff found given value → found ≡ Some at →
    at ≡ value
some-given None given value at says is = absurd (none-some at is)
some-given (Some other) given value at says is = sym (same_Some other at is) ∙ says.1

pub has-within : (stretch : Stretch) (at len : ℕ) (has : Bool) →
    has ≡ (nat_le stretch.low at && nat_lt at (min stretch.high (stretch.end + 1 - len))) → has ≡ true →
    IsWithin stretch len at
has-within stretch at len has is yes-it =
    let parts = and_parts _ _ (sym is ∙ yes-it) in
    let above = leb-true stretch.low at parts.0 in
    let below = ltb-true at (min stretch.high (stretch.end + 1 - len)) parts.1 in
    record { above = above; below = omega arith; fits = omega arith }
