-- What is found in a part of a text, and so in the whole.
use Rattle.search_dump.proofs.Common.{◌≡◌, ℕ, ◌+◌, ◌-◌, ◌<◌, ◌≤◌, ◌&&◌, inl, inr, min, Bool, true, false, Option, None}
use Rattle.search_dump.proofs.Common.{Some, List, reverse, refl, sym, ap, subst, ◌∙◌, arith, length, take, drop}
use Rattle.search_dump.proofs.Common.{bytes_eq, slice_range, find, is_some, option_or, find-append, and_left, cases_lt}
use Rattle.search_dump.proofs.Common.{false≢true, le-leb, lt-leb, true≢false, drop-drop, drop-map, drop-take}
use Rattle.search_dump.proofs.Common.{length-drop, length-map, length-take, take-map, take-take, simple_fold, compared}
use Rattle.search_dump.proofs.Common.{matches_at, places, behind_front, front, nearest, ordered, Stretch, Direction}
use Rattle.search_dump.proofs.Common.{Forward, Back}
use Rattle.search_dump.proofs.MatchLaws.{match-fits}
use Rattle.search_dump.proofs.PlaceLaws.{NonePasses, find-greatest, find-least, find-none, find-none-back}
use Rattle.search_dump.proofs.PlaceLaws.{found-ordered, greatest-find, least-find, none-find, none-find-back}
use Rattle.search_dump.proofs.PlaceLaws.{none-ordered, places-split, reverse-split}

pub compared-part : (ignores_case : Bool) (xs : List ℕ) (from to : ℕ) →
    compared ignores_case (slice_range xs from to) ≡ slice_range (compared ignores_case xs) from to
compared-part true xs from to =
    sym (take-map simple_fold (to - from) (drop from xs)) ∙ ap (take (to - from)) (sym (drop-map simple_fold from xs))
compared-part false xs from to = refl

pub length-compared : (ignores_case : Bool) (xs : List ℕ) → length (compared ignores_case xs) ≡ length xs
length-compared true xs = length-map xs simple_fold
length-compared false xs = refl

-- the characters of a text that the matches at some places from one on may have
pub record IsWindow (pattern text window : List ℕ) (low count end : ℕ) : Type 0 where
  pub some : 0 < count
  pub fits : low + (count - 1) + length pattern ≤ end
  pub inside : end ≤ length text
  pub is : window ≡ slice_range text low (low + (count - 1) + length pattern)

pub match-where : (pattern text : List ℕ) (end at : ℕ) → at + length pattern ≤ end →
    matches_at pattern text end at ≡ bytes_eq (take (length pattern) (drop at text)) pattern
match-where pattern text end at fits =
    ap (λ test. test && bytes_eq (take (length pattern) (drop at text)) pattern) (le-leb (at + length pattern) end fits)

pub match-past : (pattern text : List ℕ) (end at : ℕ) → end < at + length pattern →
    matches_at pattern text end at ≡ false
match-past pattern text end at past =
    and_left _ (bytes_eq (take (length pattern) (drop at text)) pattern) (lt-leb (at + length pattern) end past)

module _ (pattern text window : List ℕ) (low count end : ℕ) (part : IsWindow pattern text window low count end) where
  long : length window ≡ count - 1 + length pattern
  long =
      ap length part.is ∙ length-take (low + (count - 1) + length pattern - low) (drop low text)
      ∙ omega (arith, length-drop low text, part.fits, part.inside)

  same : (i : ℕ) → i < count → matches_at pattern window (length window) i ≡ matches_at pattern text end (low + i)
  same i within =
      match-where pattern window (length window) i (omega (arith, long, part.some))
      ∙ ap (λ xs. bytes_eq (take (length pattern) (drop i xs)) pattern) part.is
      ∙ ap (λ n. bytes_eq (take (length pattern) (drop i (take n (drop low text)))) pattern)
      (let e : low + (count - 1) + length pattern - low ≡ i + (count - 1 + length pattern - i) = omega arith in e)
      ∙ ap (λ xs. bytes_eq (take (length pattern) xs) pattern)
      (drop-take i (count - 1 + length pattern - i) (drop low text))
      ∙ ap (λ xs. bytes_eq xs pattern) (take-take (length pattern) (count - 1 + length pattern - i)
      (drop i (drop low text)) (omega arith))
      ∙ ap (λ xs. bytes_eq (take (length pattern) xs) pattern) (drop-drop i low text)
      ∙ sym (match-where pattern text end (low + i) (omega (arith, part.fits)))

  past : (i : ℕ) → count ≤ i → matches_at pattern window (length window) i ≡ false
  past i beyond = match-past pattern window (length window) i (omega (arith, long, part.some))

  within_count : (i : ℕ) → matches_at pattern window (length window) i ≡ true → i < count
  within_count i is = omega (arith, match-fits pattern window (length window) i is, long, part.some)

  none_here : NonePasses (matches_at pattern window (length window)) 0 (length window + 1) →
      NonePasses (matches_at pattern text end) low (low + count)
  none_here none k above below =
      let e : low + (k - low) ≡ k = omega arith in
      ap (matches_at pattern text end) (sym e) ∙ sym (same (k - low) (omega arith))
      ∙ none (k - low) (omega arith) (omega (arith, long, part.some))

  found_here : (i : ℕ) → matches_at pattern window (length window) i ≡ true →
      matches_at pattern text end (low + i) ≡ true
  found_here i is = sym (same i (within_count i is)) ∙ is

  before_found : (at : ℕ) → at < count → ((i : ℕ) → i < at → matches_at pattern window (length window) i ≡ false) →
      (k : ℕ) → low ≤ k → k < low + at → matches_at pattern text end k ≡ false
  before_found at near none k above below =
      let e : low + (k - low) ≡ k = omega arith in
      ap (matches_at pattern text end) (sym e) ∙ sym (same (k - low) (omega arith)) ∙ none (k - low) (omega arith)

  behind_found : (at : ℕ) → ((i : ℕ) → at < i → i < length window + 1 →
      matches_at pattern window (length window) i ≡ false) → (k : ℕ) → low + at < k → k < low + count →
      matches_at pattern text end k ≡ false
  behind_found at none k above below =
      let e : low + (k - low) ≡ k = omega arith in
      ap (matches_at pattern text end) (sym e) ∙ sym (same (k - low) (omega arith))
      ∙ none (k - low) (omega arith) (omega (arith, long, part.some))

  -- the match of the part that comes first is that of the whole
  pub window-some : (direction : Direction) (at : ℕ) → Some at
      ≡ find (matches_at pattern window (length window)) (ordered direction (places 0 (length window + 1)))
      → Some (low + at) ≡ find (matches_at pattern text end) (ordered direction (places low (low + count)))
  window-some Forward at found =
      let least = least-find (matches_at pattern window (length window)) 0 (length window + 1) at (sym found) in
      let near = within_count at least.passes in
      sym (find-least (matches_at pattern text end) low (low + count) (low + at) (record {
        above = omega arith;
        below = omega arith;
        passes = found_here at least.passes;
        none = before_found at near (λ i below. least.none i (omega arith) below);
      }))
  window-some Back at found =
      let greatest = greatest-find (matches_at pattern window (length window)) 0 (length window + 1) at (sym found) in
      let near = within_count at greatest.passes in
      sym (find-greatest (matches_at pattern text end) low (low + count) (low + at) (record {
        above = omega arith;
        below = omega arith;
        passes = found_here at greatest.passes;
        none = behind_found at greatest.none;
      }))

  pub window-none : (direction : Direction) → None
      ≡ find (matches_at pattern window (length window)) (ordered direction (places 0 (length window + 1)))
      → None ≡ find (matches_at pattern text end) (ordered direction (places low (low + count)))
  window-none Forward found =
      sym (find-none (matches_at pattern text end) low (low + count)
      (none_here (none-find (matches_at pattern window (length window)) 0 (length window + 1) (sym found))))
  window-none Back found =
      sym (find-none-back (matches_at pattern text end) low (low + count)
      (none_here (none-find-back (matches_at pattern window (length window)) 0 (length window + 1) (sym found))))

-- the part that is read
pub window-read : (ignores_case : Bool) (shown : List ℕ) (stretch : Stretch) {pattern window read : List ℕ} {len : ℕ} →
    len ≡ length pattern → stretch.low < stretch.high → stretch.high - 1 + len ≤ stretch.end
    → stretch.end ≤ length shown → window ≡ read → read
    ≡ compared ignores_case (slice_range shown stretch.low (stretch.high - 1 + len))
    → IsWindow pattern (compared ignores_case shown) window stretch.low (stretch.high - stretch.low) stretch.end
window-read ignores_case shown stretch {len = len} is_len some fits inside is_read was_read = record {
  some = omega arith;
  fits = omega arith;
  inside = omega (arith, length-compared ignores_case shown);
  is = is_read ∙ was_read ∙ compared-part ignores_case shown stretch.low (stretch.high - 1 + len)
      ∙ ap (slice_range (compared ignores_case shown) stretch.low) (omega arith);
}

-- ---- the first match of a stretch

option_or-none : {A : Type 0} (o : Option A) → option_or o None ≡ o
option_or-none None = refl
option_or-none (Some x) = refl

fitting : (direction : Direction) (test : ℕ → Bool) (low middle high : ℕ) → low ≤ middle → middle ≤ high →
    NonePasses test middle high
    → find test (ordered direction (places low middle)) ≡ find test (ordered direction (places low high))
fitting Forward test low middle high first second none =
    sym (ap (find test) (places-split low middle high first second)
    ∙ find-append test (places low middle) (places middle high)
    ∙ ap (option_or (find test (places low middle))) (find-none test middle high none)
    ∙ option_or-none (find test (places low middle)))
fitting Back test low middle high first second none =
    sym (ap (find test) (reverse-split low middle high first second)
    ∙ find-append test (reverse (places middle high)) (reverse (places low middle))
    ∙ ap (λ o. option_or o (find test (reverse (places low middle)))) (find-none-back test middle high none))

-- no match begins where it would go beyond the end
pub nearest-cut : (direction : Direction) (pattern text : List ℕ) (stretch : Stretch) (last : ℕ) → last ≤ stretch.high →
    (last < stretch.high → stretch.end + 1 - length pattern ≤ last)
    → nearest direction pattern text (record stretch { high = last }) ≡ nearest direction pattern text stretch
nearest-cut direction pattern text stretch last within past =
    let test = matches_at pattern text stretch.end in
    elim (cases_lt stretch.low last) [
      | inl some ↦ fitting direction test stretch.low last stretch.high (omega arith) within (λ k above below.
          match-past pattern text stretch.end k (omega (arith, past (omega arith))))
      | inr none ↦
          none-ordered direction test stretch.low last (λ k above below. absurd (omega arith))
          ∙ sym (none-ordered direction test stretch.low stretch.high (λ k above below.
          match-past pattern text stretch.end k (omega (arith, past (omega arith)))))
    ]

nearest-split : (direction : Direction) (pattern text : List ℕ) (stretch : Stretch) (count : ℕ) →
    stretch.low + count ≤ stretch.high
    → nearest direction pattern text stretch
    ≡ option_or (nearest direction pattern text (front direction count stretch))
    (nearest direction pattern text (behind_front direction count stretch))
nearest-split Forward pattern text stretch count within =
    let test = matches_at pattern text stretch.end in
    ap (find test) (places-split stretch.low (stretch.low + count) stretch.high (omega arith) within)
    ∙ find-append test (places stretch.low (stretch.low + count)) (places (stretch.low + count) stretch.high)
nearest-split Back pattern text stretch count within =
    let test = matches_at pattern text stretch.end in
    ap (find test) (reverse-split stretch.low (stretch.high - count) stretch.high (omega arith) (omega arith))
    ∙ find-append test (reverse (places (stretch.high - count) stretch.high))
    (reverse (places stretch.low (stretch.high - count)))

is-first : {A : Type 0} (first : Option A) (later : Option A) → is_some first ≡ true → first ≡ option_or first later
is-first None later is = absurd (false≢true is)
is-first (Some x) later is = refl

is-later : {A : Type 0} (first : Option A) (later : Option A) → is_some first ≡ false → option_or first later ≡ later
is-later None later is = refl
is-later (Some x) later is = absurd (true≢false is)

-- a match in front is the first
pub nearest-front : (direction : Direction) (pattern text : List ℕ) (stretch : Stretch) (count : ℕ) (found : Option ℕ) →
    stretch.low + count ≤ stretch.high
    → found ≡ nearest direction pattern text (front direction count stretch) → is_some found ≡ true →
    found ≡ nearest direction pattern text stretch
nearest-front direction pattern text stretch count found within is some =
    is-first found (nearest direction pattern text (behind_front direction count stretch)) some
    ∙ ap (λ o. option_or o (nearest direction pattern text (behind_front direction count stretch))) is
    ∙ sym (nearest-split direction pattern text stretch count within)

-- without one it is the first of the others
pub nearest-behind : (direction : Direction) (pattern text : List ℕ) (stretch : Stretch) (count : ℕ) (found : Option ℕ)
    → stretch.low + count ≤ stretch.high
    → found ≡ nearest direction pattern text (front direction count stretch) → is_some found ≡ false
    → nearest direction pattern text (behind_front direction count stretch) ≡ nearest direction pattern text stretch
nearest-behind direction pattern text stretch count found within is none =
    sym (nearest-split direction pattern text stretch count within
    ∙ is-later (nearest direction pattern text (front direction count stretch))
    (nearest direction pattern text (behind_front direction count stretch)) (ap is_some (sym is) ∙ none))

pub nearest-nowhere : (direction : Direction) (pattern text : List ℕ) (stretch : Stretch) → stretch.high ≤ stretch.low →
    None ≡ nearest direction pattern text stretch
nearest-nowhere direction pattern text stretch past =
    sym (none-ordered direction (matches_at pattern text stretch.end) stretch.low stretch.high (λ k above below.
    absurd (omega arith)))

-- a match lies within
pub record IsWithin (stretch : Stretch) (len at : ℕ) : Type 0 where
  pub above : stretch.low ≤ at
  pub below : at < stretch.high
  pub fits : at + len ≤ stretch.end

pub nearest-within : (direction : Direction) (pattern text : List ℕ) (stretch : Stretch) (at : ℕ) →
    nearest direction pattern text stretch ≡ Some at → IsWithin stretch (length pattern) at
nearest-within direction pattern text stretch at found =
    let is = found-ordered direction (matches_at pattern text stretch.end) stretch.low stretch.high at found in
    record { above = is.above; below = is.below; fits = match-fits pattern text stretch.end at is.passes }

-- What is left of a stretch has its first match.
pub record IsLeft (direction : Direction) (pattern text : List ℕ) (stretch rest : Stretch) : Type 0 where
  pub same : nearest direction pattern text rest ≡ nearest direction pattern text stretch
  pub end : rest.end ≡ stretch.end
  pub fits : rest.low < rest.high → rest.high - 1 + length pattern ≤ rest.end

left-cut : (direction : Direction) (pattern text : List ℕ) (stretch : Stretch) (last : ℕ) →
    last ≡ min stretch.high (stretch.end + 1 - length pattern)
    → IsLeft direction pattern text stretch (record stretch { high = min stretch.high last })
left-cut direction pattern text stretch last is = record {
  same = nearest-cut direction pattern text stretch (min stretch.high last) (omega arith) (λ before. omega arith);
  end = refl;
  fits = λ some. omega arith;
}

pub left-begun : {direction : Direction} {pattern text : List ℕ} {stretch rest : Stretch} {last len : ℕ} →
    len ≡ length pattern → last ≡ min stretch.high (stretch.end + 1 - len)
    → rest ≡ record stretch { high = min stretch.high last } → IsLeft direction pattern text stretch rest
left-begun {direction} {pattern} {text} {stretch} {last = last} is_len is is_rest =
    subst (IsLeft direction pattern text stretch) (sym is_rest)
    (left-cut direction pattern text stretch last (is ∙ ap (λ n. min stretch.high (stretch.end + 1 - n)) is_len))

left-behind : (direction : Direction) (pattern text : List ℕ) (stretch rest : Stretch) (count : ℕ) (found : Option ℕ) →
    IsLeft direction pattern text stretch rest → rest.low + count ≤ rest.high
    → found ≡ nearest direction pattern text (front direction count rest) → is_some found ≡ false →
    IsLeft direction pattern text stretch (behind_front direction count rest)
left-behind Forward pattern text stretch rest count found left within is none = record {
  same = nearest-behind Forward pattern text rest count found within is none ∙ left.same;
  end = left.end;
  fits = λ some. left.fits (omega arith);
}
left-behind Back pattern text stretch rest count found left within is none = record {
  same = nearest-behind Back pattern text rest count found within is none ∙ left.same;
  end = left.end;
  fits = λ some. omega (arith, left.fits (omega arith));
}

pub left-on : (count : ℕ) {direction : Direction} {pattern text : List ℕ} {stretch rest part later : Stretch}
    {found : Option ℕ} → IsLeft direction pattern text stretch rest → rest.low + count ≤ rest.high
    → part ≡ front direction count rest → found ≡ nearest direction pattern text part → is_some found ≡ false →
    later ≡ behind_front direction count rest → IsLeft direction pattern text stretch later
left-on count {direction} {pattern} {text} {stretch} {rest} {found = found} left within is_part is none is_later =
    subst (IsLeft direction pattern text stretch) (sym is_later)
    (left-behind direction pattern text stretch rest count found left within (is
    ∙ ap (nearest direction pattern text) is_part) none)

pub left-found : (count : ℕ) {direction : Direction} {pattern text : List ℕ} {stretch rest part : Stretch}
    {found : Option ℕ} → IsLeft direction pattern text stretch rest → rest.low + count ≤ rest.high
    → part ≡ front direction count rest → found ≡ nearest direction pattern text part → is_some found ≡ true →
    found ≡ nearest direction pattern text stretch
left-found count {direction} {pattern} {text} {stretch} {rest} {found = found} left within is_part is some =
    nearest-front direction pattern text rest count found within (is ∙ ap (nearest direction pattern text) is_part) some
    ∙ left.same

-- the part, as the code reads it
pub read-some : (direction : Direction) (stretch : Stretch) {pattern text window : List ℕ} {at : ℕ} →
    stretch.low < stretch.high → IsWindow pattern text window stretch.low (stretch.high - stretch.low) stretch.end
    → Some at ≡ find (matches_at pattern window (length window)) (ordered direction (places 0 (length window + 1))) →
    Some (stretch.low + at) ≡ nearest direction pattern text stretch
read-some direction stretch {pattern} {text} {window} {at} some part found =
    window-some pattern text window stretch.low (stretch.high - stretch.low) stretch.end part direction at found
    ∙ ap (λ n. find (matches_at pattern text stretch.end) (ordered direction (places stretch.low n))) (omega arith)

pub read-none : (direction : Direction) (stretch : Stretch) {pattern text window : List ℕ} →
    stretch.low < stretch.high → IsWindow pattern text window stretch.low (stretch.high - stretch.low) stretch.end
    → None ≡ find (matches_at pattern window (length window)) (ordered direction (places 0 (length window + 1))) →
    None ≡ nearest direction pattern text stretch
read-none direction stretch {pattern} {text} {window} some part found =
    window-none pattern text window stretch.low (stretch.high - stretch.low) stretch.end part direction found
    ∙ ap (λ n. find (matches_at pattern text stretch.end) (ordered direction (places stretch.low n))) (omega arith)
