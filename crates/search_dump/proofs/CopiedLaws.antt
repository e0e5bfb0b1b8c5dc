-- What a copy of a text has, and what is left of it behind a piece.
use Rattle.search_dump.proofs.Common.{◌≡◌, ℕ, ◌+◌, ◌-◌, ◌≤◌, ◌++◌, List, max, min, sym, ap, ◌∙◌, arith, length, take}
use Rattle.search_dump.proofs.Common.{drop, chars, slice_range, append_cancel_right, chars-append, drop-drop, drop-take}
use Rattle.search_dump.proofs.Common.{length-drop, length-take, take-append-drop, take-take, drop_all, IsCharBoundary}
use Rattle.search_dump.proofs.Common.{IsUtf8, IsUtf8-take, chars-nil, AreLeft, left_of}
use Rattle.search_dump.specs.declared.copied.Copied.{Copied}

-- a copy that goes as far as it may
pub copy-within : (line limit to start end : ℕ) → start ≤ end → limit ≤ end - start → start + to ≤ end →
    start + max (min line limit) to ≤ end
copy-within line limit to start end ordered far within = omega arith

-- how many characters are copied
pub copy-counted : (text bytes : List ℕ) (from to : ℕ) → from ≤ to → to ≤ length text →
    chars bytes ≡ slice_range text from to → to ≡ from + length (chars bytes)
copy-counted text bytes from to ordered within is =
    omega (arith, ap length is ∙ length-take (to - from) (drop from text), length-drop from text)

-- a part that is cut in two
module _ {A : Type 0} (xs : List A) (from to end : ℕ) (ordered : from ≤ to) (within : to ≤ end) where
  pub part-front : take (to - from) (slice_range xs from end) ≡ slice_range xs from to
  part-front = take-take (to - from) (end - from) (drop from xs) (omega arith)

  pub part-rest : drop (to - from) (slice_range xs from end) ≡ slice_range xs to end
  part-rest =
      ap (λ n. drop (to - from) (take n (drop from xs)))
      (let e : end - from ≡ to - from + (end - to) = omega arith in e)
      ∙ drop-take (to - from) (end - to) (drop from xs) ∙ ap (take (end - to)) (drop-drop (to - from) from xs)
      ∙ ap (λ n. take (end - to) (drop n xs)) (let e : from + (to - from) ≡ to = omega arith in e)

-- what stands before a character of a text
pub front_of : (text : List ℕ) (byte count : ℕ) → IsUtf8 text → IsCharBoundary text byte →
    chars (drop byte text) ≡ drop count (chars text) → chars (take byte text) ≡ take count (chars text)
front_of text byte count utf8 boundary behind =
    append_cancel_right (chars (take byte text)) (take count (chars text)) (drop count (chars text))
    (ap (λ rest. chars (take byte text) ++ rest) (sym behind)
    ∙ sym (chars-append (take byte text) (drop byte text) (IsUtf8-take text byte utf8 boundary))
    ∙ ap chars (take-append-drop byte text)
    ∙ sym (take-append-drop count (chars text)))

-- behind all that is left
pub behind-all : (rest : List ℕ) (bytes count : ℕ) → length rest ≤ bytes → length (chars rest) ≤ count →
    chars (drop bytes rest) ≡ drop count (chars rest)
behind-all rest bytes count all also =
    ap chars (drop_all bytes rest all) ∙ chars-nil ∙ sym (drop_all count (chars rest) also)

-- the characters up to a place
pub left-front : (text : List ℕ) (copied : Copied) (to : ℕ) → AreLeft text copied → copied.place ≤ to → to ≤ copied.end
    → take (to - copied.place) (left_of copied) ≡ slice_range text copied.place to
left-front text copied to left ordered within =
    ap (take (to - copied.place)) left.are ∙ part-front text copied.place to copied.end ordered within

-- those from it on
pub left-rest : (text : List ℕ) (copied : Copied) (to : ℕ) → AreLeft text copied → copied.place ≤ to → to ≤ copied.end
    → drop (to - copied.place) (left_of copied) ≡ slice_range text to copied.end
left-rest text copied to left ordered within =
    ap (drop (to - copied.place)) left.are ∙ part-rest text copied.place to copied.end ordered within
