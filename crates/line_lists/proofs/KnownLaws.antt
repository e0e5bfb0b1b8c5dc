-- The slots that are on behind copies, by one copy more or less.
use Rattle.line_lists.proofs.Common.{◌≡◌, ℕ, zero, suc, ◌+◌, ◌≤◌, List, [], ◌∷◌, ◌++◌, length, take, drop, sym, ap, ◌∙◌}
use Rattle.line_lists.proofs.Common.{subst, arith, append_assoc, reverse, slice_get, append-nil, slice_get_within}
use Rattle.line_lists.proofs.Common.{Slots, differing, differing-commutative, LineContent, Copied, Stop, AreStops}
use Rattle.line_lists.proofs.Common.{IsBefore, IsDraft, IsKnown, IsReached, copies_of, copy_tags, covered, made_lines}
use Rattle.line_lists.proofs.Common.{tags_after, used, whole, tags_left_of, None, Option, Some}
use Rattle.line_lists.specs.declared.drafts.Known.{Known}
use Rattle.line_lists.proofs.DraftLaws.{behind-whole, copies-snoc, made-snoc, some_same, used-append}
use Rattle.line_lists.proofs.SlotLaws.{differing-back}
use Rattle.line_lists.proofs.WholeLaws.{whole-one}

take-next : {A : Type 0} (xs : List A) (n : ℕ) (x : A) → slice_get xs n ≡ Some x → take (suc n) xs ≡ take n xs ++ x ∷ []
take-next {A = A} [] n x is = let no : ◌≡◌ {A = Option A} None (Some x) = is in absurd (cc)
take-next (y ∷ ys) zero x is = ap (λ z. z ∷ []) (some_same y x is)
take-next (y ∷ ys) (suc n) x is = ap (λ rest. y ∷ rest) (take-next ys n x is)

-- what a stop tells
stops-at : (lines : List LineContent) (before : List Copied) (stops : List Stop) (n : ℕ) (stop : Stop) →
    AreStops lines before stops → slice_get stops n ≡ Some stop →
    IsReached stop.reached (before ++ copies_of (take n stops)) lines
stops-at lines before [] n stop are is = let no : ◌≡◌ {A = Option Stop} None (Some stop) = is in absurd (cc)
stops-at lines before (first ∷ stops) zero stop are is =
    subst (λ (x : Stop). IsReached x.reached (before ++ []) lines) (some_same first stop is)
    (subst (λ copies. IsReached first.reached copies lines) (sym (append-nil before)) are.0.reached)
stops-at lines before (first ∷ stops) (suc n) stop are is =
    subst (λ copies. IsReached stop.reached copies lines)
    (append_assoc before (first.copy ∷ []) (copies_of (take n stops)))
    (stops-at lines (before ++ first.copy ∷ []) stops n stop are.1 is)

used-at : (stops : List Stop) (n : ℕ) (stop : Stop) → slice_get stops n ≡ Some stop →
    used (copies_of (take n stops)) + covered stop.copy ≤ used (copies_of stops)
used-at [] n stop is = let no : ◌≡◌ {A = Option Stop} None (Some stop) = is in absurd (cc)
used-at (first ∷ stops) zero stop is = omega (arith, ap (λ (x : Stop). covered x.copy) (some_same first stop is))
used-at (first ∷ stops) (suc n) stop is = omega (arith, used-at stops n stop is)

-- what it covers is there
pub stop-there : (lines : List LineContent) (stops : List Stop) (n : ℕ) (stop : Stop) →
    AreStops lines [] stops → used (copies_of stops) ≤ length lines → slice_get stops n ≡ Some stop →
    stop.reached.used + covered stop.copy ≤ length lines
stop-there lines stops n stop are there is =
    omega (arith, there, used-at stops n stop is, (stops-at lines [] stops n stop are is).used)

pub draft-there : (lines : List LineContent) (front : List Stop) (back : List Copied) → IsDraft lines front back →
    used (copies_of front) ≤ length lines
draft-there lines front back draft = omega (arith, used-append (copies_of front) (reverse back), draft.there)

pub copy-tags : (lines : List LineContent) (stop : Stop) → copy_tags lines stop
    ≡ differing (tags_left_of (whole (take stop.copy.kept (drop stop.reached.used lines))).columns)
    (tags_left_of stop.copy.line.columns)
copy-tags lines stop =
    let kept = take stop.copy.kept (drop stop.reached.used lines) in
    behind-whole kept (stop.copy.line ∷ [])
    ∙ ap (λ (line : LineContent). differing (tags_left_of (whole kept).columns) (tags_left_of line.columns))
    (whole-one stop.copy.line)

-- one copy more
tags-next : (lines : List LineContent) (stops : List Stop) (n : ℕ) (stop : Stop) → AreStops lines [] stops →
    slice_get stops n ≡ Some stop
    → tags_after lines (take (suc n) stops) ≡ differing (tags_after lines (take n stops)) (copy_tags lines stop)
tags-next lines stops n stop are is =
    let before = take n stops in
    let copies = copies_of before in
    let reached = stops-at lines [] stops n stop are is in
    ap (tags_after lines) (take-next stops n stop is)
    ∙ ap (λ xs. tags_left_of (whole (made_lines xs lines)).columns) (copies-snoc before stop)
    ∙ ap (λ xs. tags_left_of (whole xs).columns) (made-snoc copies stop.copy lines)
    ∙ behind-whole (made_lines copies lines) (take stop.copy.kept (drop (used copies) lines) ++ stop.copy.line ∷ [])
    ∙ ap (λ m. differing (tags_after lines before)
    (tags_left_of (whole (take stop.copy.kept (drop m lines) ++ stop.copy.line ∷ [])).columns)) (sym reached.used)

next_of : (m n : ℕ) → m ≡ n + 1 → m ≡ suc n
next_of m n is = omega (arith, is)

pub known-forth : (lines : List LineContent) (stops : List Stop) (known new : Known) (stop : Stop) →
    AreStops lines [] stops → IsKnown lines stops known → slice_get stops known.count ≡ Some stop →
    new.count ≡ known.count + 1 → new.tags ≡ differing known.tags (copy_tags lines stop) → IsBefore lines new.before →
    IsKnown lines stops new
known-forth lines stops known new stop are so_far is count_is tags_are before_is = record {
  few = omega (arith, slice_get_within stops known.count stop is, count_is);
  tags =
      tags_are ∙ ap (λ s. differing s (copy_tags lines stop)) so_far.tags
      ∙ sym (ap (λ n. tags_after lines (take n stops)) (next_of new.count known.count count_is)
      ∙ tags-next lines stops known.count stop are is);
  before = before_is;
}

-- one copy less
turned-twice : (s t : Slots) → differing (differing s t) t ≡ s
turned-twice s t = differing-commutative (differing s t) t ∙ differing-back s t

pub known-back : (lines : List LineContent) (stops : List Stop) (known new : Known) (stop : Stop) →
    AreStops lines [] stops → IsKnown lines stops known → slice_get stops new.count ≡ Some stop →
    known.count ≡ new.count + 1 → new.tags ≡ differing known.tags (copy_tags lines stop) → IsBefore lines new.before →
    IsKnown lines stops new
known-back lines stops known new stop are so_far is count_is tags_are before_is = record {
  few = omega (arith, so_far.few, count_is);
  tags =
      tags_are ∙ ap (λ s. differing s (copy_tags lines stop))
      (so_far.tags ∙ ap (λ n. tags_after lines (take n stops)) (next_of known.count new.count count_is)
      ∙ tags-next lines stops new.count stop are is)
      ∙ turned-twice (tags_after lines (take new.count stops)) (copy_tags lines stop);
  before = before_is;
}
