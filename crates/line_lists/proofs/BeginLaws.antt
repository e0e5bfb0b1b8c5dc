-- Where to begin to take the toggles of a slot away from an offset on: if the kept line that holds it has none, further
-- on. All is as if that line were copied, and cleared, which leaves the text as it is.
use Rattle.line_lists.proofs.Common.{◌≡◌, ℕ, ◌+◌, ◌-◌, ◌<◌, ◌≤◌, min, true, false, List, [], ◌∷◌, ◌++◌, length, take}
use Rattle.line_lists.proofs.Common.{drop, refl, sym, ap, subst, ◌∙◌, arith, IfSome, slice_get, LineContent, Copied}
use Rattle.line_lists.proofs.Common.{Reached, Stop, AreFree, free_end, IsReached, IsTaken, IsText, StandsAt, copies_of}
use Rattle.line_lists.proofs.Common.{covered, drafted_at, line_start, taken_lines, text_at, place_of, with_cleared}
use Rattle.line_lists.proofs.Common.{has_toggle, whole}
use Rattle.line_lists.proofs.ClearingLaws.{ClearsLine, cleared-none, clears-line, clears-on, end-rest, end-within}
use Rattle.line_lists.proofs.ClearingLaws.{line-kept, place-behind}
use Rattle.line_lists.proofs.DraftLaws.{copies-snoc, reached-more, stop_of}
use Rattle.line_lists.proofs.FindLaws.{IsKept, begin, begin-more, begin-next, opened, opened-rest, opened-stands}
use Rattle.line_lists.proofs.FindLaws.{taken-is}

-- how many characters stand between two lines
between : (lines : List LineContent) (i j : ℕ) → i ≤ j →
    begin lines i + length (whole (take (j - i) (drop i lines))).columns ≡ begin lines j
between lines i j ordered =
    sym (begin-more lines i (j - i))
    ∙ ap (begin lines) (let same : i + (j - i) ≡ j = omega (arith, ordered) in same)

-- an offset in a kept line without a toggle of the slot, behind all copies
pub record BeginsFree (slot from to : ℕ) (lines : List LineContent) (front : List Stop) (back : List Copied)
    (reached : Reached) (line column : ℕ) (here : LineContent) : Type 0 where
  pub none : back ≡ []
  pub text : IsText lines front back
  pub kept : IsKept lines front reached from line column here
  pub free : has_toggle slot here ≡ false
  pub ordered : from < to

module _ {slot from to : ℕ} {lines : List LineContent} {front : List Stop} {back : List Copied} {reached : Reached}
    {line column : ℕ} {here : LineContent}
    (begins : BeginsFree slot from to lines front back reached line column here) where
  abbrev copy_here : Copied
  copy_here = opened reached line here

  abbrev stop_here : Stop
  stop_here = stop_of lines reached copy_here

  abbrev passed : List Stop
  passed = front ++ stop_here ∷ []

  abbrev old : LineContent
  old = text_at lines front back

  same : taken_lines lines front [] copy_here ≡ drafted_at lines front back
  same = opened-rest begins.kept ∙ ap (drafted_at lines front) (sym begins.none)

  text_is : text_at lines passed [] ≡ old
  text_is = ap whole (taken-is lines front [] stop_here ∙ same)

  stands : StandsAt lines front copy_here from column
  stands = opened-stands begins.kept

  taken : IsTaken lines front [] stop_here
  taken = record {
    stops = begins.text.draft.stops;
    placed = record { reached = begins.kept.so_far; start = refl };
    there = omega (arith, begins.kept.so_far.used, begins.kept.found.first, begins.kept.found.within);
  }

  clears : ClearsLine slot from to lines (drafted_at lines front back) passed []
  clears =
      clears-line slot from to column lines (drafted_at lines front back) front [] stop_here here taken same stands
      begins.text.rows begins.text.draft.counted begins.ordered
      (line-kept slot column (min (length here.columns) (column + (to - from))) here (omega (arith, stands.inside))
      begins.free)

  -- up to an offset in the same line, or to its end
  pub free-line : to - from ≤ length here.columns - column → old ≡ with_cleared slot from to old
  free-line small =
      let end : min to (place_of lines passed) ≡ to = omega (
        arith,
        small,
        place-behind lines front stop_here,
        stands.place,
        stands.inside,
      ) in
      sym text_is ∙ clears.new ∙ ap (λ n. with_cleared slot from n old) end

  -- up to the next line with a toggle
  module _ (next : ℕ) (above : line + 1 ≤ next)
      (free_lines : AreFree slot (take (next - (line + 1)) (drop (line + 1) lines)))
      (stops : next < length lines →
      IfSome (slice_get lines next) (λ (x : LineContent). has_toggle slot x ≡ true)) where
    abbrev beyond : Reached
    beyond = record {
      used = reached.used + covered copy_here;
      characters = line_start reached copy_here lines + length here.columns;
    }

    abbrev behind : ℕ
    behind = reached.characters + length (whole (take (next - reached.used) (drop reached.used lines))).columns

    goes_beyond : IsReached beyond (copies_of passed) lines
    goes_beyond = subst (λ copies. IsReached beyond copies lines) (sym (copies-snoc front stop_here))
        (reached-more reached beyond (copies_of front) copy_here lines begins.kept.so_far refl refl)

    first : beyond.used ≡ line + 1
    first = omega (arith, begins.kept.found.first)

    behind-is : behind ≡ free_end slot lines passed []
    behind-is =
        let ends = end-rest slot lines passed beyond goes_beyond next (omega (arith, first, above))
        (subst (λ n. AreFree slot (take (next - n) (drop n lines))) (sym first) free_lines) [] refl stops in
        omega (
          arith,
          ends,
          first,
          between lines reached.used next (omega (arith, begins.kept.found.first, above)),
          between lines beyond.used next (omega (arith, first, above)),
          between lines reached.used line begins.kept.found.first,
          ap (begin lines) first,
          begin-next lines line here begins.kept.get,
        )

    pub behind-within : behind ≤ length old.columns
    behind-within = omega (
      arith,
      behind-is,
      end-within slot lines passed [],
      ap (λ (x : LineContent). length x.columns) text_is,
    )

    pub behind-above : from ≤ behind
    behind-above = omega (arith, behind-is, clears.above)

    pub free-lines : to ≤ length old.columns → old ≡ with_cleared slot from (min behind to) old
    free-lines within =
        clears-on slot from from to (min behind to) lines passed [] old old old (omega arith) begins.ordered within
        (sym (cleared-none slot from old)) clears.above clears.new (omega (arith, behind-is)) (sym text_is)
