-- The next line joins that of a copy which is taken out of a draft.
use Rattle.line_lists.proofs.Common.{◌≡◌, ℕ, ◌+◌, ◌-◌, ◌<◌, List, [], ◌∷◌, ◌++◌, Some, Result, Ok, Err, length, take}
use Rattle.line_lists.proofs.Common.{drop, refl, sym, ap, ap₂, subst, ◌∙◌, arith, length-drop, OnOk, reverse, slice_get}
use Rattle.line_lists.proofs.Common.{drop-drop, reverse-append, LineContent, joined, Copied, Reached, Stop, IsReached}
use Rattle.line_lists.proofs.Common.{IsStop, IsTaken, copies_of, covered, drafted, lines_behind, made_lines, used}
use Rattle.line_lists.proofs.Common.{JoinsNext, whole}
use Rattle.line_lists.proofs.FindLaws.{drop_after, opened_next}
use Rattle.line_lists.proofs.WholeLaws.{whole-one}

-- what two facts of a success say of it
pub both_ok : {T E P Q R : Type 0} (found : Result T E) → (P → Q → R) → OnOk found P → OnOk found Q → OnOk found R
both_ok (Ok value) both first second = both first second
both_ok (Err fault) both first second = tt

pub none_popped : {A : Type 0} (xs : List A) → (0 < length xs → ⊥) → xs ≡ []
none_popped [] never = refl
none_popped (x ∷ xs) never = absurd (never (omega arith))

-- the first of lines
pub first-line : (lines : List LineContent) (n : ℕ) (line : LineContent) → slice_get lines n ≡ Some line →
    whole (take 1 (drop n lines)) ≡ line
first-line lines n line is = ap (λ xs. whole (take 1 xs)) (drop_after lines n line is) ∙ whole-one line

pub first-of : (lines : List LineContent) → 0 < length lines → lines ≡ whole (take 1 lines) ∷ drop 1 lines
first-of [] some = absurd (omega (arith, some))
first-of (x ∷ xs) some = ap (λ line. line ∷ xs) (sym (whole-one x))

-- a stop whose copy has another line, or stands for more lines, still tells what it told
pub still-placed : (lines : List LineContent) (copies : List Copied) (stop new : Stop) → IsStop stop copies lines →
    new.reached ≡ stop.reached → new.start ≡ stop.start → new.copy.kept ≡ stop.copy.kept → IsStop new copies lines
still-placed lines copies stop new placed reached_is start_is kept_is = record {
  reached = subst (λ reached. IsReached reached copies lines) (sym reached_is) placed.reached;
  start =
      start_is ∙ placed.start
      ∙ ap₂ (λ (reached : Reached) kept. reached.characters + length (whole (take kept (drop reached.used lines))).columns)
      (sym reached_is) (sym kept_is);
}

pub joins : (old new line : LineContent) (behind rest : List LineContent) → behind ≡ line ∷ rest →
    new ≡ joined old line → JoinsNext old new behind rest
joins old new line behind rest is new_is = record {
  line = new_is ∙ ap (joined old) (sym (ap (λ xs. whole (take 1 xs)) is ∙ whole-one line));
  others = sym (ap (drop 1) is);
}

-- ---- the next line is that of the next copy
pub behind-copied : (lines : List LineContent) (copies back : List Copied) (copy new next : Copied) → next.kept ≡ 0 →
    new.kept ≡ copy.kept → new.gone ≡ copy.gone + next.gone
    → lines_behind copies copy (back ++ next ∷ []) lines ≡ next.line ∷ lines_behind copies new back lines
behind-copied lines copies back copy new next none kept gone =
    let n = used copies + covered copy in
    let m = used copies + covered new in
    let cs = reverse back in
    let rest = drop n lines in
    ap (λ xs. drafted xs rest) (reverse-append back (next ∷ []))
    ∙ ap (λ k. (take k rest ++ next.line ∷ made_lines cs (drop (covered next) rest))
    ++ drop (covered next + used cs) rest) none
    ∙ ap₂ (λ xs ys. next.line ∷ (made_lines cs xs ++ ys))
    (drop-drop (covered next) n lines ∙ ap (λ k. drop k lines) (let same : n + covered next
    ≡ m = omega (arith, none, kept, gone) in same))
    (drop-drop (covered next + used cs) n lines
    ∙ ap (λ k. drop k lines) (let same : n + (covered next + used cs) ≡ m + used cs = omega (arith, none, kept, gone) in
    same)
    ∙ sym (drop-drop (used cs) m lines))

-- it is one that is kept before that copy
pub kept-there : (lines : List LineContent) (front : List Stop) (back : List Copied) (stop : Stop) (next : Copied) →
    IsTaken lines front (back ++ next ∷ []) stop → 0 < next.kept
    → stop.reached.used + covered stop.copy < length lines
kept-there lines front back stop next taken some =
    omega (arith, taken.there, some, taken.placed.reached.used, ap used (reverse-append back (next ∷ [])))

pub behind-kept : (lines : List LineContent) (copies back : List Copied) (copy new next less : Copied) → 0 < next.kept →
    used copies + covered copy < length lines
    → less.kept ≡ next.kept - 1 → less.gone ≡ next.gone → less.line ≡ next.line → new.kept ≡ copy.kept →
    new.gone ≡ copy.gone + 1
    → lines_behind copies copy (back ++ next ∷ []) lines ≡ whole (take 1 (drop (used copies + covered copy) lines))
    ∷ lines_behind copies new (back ++ less ∷ []) lines
behind-kept lines copies back copy new next less some within fewer same text kept gone =
    let n = used copies + covered copy in
    let rest = drop n lines in
    let line = whole (take 1 rest) in
    let get : slice_get rest 0 ≡ Some line = ap (λ xs. slice_get xs 0)
    (first-of rest (omega (arith, within, length-drop n lines))) in
    ap (λ xs. drafted xs rest) (reverse-append back (next ∷ []))
    ∙ opened_next rest 0 line next less (reverse back) get some (omega (arith, fewer)) same text
    ∙ ap (λ xs. line ∷ drafted (less ∷ reverse back) xs)
    (drop-drop 1 n lines ∙ ap (λ k. drop k lines) (let here : n + 1
    ≡ used copies + covered new = omega (arith, kept, gone) in here))
    ∙ ap (λ xs. line ∷ drafted xs (drop (used copies + covered new) lines)) (sym (reverse-append back (less ∷ [])))

-- there is no other copy
pub rest-there : (lines : List LineContent) (front : List Stop) (stop : Stop) → IsTaken lines front [] stop →
    0 < length (lines_behind (copies_of front) stop.copy [] lines)
    → stop.reached.used + covered stop.copy < length lines
rest-there lines front stop taken some =
    omega (arith, some, taken.placed.reached.used, length-drop (used (copies_of front) + covered stop.copy) lines)

pub behind-rest : (lines : List LineContent) (copies : List Copied) (copy new : Copied) →
    used copies + covered copy < length lines → new.kept ≡ copy.kept → new.gone ≡ copy.gone + 1
    → lines_behind copies copy [] lines ≡ whole (take 1 (drop (used copies + covered copy) lines))
    ∷ lines_behind copies new [] lines
behind-rest lines copies copy new within kept gone =
    let n = used copies + covered copy in
    let rest = drop n lines in
    first-of rest (omega (arith, within, length-drop n lines))
    ∙ ap (λ xs. whole (take 1 rest) ∷ xs) (drop-drop 1 n lines
    ∙ ap (λ k. drop k lines) (let here : n + 1 ≡ used copies + covered new = omega (arith, kept, gone) in here))
