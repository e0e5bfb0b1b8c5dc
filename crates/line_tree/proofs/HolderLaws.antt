-- Which of some lines has the mark of a number.
use Rattle.line_tree.proofs.Common.{◌≡◌, ℕ, zero, suc, ◌-◌, ◌<◌, ◌≤◌, Bool, true, false, cond, List, [], ◌∷◌, ◌++◌}
use Rattle.line_tree.proofs.Common.{length, take, drop, refl, sym, ap, ap₂, ◌∙◌, arith, is_some, slice_get, slice_range}
use Rattle.line_tree.proofs.Common.{Option, None, Some, none-some, same_Some, Place, LineContent, Named, contents}
use Rattle.line_tree.proofs.Common.{NodePtr, AreRows, has_mark, has_marks, next_line, whole, drop_after, FailFrom}
use Rattle.line_tree.proofs.Common.{next-found, next-none, AreBare, IsMarkedBelow, holder, lines_without, IsLineAt}
use Rattle.line_tree.proofs.Common.{changed}
use mathlib.Core.Bool.{false≢true}
use Rattle.line_lists.proofs.MarkPlaces.{has-none}
use Rattle.line_lists.proofs.RowLaws.{free-parts}
use Rattle.line_tree.proofs.NearestLaws.{long}
use Rattle.std.specs.FinMap as finite

-- ---- the first of two
abbrev pub first : Option NodePtr → Option NodePtr → Option NodePtr
first None o = o
first (Some p) o = Some p

first-cond : (b : Bool) (p : NodePtr) (o r : Option NodePtr) → cond b (Some p) (first o r) ≡ first (cond b (Some p) o) r
first-cond true p o r = refl
first-cond false p o r = refl

pub holder-append : (n : ℕ) (xs ys : List Named) → holder n (xs ++ ys) ≡ first (holder n xs) (holder n ys)
holder-append n [] ys = refl
holder-append n (x ∷ xs) ys = ap (λ o. cond (has_mark n x.1) (Some x.0) o) (holder-append n xs ys)
    ∙ first-cond (has_mark n x.1) x.0 (holder n xs) (holder n ys)

first-none : (o : Option NodePtr) → first o None ≡ o
first-none None = refl
first-none (Some p) = refl

-- ---- marks of a line
pub unmarked : (n : ℕ) (line : LineContent) → finite.get line.marks n ≡ None → has_mark n line ≡ false
unmarked n line free = ap is_some free

there : (o : Option Place) → is_some o ≡ true → (place : Place) × (o ≡ Some place)
there None is = absurd (false≢true is)
there (Some place) is = (place, refl)

pub marked-at : (n : ℕ) (line : LineContent) → has_mark n line ≡ true →
    (place : Place) × (finite.get line.marks n ≡ Some place)
marked-at n line is = there (finite.get line.marks n) is

bare-line : (n : ℕ) (line : LineContent) → has_marks line ≡ false → has_mark n line ≡ false
bare-line n line bare = elim (finite.get line.marks n) as (λ o. finite.get line.marks n ≡ o → has_mark n line ≡ false) [
  | None ↦ λ free. unmarked n line free
  | Some place ↦ λ is. absurd (has-none line n place bare is)
] refl

-- ---- lines without marks
bare-lines : (n : ℕ) (ls : List Named) (m : ℕ) → FailFrom has_marks (contents ls) 0 m → m ≤ length ls →
    holder n (take m ls) ≡ None
bare-lines n ls zero free within = refl
bare-lines n [] (suc m) free within = refl
bare-lines n (l ∷ ls) (suc m) free within =
    ap (λ b. cond b (Some l.0) (holder n (take m ls))) (bare-line n l.1 (free 0 (omega arith) (omega arith)))
    ∙ bare-lines n ls m (λ j more less. free (suc j) (omega arith) (omega arith)) (omega arith)

take_nil : (m : ℕ) → ◌≡◌ {A = List Named} (take m []) []
take_nil zero = refl
take_nil (suc m) = refl

less_one : (from to : ℕ) → suc to - suc from ≡ to - from
less_one from to = omega arith

bare-from : (ls : List Named) (from to : ℕ) → FailFrom has_marks (contents ls) from to → to ≤ length ls →
    AreBare from to ls
bare-from ls zero to free within n = let e : to - 0 ≡ to = omega arith in
    ap (λ m. holder n (take m ls)) e ∙ bare-lines n ls to free within
bare-from [] (suc from) to free within n = ap (holder n) (take_nil (to - suc from))
bare-from (l ∷ ls) (suc from) zero free within n = let e : 0 - suc from ≡ 0 = omega arith in
    ap (λ m. holder n (take m (drop from ls))) e
bare-from (l ∷ ls) (suc from) (suc to) free within n =
    ap (λ m. holder n (take m (drop from ls))) (less_one from to)
    ∙ bare-from ls from to (λ j more less. free (suc j) (omega arith) (omega arith)) (omega arith) n

pub bare-rest : (ls : List Named) (from to : ℕ) → to ≤ length ls → next_line has_marks from (contents ls) ≡ None →
    AreBare from to ls
bare-rest ls from to within none =
    let l = long ls in bare-from ls from to (λ j more less.
    next-none has_marks from (contents ls) none j more (omega arith)) within

pub bare-until : (ls : List Named) (from to k : ℕ) → to ≤ length ls → to ≤ k →
    next_line has_marks from (contents ls) ≡ Some k → AreBare from to ls
bare-until ls from to k within past is =
    let at = next-found has_marks from (contents ls) k is in
    bare-from ls from to (λ j more less. at.free j more (omega arith)) within

pub bare-next : (ls : List Named) (from to k : ℕ) (p : NodePtr) → next_line has_marks from (contents ls) ≡ Some k →
    k < to → IsLineAt ls k p → IsMarkedBelow from to ls (k, p)
bare-next ls from to k p is below named =
    let at = next-found has_marks from (contents ls) k is in let l = long ls in let within = at.within in
    record { above = at.above; below = below; bare = bare-from ls from k at.free (omega arith); named = named }

-- ---- a walk over lines without marks
pub whole-list : (n : ℕ) (xs : List Named) → take n xs ++ drop n xs ≡ xs
whole-list zero xs = refl
whole-list (suc n) [] = refl
whole-list (suc n) (x ∷ xs) = ap (λ ys. x ∷ ys) (whole-list n xs)

pub split-take : (from to : ℕ) (ls : List Named) → from ≤ to → take to ls ≡ take from ls ++ slice_range ls from to
split-take zero to ls ordered = let e : to ≡ to - 0 = omega arith in ap (λ n. take n ls) e
split-take (suc from) zero ls ordered = absurd (omega arith)
split-take (suc from) (suc to) [] ordered = sym (take_nil (suc to - suc from))
split-take (suc from) (suc to) (l ∷ ls) ordered =
    ap (λ xs. l ∷ xs) (split-take from to ls (omega arith)
    ∙ ap (λ m. take from ls ++ take m (drop from ls)) (sym (less_one from to)))

pub split-drop : (from to : ℕ) (ls : List Named) → from ≤ to → drop from ls ≡ slice_range ls from to ++ drop to ls
split-drop zero to ls ordered = let e : to ≡ to - 0 = omega arith in
    sym (whole-list to ls) ∙ ap (λ n. take n ls ++ drop to ls) e
split-drop (suc from) zero ls ordered = absurd (omega arith)
split-drop (suc from) (suc to) [] ordered = sym (ap (λ (xs : List Named). xs ++ []) (take_nil (suc to - suc from)))
split-drop (suc from) (suc to) (l ∷ ls) ordered =
    split-drop from to ls (omega arith) ∙ ap (λ m. take m (drop from ls) ++ drop to ls) (sym (less_one from to))

pub bare-take : (n from to : ℕ) (ls : List Named) → from ≤ to → AreBare from to ls →
    holder n (take to ls) ≡ holder n (take from ls)
bare-take n from to ls ordered bare =
    ap (holder n) (split-take from to ls ordered) ∙ holder-append n (take from ls) (slice_range ls from to)
    ∙ ap (first (holder n (take from ls))) (bare n) ∙ first-none (holder n (take from ls))

pub bare-drop : (n from to : ℕ) (ls : List Named) → from ≤ to → AreBare from to ls →
    holder n (drop from ls) ≡ holder n (drop to ls)
bare-drop n from to ls ordered bare =
    ap (holder n) (split-drop from to ls ordered) ∙ holder-append n (slice_range ls from to) (drop to ls)
    ∙ ap (λ o. first o (holder n (drop to ls))) (bare n)

-- ---- no number stands twice
none-whole : (n : ℕ) (ls : List Named) → finite.get (whole (contents ls)).marks n ≡ None → holder n ls ≡ None
none-whole n [] free = refl
none-whole n (l ∷ ls) free =
    let parts = free-parts l.1 (whole (contents ls)) n free in
    ap (λ b. cond b (Some l.0) (holder n ls)) (unmarked n l.1 parts.1) ∙ none-whole n ls parts.0

pub not-first : (n : ℕ) (l : Named) (ls : List Named) → holder n (l ∷ ls) ≡ None →
    (has_mark n l.1 ≡ false) × (holder n ls ≡ None)
not-first n l ls none = which (has_mark n l.1) refl none where
  which : (b : Bool) → has_mark n l.1 ≡ b → cond b (Some l.0) (holder n ls) ≡ None →
      (has_mark n l.1 ≡ false) × (holder n ls ≡ None)
  which true is none = absurd (none-some l.0 (sym none))
  which false is none = (is, none)

pub none-at : (n : ℕ) (ls : List Named) (k : ℕ) (l : Named) → holder n ls ≡ None → slice_get ls k ≡ Some l →
    has_mark n l.1 ≡ false
none-at n [] k l none at = absurd (none-some l at)
none-at n (x ∷ ls) zero l none at =
    ap (λ (y : Named). has_mark n y.1) (sym (same_Some x l at)) ∙ (not-first n x ls none).0
none-at n (x ∷ ls) (suc k) l none at = none-at n ls k l (not-first n x ls none).1 at

-- the others of a line's mark
behind-none : (n : ℕ) (l : Named) (ls : List Named) → AreRows (contents (l ∷ ls)) → has_mark n l.1 ≡ true →
    holder n ls ≡ None
behind-none n l [] rows is = refl
behind-none n l (y ∷ ls) rows is = let at = marked-at n l.1 is in none-whole n (y ∷ ls) (rows.1.1 n at.0 at.1)

pub alone : (n : ℕ) (ls : List Named) (k : ℕ) (l : Named) → AreRows (contents ls) → slice_get ls k ≡ Some l →
    has_mark n l.1 ≡ true → (holder n (take k ls) ≡ None) × (holder n (drop (suc k) ls) ≡ None)
alone n [] k l rows at is = absurd (none-some l at)
alone n (x ∷ ls) zero l rows at is =
    (refl, behind-none n x ls rows (ap (λ (y : Named). has_mark n y.1) (same_Some x l at) ∙ is))
alone n (x ∷ ls) (suc k) l rows at is =
    let rest = alone n ls k l rows.2 at is in
    let not_here : has_mark n x.1 ≡ false = elim (has_mark n x.1) as (λ b. has_mark n x.1 ≡ b →
    has_mark n x.1 ≡ false) [
      | true ↦ λ here. absurd (false≢true (sym (none-at n ls k l (behind-none n x ls rows here) at) ∙ is))
      | false ↦ λ here. here
    ] refl in
    (ap (λ b. cond b (Some x.0) (holder n (take k ls))) not_here ∙ rest.0, rest.1)

pub none-before : (n from k : ℕ) (ls : List Named) → from ≤ k → holder n (take k ls) ≡ None →
    holder n (take from ls) ≡ None
none-before n from k ls ordered none = left (holder n (take from ls)) (holder n (slice_range ls from k))
    (sym (ap (holder n) (split-take from k ls ordered) ∙ holder-append n (take from ls) (slice_range ls from k))
    ∙ none) where
      left : (o r : Option NodePtr) → first o r ≡ None → o ≡ None
      left None r is = refl
      left (Some p) r is = absurd (none-some p (sym is))

-- ---- one line of a walk
-- what is noted when the line at k is written
module _ (n : ℕ) (ls : List Named) (rows : AreRows (contents ls)) where
  pub forget-line : (old new : Option NodePtr) (from at k : ℕ) (p : NodePtr) (line : LineContent) → from ≤ at → at ≤ k →
      AreBare at k ls → slice_get ls k ≡ Some (p, line)
      → old ≡ holder n (lines_without from at ls) → new ≡ cond (has_mark n line) None old →
      new ≡ holder n (lines_without from (suc k) ls)
  forget-line old new from at k p line first_from above bare is was written = which (has_mark n line) refl written where
    was_here : old ≡ first (holder n (take from ls)) (cond (has_mark n line) (Some p) (holder n (drop (suc k) ls)))
    was_here =
        was ∙ holder-append n (take from ls) (drop at ls)
        ∙ ap (first (holder n (take from ls))) (bare-drop n at k ls above bare
        ∙ ap (holder n) (drop_after ls k (p, line) is))

    which : (b : Bool) → has_mark n line ≡ b → new ≡ cond b None old → new ≡ holder n (lines_without from (suc k) ls)
    which true has now =
        let others = alone n ls k (p, line) rows is has in
        now ∙ sym (holder-append n (take from ls) (drop (suc k) ls)
        ∙ ap₂ first (none-before n from k ls (omega arith) others.0) others.1)
    which false hasn't now =
        now ∙ was_here ∙ ap (λ b. first (holder n (take from ls)) (cond b (Some p) (holder n (drop (suc k) ls)))) hasn't
        ∙ sym (holder-append n (take from ls) (drop (suc k) ls))

  pub note-line : (old new : Option NodePtr) (to at k : ℕ) (p : NodePtr) (line : LineContent) → at ≤ k →
      AreBare at k ls → slice_get ls k ≡ Some (p, line)
      → old ≡ holder n (lines_without at to ls) → new ≡ cond (has_mark n line) (Some p) old →
      new ≡ holder n (lines_without (suc k) to ls)
  note-line old new to at k p line above bare is was written = which (has_mark n line) refl written where
    now_here : holder n (lines_without (suc k) to ls)
        ≡ first (first (holder n (take k ls)) (cond (has_mark n line) (Some p) None)) (holder n (drop to ls))
    now_here =
        holder-append n (take (suc k) ls) (drop to ls)
        ∙ ap (λ o. first o (holder n (drop to ls))) (ap (holder n) (take_after ls k (p, line) is)
        ∙ holder-append n (take k ls) ((p, line) ∷ []))
      where
        take_after : (xs : List Named) (j : ℕ) (x : Named) → slice_get xs j ≡ Some x →
            take (suc j) xs ≡ take j xs ++ x ∷ []
        take_after [] j x at = absurd (none-some x at)
        take_after (y ∷ ys) zero x at = ap (λ z. z ∷ []) (same_Some y x at)
        take_after (y ∷ ys) (suc j) x at = ap (λ zs. y ∷ zs) (take_after ys j x at)

    which : (b : Bool) → has_mark n line ≡ b → new ≡ cond b (Some p) old → new ≡ holder n (lines_without (suc k) to ls)
    which true has now =
        let others = alone n ls k (p, line) rows is has in
        now ∙ sym (now_here ∙ ap₂ (λ o b. first (first o (cond b (Some p) None)) (holder n (drop to ls))) others.0 has)
    which false hasn't now =
        now ∙ was ∙ holder-append n (take at ls) (drop to ls)
        ∙ ap (λ o. first o (holder n (drop to ls))) (sym (bare-take n at k ls above bare)
        ∙ sym (first-none (holder n (take k ls))))
        ∙ sym (now_here ∙ ap (λ b. first (first (holder n (take k ls)) (cond b (Some p) None)) (holder n (drop to ls)))
        hasn't)

-- ---- the ends of the walks
pub forgotten : (n from at to : ℕ) (ls : List Named) (o : Option NodePtr) → at ≤ to → AreBare at to ls →
    o ≡ holder n (lines_without from at ls) → o ≡ holder n (lines_without from to ls)
forgotten n from at to ls o ordered bare is =
    is ∙ holder-append n (take from ls) (drop at ls)
    ∙ ap (first (holder n (take from ls))) (bare-drop n at to ls ordered bare)
    ∙ sym (holder-append n (take from ls) (drop to ls))

pub all-noted : (n at to : ℕ) (ls : List Named) (o : Option NodePtr) → at ≤ to → AreBare at to ls →
    o ≡ holder n (lines_without at to ls) → o ≡ holder n ls
all-noted n at to ls o ordered bare is =
    is ∙ holder-append n (take at ls) (drop to ls)
    ∙ ap (λ x. first x (holder n (drop to ls))) (sym (bare-take n at to ls ordered bare))
    ∙ sym (holder-append n (take to ls) (drop to ls)) ∙ ap (holder n) (whole-list to ls)

pub none-out : (n from : ℕ) (ls : List Named) → holder n (lines_without from from ls) ≡ holder n ls
none-out n from ls = ap (holder n) (whole-list from ls)

-- where a line changes and keeps its marks, each mark is where it was
pub holder-changed : (n k : ℕ) (ls : List Named) (f : LineContent → LineContent) →
    ((l : Named) → slice_get ls k ≡ Some l → has_mark n (f l.1) ≡ has_mark n l.1) →
    holder n (changed k f ls) ≡ holder n ls
holder-changed n zero [] f same = refl
holder-changed n zero (l ∷ ls) f same = ap (λ b. cond b (Some l.0) (holder n ls)) (same l refl)
holder-changed n (suc k) [] f same = refl
holder-changed n (suc k) (l ∷ ls) f same =
    ap (λ h. cond (has_mark n l.1) (Some l.0) h) (holder-changed n k ls f same)
