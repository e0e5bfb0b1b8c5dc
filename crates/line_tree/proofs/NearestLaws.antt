-- Ways down to the nearest line that has what is wanted.
use Rattle.line_tree.proofs.Common.{◌≡◌, ℕ, zero, suc, ◌+◌, ◌-◌, ◌<◌, ◌≤◌, ◌⊎◌, inl, inr, Bool, true, false, ◌||◌, min}
use Rattle.line_tree.proofs.Common.{nat_lt, List, [], ◌∷◌, length, refl, sym, ap, ◌∙◌, subst, arith, slice_get, Option}
use Rattle.line_tree.proofs.Common.{None, Some, nat_cmp_total, sum_by, le-min, min-le_left, min-le_right, cases_lt}
use Rattle.line_tree.proofs.Common.{length-map, take_all, sum_by-take-le, plus-no_text, Count, plus, IsTree, line_of}
use Rattle.line_tree.proofs.Common.{lines_at, lines_in, LineContent, line_count, plain_line, Named, contents, lines}
use Rattle.line_tree.proofs.Common.{total, NodePtr, Records, kids, next_line, previous_line, FailFrom, NextAt}
use Rattle.line_tree.proofs.Common.{PreviousAt, line_at, next-found, next-none, previous-found, previous-none, passes}
use Rattle.line_tree.proofs.Common.{shows, lines_before, Wanted}
use mathlib.Core.Bool.{false≢true}
use Rattle.line_lists.proofs.ListLaws.{no-marks, some-marks}
use Rattle.line_tree.specs.declared.nearest.Wanted.TheVariants.{Toggle, Mark}
use Rattle.line_tree.proofs.RowLaws.{step_yes}
use Rattle.line_tree.proofs.TreeLaws.{below-tree, child-tree, count-tree, line-found, row-tree}
use Rattle.std.specs.FinMap as finite
use Rattle.std.specs.FinSet as set

-- ---- the nearest line by what holds of it
differ : (b : Bool) → b ≡ true → b ≡ false → ⊥
differ b is isn't = false≢true (sym isn't ∙ is)

pub next-is : (test : LineContent → Bool) (from : ℕ) (ls : List LineContent) (k : ℕ) → NextAt test from ls k →
    next_line test from ls ≡ Some k
next-is test from ls k at = which (next_line test from ls) refl where
  which : (o : Option ℕ) → next_line test from ls ≡ o → o ≡ Some k
  which None is = absurd (differ (test (line_at ls k)) at.passes (next-none test from ls is k at.above at.within))
  which (Some j) is = let found = next-found test from ls j is in elim (cases_lt j k) [
    | inl less ↦ absurd (differ (test (line_at ls j)) found.passes (at.free j found.above less))
    | inr least ↦ elim (cases_lt k j) [
      | inl more ↦ absurd (differ (test (line_at ls k)) at.passes (found.free k at.above more))
      | inr most ↦ let e : j ≡ k = omega arith in ap (λ n. Some n) e
    ]
  ]

pub next-no : (test : LineContent → Bool) (from : ℕ) (ls : List LineContent) → FailFrom test ls from (length ls) →
    next_line test from ls ≡ None
next-no test from ls fail = which (next_line test from ls) refl where
  which : (o : Option ℕ) → next_line test from ls ≡ o → o ≡ None
  which None is = refl
  which (Some j) is = let found = next-found test from ls j is in
      absurd (differ (test (line_at ls j)) found.passes (fail j found.above found.within))

previous-is : (test : LineContent → Bool) (to : ℕ) (ls : List LineContent) (k : ℕ) → to ≤ length ls →
    PreviousAt test to ls k → previous_line test to ls ≡ Some k
previous-is test to ls k within at = which (previous_line test to ls) refl where
  which : (o : Option ℕ) → previous_line test to ls ≡ o → o ≡ Some k
  which None is =
      absurd (differ (test (line_at ls k)) at.passes (previous-none test to ls within is k (omega arith) at.below))
  which (Some j) is = let found = previous-found test to ls within j is in elim (cases_lt j k) [
    | inl less ↦ absurd (differ (test (line_at ls k)) at.passes (found.free k less at.below))
    | inr least ↦ elim (cases_lt k j) [
      | inl more ↦ absurd (differ (test (line_at ls j)) found.passes (at.free j more found.below))
      | inr most ↦ let e : j ≡ k = omega arith in ap (λ n. Some n) e
    ]
  ]

pub previous-no : (test : LineContent → Bool) (to : ℕ) (ls : List LineContent) → to ≤ length ls →
    FailFrom test ls 0 to → previous_line test to ls ≡ None
previous-no test to ls within fail = which (previous_line test to ls) refl where
  which : (o : Option ℕ) → previous_line test to ls ≡ o → o ≡ None
  which None is = refl
  which (Some j) is = let found = previous-found test to ls within j is in
      absurd (differ (test (line_at ls j)) found.passes (fail j (omega arith) found.below))

-- ---- the lines of a child among those of its parent
abbrev content_or : Option Named → LineContent
content_or None = plain_line []
content_or (Some l) = l.1

at-contents : (ls : List Named) (k : ℕ) → line_at (contents ls) k ≡ content_or (slice_get ls k)
at-contents [] k = refl
at-contents (l ∷ ls) zero = refl
at-contents (l ∷ ls) (suc k) = at-contents ls k

pub long : (ls : List Named) → length (contents ls) ≡ length ls
long ls = length-map ls (λ (l : Named). l.1)

-- the first lines of these, and those from one on
abbrev pub SameFrom : List LineContent → ℕ → List LineContent → Type 0
SameFrom ls b xs = (j : ℕ) → j < length xs → line_at ls (b + j) ≡ line_at xs j

pub child-lines : (m : Records) (h : ℕ) (p : NodePtr) (i b : ℕ) (c : NodePtr) → IsTree m (suc h) p →
    slice_get (kids m p) i ≡ Some c → b ≡ lines_before m p i →
    SameFrom (contents (lines_in m (suc h) p)) b (contents (lines_in m h c))
child-lines m h p i b c is at before j less =
    let n = count-tree m h c (child-tree m h (kids m p) i c is.2 at) in let l = long (lines_in m h c) in
    at-contents (lines_in m (suc h) p) (b + j)
    ∙ ap content_or (line-found m h (kids m p) i j (b + j) c is.2 at (omega arith) (omega arith))
    ∙ sym (at-contents (lines_in m h c) j)

pub passed-child : (test : LineContent → Bool) (ls xs : List LineContent) (from b : ℕ) → SameFrom ls b xs →
    FailFrom test ls from b → next_line test (from - b) xs ≡ None → FailFrom test ls from (b + length xs)
passed-child test ls xs from b same free none j more less = elim (cases_lt j b) [
  | inl before ↦ free j more before
  | inr behind ↦
      let e : b + (j - b) ≡ j = omega arith in
      ap test (ap (line_at ls) (sym e) ∙ same (j - b) (omega arith))
      ∙ next-none test (from - b) xs none (j - b) (omega arith) (omega arith)
]

pub found-child : (test : LineContent → Bool) (ls xs : List LineContent) (from b n : ℕ) → SameFrom ls b xs →
    b + length xs ≤ length ls → FailFrom test ls from b → next_line test (from - b) xs ≡ Some n
    → next_line test from ls ≡ Some (b + n)
found-child test ls xs from b n same within free is = let found = next-found test (from - b) xs n is in
    let above = found.above in let inside = found.within in next-is test from ls (b + n) (record {
      above = omega arith;
      within = omega arith;
      passes = ap test (same n found.within) ∙ found.passes;
      free = λ j more less. elim (cases_lt j b) [
        | inl before ↦ free j more before
        | inr behind ↦
            let e : b + (j - b) ≡ j = omega arith in
            ap test (ap (line_at ls) (sym e) ∙ same (j - b) (omega arith))
            ∙ found.free (j - b) (omega arith) (omega arith)
      ];
    })

pub found-within : (test : LineContent → Bool) (from n : ℕ) (xs : List LineContent) → next_line test from xs ≡ Some n →
    n < length xs
found-within test from n xs is = (next-found test from xs n is).within

-- t is how many lines below one stand in the child, or all of its lines
pub record Reaches (to b n t : ℕ) : Type 0 where
  pub inside : t ≤ n
  pub below : b + t ≤ to ⊎ t ≡ 0
  pub ends : (j : ℕ) → b ≤ j → j < to → j < b + n → j < b + t

pub reaches : (to b n d t : ℕ) → d ≡ to - b → t ≡ min d n → Reaches to b n t
reaches to b n d t is least = let low : t ≤ d = subst (λ z. z ≤ d) (sym least) (min-le_left d n) in
    let high : t ≤ n = subst (λ z. z ≤ n) (sym least) (min-le_right d n) in elim (cases_lt b to) [
      | inl some ↦ record {
        inside = high;
        below = inl (omega arith);
        ends =
            λ j more less before. let far : suc (j - b) ≤ min d n = le-min (omega arith) (omega arith) in omega arith;
      }
      | inr none ↦ record {
        inside = high;
        below = inr (omega arith);
        ends = λ j more less before. absurd (omega arith);
      }
    ]

pub passed-back : (test : LineContent → Bool) (ls xs : List LineContent) (to b t : ℕ) → SameFrom ls b xs →
    Reaches to b (length xs) t → FailFrom test ls (b + length xs) to → previous_line test t xs ≡ None →
    FailFrom test ls b to
passed-back test ls xs to b t same reach free none j more less = elim (cases_lt j (b + length xs)) [
  | inl before ↦
      let e : b + (j - b) ≡ j = omega arith in let far = reach.ends j more less before in
      ap test (ap (line_at ls) (sym e) ∙ same (j - b) (omega arith))
      ∙ previous-none test t xs reach.inside none (j - b) (omega arith) (omega arith)
  | inr behind ↦ free j behind less
]

pub found-back : (test : LineContent → Bool) (ls xs : List LineContent) (to b t n : ℕ) → SameFrom ls b xs →
    Reaches to b (length xs) t → to ≤ length ls → FailFrom test ls (b + length xs) to → previous_line test t xs ≡ Some n
    → previous_line test to ls ≡ Some (b + n)
found-back test ls xs to b t n same reach within free is =
    let found = previous-found test t xs reach.inside n is in let below = found.below in let inside = reach.inside in
    previous-is test to ls (b + n) within (record {
      below = elim reach.below [ inl low ↦ omega arith | inr none ↦ absurd (omega arith) ];
      passes = ap test (same n (omega arith)) ∙ found.passes;
      free = λ j more less. elim (cases_lt j (b + length xs)) [
        | inl before ↦
            let e : b + (j - b) ≡ j = omega arith in let far = reach.ends j (omega arith) less before in
            ap test (ap (line_at ls) (sym e) ∙ same (j - b) (omega arith))
            ∙ found.free (j - b) (omega arith) (omega arith)
        | inr behind ↦ free j behind less
      ];
    })

-- ---- what a sum shows
any-of : (x y : ℕ) → nat_lt 0 (x + y) ≡ (nat_lt 0 x || nat_lt 0 y)
any-of x y = elim (cases_lt 0 x) [
  | inl less ↦ some-marks (x + y) (x + y) refl (omega arith)
      ∙ sym (ap (λ b. b || nat_lt 0 y) (some-marks x x refl less))
  | inr none ↦ let e : x + y ≡ y = omega arith in ap (nat_lt 0) e
      ∙ sym (ap (λ b. b || nat_lt 0 y) (no-marks x x refl none))
]

shows-plus : (w : Wanted) (a b : Count) → shows w (plus a b) ≡ (shows w a || shows w b)
shows-plus (Toggle slot) a b = set.contains-union nat_cmp_total a.presence b.presence slot.0
shows-plus Mark a b = any-of a.marks b.marks

passes-shows : (w : Wanted) (l : LineContent) → passes w l ≡ shows w (line_count l)
passes-shows (Toggle slot) l = refl
passes-shows Mark l = refl

neither : (a b : Bool) → (a || b) ≡ false → (a ≡ false) × (b ≡ false)
neither true b is = absurd (false≢true (sym is))
neither false b is = (refl, is)

all-fail : (w : Wanted) (ls : List Named) → shows w (total ls) ≡ false → (j : ℕ) → j < length ls →
    passes w (line_at (contents ls) j) ≡ false
all-fail w [] none j less = absurd (omega arith)
all-fail w (l ∷ ls) none zero less = passes-shows w l.1
    ∙ (neither (shows w (line_count l.1)) (shows w (total ls)) (sym (shows-plus w (line_count l.1) (total ls))
    ∙ none)).0
all-fail w (l ∷ ls) none (suc j) less = all-fail w ls
    (neither (shows w (line_count l.1)) (shows w (total ls)) (sym (shows-plus w (line_count l.1) (total ls)) ∙ none)).1
    j (omega arith)

one-passes : (w : Wanted) (q : NodePtr) (l : LineContent) → shows w (total ((q, l) ∷ [])) ≡ true → passes w l ≡ true
one-passes w q l some = passes-shows w l ∙ ap (shows w) (sym (plus-no_text (line_count l))) ∙ some

-- ---- where no child is asked
pub past-next : (w : Wanted) (from : ℕ) (ls : List Named) → length ls ≤ from →
    next_line (passes w) from (contents ls) ≡ None
past-next w from ls past = let l = long ls in
    next-no (passes w) from (contents ls) (λ j more less. absurd (omega arith))

pub none-next : (w : Wanted) (from : ℕ) (ls : List Named) → shows w (total ls) ≡ false →
    next_line (passes w) from (contents ls) ≡ None
none-next w from ls none = let l = long ls in
    next-no (passes w) from (contents ls) (λ j more less. all-fail w ls none j (omega arith))

line-first : (m : Records) (q : NodePtr) (w : Wanted) (from : ℕ) → from < length (lines_in m zero q) →
    shows w (total (lines_in m zero q)) ≡ true → next_line (passes w) from (contents (lines_in m zero q)) ≡ Some 0
line-first m q w from = one (line_of (finite.get m q)) where
  one : (o : Option LineContent) → from < length (lines zero (q, o)) → shows w (total (lines zero (q, o))) ≡ true →
      next_line (passes w) from (contents (lines zero (q, o))) ≡ Some 0
  one None less some = absurd (omega arith)
  one (Some l) less some = next-is (passes w) from (l ∷ []) 0
      (record {
        above = omega arith;
        within = omega arith;
        passes = one-passes w q l some;
        free = λ j more below. absurd (omega arith);
      })

pub line-next : (m : Records) (h : ℕ) (q : NodePtr) (w : Wanted) (from : ℕ) → h ≡ 0 → from < length (lines_in m h q) →
    shows w (total (lines_in m h q)) ≡ true → next_line (passes w) from (contents (lines_in m h q)) ≡ Some 0
line-next m h q w from e = subst (λ k. from < length (lines_in m k q) → shows w (total (lines_in m k q)) ≡ true →
    next_line (passes w) from (contents (lines_in m k q)) ≡ Some 0) (sym e) (line-first m q w from)

pub first-previous : (w : Wanted) (to : ℕ) (ls : List Named) → to ≡ 0 → previous_line (passes w) to (contents ls) ≡ None
first-previous w to ls none =
    previous-no (passes w) to (contents ls) (omega arith) (λ j more less. absurd (omega arith))

pub none-previous : (w : Wanted) (to : ℕ) (ls : List Named) → to ≤ length ls → shows w (total ls) ≡ false →
    previous_line (passes w) to (contents ls) ≡ None
none-previous w to ls within none = let l = long ls in
    previous-no (passes w) to (contents ls) (omega arith) (λ j more less. all-fail w ls none j (omega arith))

line-last : (m : Records) (q : NodePtr) (w : Wanted) (to : ℕ) → 0 < to → to ≤ length (lines_in m zero q) →
    shows w (total (lines_in m zero q)) ≡ true → previous_line (passes w) to (contents (lines_in m zero q)) ≡ Some 0
line-last m q w to = one (line_of (finite.get m q)) where
  one : (o : Option LineContent) → 0 < to → to ≤ length (lines zero (q, o)) →
      shows w (total (lines zero (q, o))) ≡ true → previous_line (passes w) to (contents (lines zero (q, o))) ≡ Some 0
  one None more within some = absurd (omega arith)
  one (Some l) more within some = previous-is (passes w) to (l ∷ []) 0 within
      (record { below = more; passes = one-passes w q l some; free = λ j above below. absurd (omega arith) })

pub line-previous : (m : Records) (h : ℕ) (q : NodePtr) (w : Wanted) (to : ℕ) → h ≡ 0 → 0 < to →
    to ≤ length (lines_in m h q) → shows w (total (lines_in m h q)) ≡ true →
    previous_line (passes w) to (contents (lines_in m h q)) ≡ Some 0
line-previous m h q w to e = subst (λ k. 0 < to → to ≤ length (lines_in m k q) →
    shows w (total (lines_in m k q)) ≡ true → previous_line (passes w) to (contents (lines_in m k q))
    ≡ Some 0) (sym e) (line-last m q w to)

-- ---- one child of a node
module _ (m : Records) (h n : ℕ) (p : NodePtr) (i b : ℕ) (e : h ≡ suc n) (is : IsTree m h p) (before : b
    ≡ lines_before m p i) where
  abbrev at_top : IsTree m (suc n) p
  at_top = subst (λ k. IsTree m k p) e is

  whole : lines_in m h p ≡ lines_in m (suc n) p
  whole = ap (λ k. lines_in m k p) e

  module _ (c : NodePtr) (at : slice_get (kids m p) i ≡ Some c) where
    pub child-is : IsTree m n c
    child-is = child-tree m n (kids m p) i c at_top.2 at

    pub child-within : b + length (lines_in m n c) ≤ length (lines_in m h p)
    child-within =
        let same = ap length whole in let below = below-tree m n p at_top in let count = count-tree m n c child-is in
        let more = step_yes (lines_at m) (kids m p) i c at in
        let part = sum_by-take-le (lines_at m) (kids m p) (i + 1) in omega arith

    same : SameFrom (contents (lines_in m h p)) b (contents (lines_in m n c))
    same = subst (λ ls. SameFrom (contents ls) b (contents (lines_in m n c))) (sym whole)
        (child-lines m n p i b c at_top at before)

    pub next-hit : (w : Wanted) (from k : ℕ) → FailFrom (passes w) (contents (lines_in m h p)) from b →
        next_line (passes w) (from - b) (contents (lines_in m n c)) ≡ Some k
        → next_line (passes w) from (contents (lines_in m h p)) ≡ Some (b + k)
    next-hit w from k free found =
        let l = long (lines_in m h p) in let s = long (lines_in m n c) in let inside = child-within in
        found-child (passes w) (contents (lines_in m h p)) (contents (lines_in m n c)) from b k same (omega arith) free
        found

    pub next-missed : (w : Wanted) (from : ℕ) → FailFrom (passes w) (contents (lines_in m h p)) from b →
        next_line (passes w) (from - b) (contents (lines_in m n c)) ≡ None
        → FailFrom (passes w) (contents (lines_in m h p)) from (b + lines_at m c)
    next-missed w from free none =
        let s = long (lines_in m n c) in let count = count-tree m n c child-is in
        let more : b + length (contents (lines_in m n c)) ≡ b + lines_at m c = omega arith in
        subst (λ z. FailFrom (passes w) (contents (lines_in m h p)) from z) more
        (passed-child (passes w) (contents (lines_in m h p)) (contents (lines_in m n c)) from b same free none)

    pub previous-hit : (w : Wanted) (to t k : ℕ) → Reaches to b (lines_at m c) t → to ≤ length (lines_in m h p) →
        FailFrom (passes w) (contents (lines_in m h p)) (b + lines_at m c) to
        → previous_line (passes w) t (contents (lines_in m n c)) ≡ Some k →
        previous_line (passes w) to (contents (lines_in m h p)) ≡ Some (b + k)
    previous-hit w to t k reach within free found =
        let l = long (lines_in m h p) in let s = long (lines_in m n c) in let count = count-tree m n c child-is in
        let all : lines_at m c ≡ length (contents (lines_in m n c)) = omega arith in
        found-back (passes w) (contents (lines_in m h p)) (contents (lines_in m n c)) to b t k same
        (subst (λ z. Reaches to b z t) all reach) (omega arith)
        (subst (λ z. FailFrom (passes w) (contents (lines_in m h p)) (b + z) to) all free) found

    pub previous-missed : (w : Wanted) (to t : ℕ) → Reaches to b (lines_at m c) t →
        FailFrom (passes w) (contents (lines_in m h p)) (b + lines_at m c) to
        → previous_line (passes w) t (contents (lines_in m n c)) ≡ None →
        FailFrom (passes w) (contents (lines_in m h p)) b to
    previous-missed w to t reach free none =
        let s = long (lines_in m n c) in let count = count-tree m n c child-is in
        let all : lines_at m c ≡ length (contents (lines_in m n c)) = omega arith in
        passed-back (passes w) (contents (lines_in m h p)) (contents (lines_in m n c)) to b t same
        (subst (λ z. Reaches to b z t) all reach)
        (subst (λ z. FailFrom (passes w) (contents (lines_in m h p)) (b + z) to) all free) none

  pub previous-end : (w : Wanted) (to : ℕ) → i ≡ 0 → to ≤ length (lines_in m h p) →
      FailFrom (passes w) (contents (lines_in m h p)) b to →
      previous_line (passes w) to (contents (lines_in m h p)) ≡ None
  previous-end w to first within free =
      let l = long (lines_in m h p) in let none : b ≡ 0 = before ∙ ap (lines_before m p) first in
      previous-no (passes w) to (contents (lines_in m h p)) (omega arith)
      (subst (λ z. FailFrom (passes w) (contents (lines_in m h p)) z to) none free)

  pub next-end : (w : Wanted) (from : ℕ) → 12 ≤ i → FailFrom (passes w) (contents (lines_in m h p)) from b →
      next_line (passes w) from (contents (lines_in m h p)) ≡ None
  next-end w from past free =
      let row = row-tree m n p at_top in let few = row.few in
      let all = ap (sum_by (lines_at m)) (take_all i (kids m p) (omega arith)) in let below = below-tree m n p at_top in
      let l = long (lines_in m h p) in let w_l = ap length whole in
      let end : b ≡ length (contents (lines_in m h p)) = omega arith in
      next-no (passes w) from (contents (lines_in m h p))
      (subst (λ z. FailFrom (passes w) (contents (lines_in m h p)) from z) end free)

-- all children are before the last
pub last-before : (m : Records) (h n : ℕ) (p : NodePtr) → h ≡ suc n → IsTree m h p → lines_at m p ≡ lines_before m p 12
last-before m h n p e is =
    let top = subst (λ k. IsTree m k p) e is in let few = (row-tree m n p top).few in
    let below = below-tree m n p top in let count = count-tree m (suc n) p top in
    let all = ap (sum_by (lines_at m)) (take_all 12 (kids m p) few) in omega arith
