-- Tables of names, by the numbers of marks.
use Rattle.line_tree.proofs.Common.{◌≡◌, ℕ, zero, suc, ◌+◌, ◌<◌, ◌≤◌, Bool, true, false, cond, ◌||◌, List, [], ◌∷◌}
use Rattle.line_tree.proofs.Common.{◌++◌, inl, inr, length, take, set, refl, sym, ap, ◌∙◌, arith, Option, None, Some}
use Rattle.line_tree.proofs.Common.{eq_by_cmp, is_lt, nat_cmp, get_or_past, get_or-set_other, get_or-set_same, take_all}
use Rattle.line_tree.proofs.Common.{cases_lt, none-some, same_Some, slice_get_within, Place, LineContent, NodePtr}
use Rattle.line_tree.proofs.Common.{tied_same, NumbersBelow, has_mark, eq_self, noted, is_some, slice_get, T, ⊤, ◌&&◌}
use Rattle.std.specs.FinMap.Entries.{below_all, find, is_sorted}
use Rattle.std.proofs.lemmas.Bool.Decides.{nat_tests}
use mathlib.Core.Bool.{false≢true}
use Rattle.line_lists.proofs.DraftLaws.{none_at}
use Rattle.std.specs.FinMap as finite

-- ---- one entry is written
pub noted-set : (names : List (Option NodePtr)) (i n : ℕ) (o : Option NodePtr) → i < length names →
    noted n (set names i o) ≡ cond (eq_by_cmp nat_cmp n i) o (noted n names)
noted-set names i n o within = which (eq_by_cmp nat_cmp n i) refl where
  which : (b : Bool) → eq_by_cmp nat_cmp n i ≡ b → noted n (set names i o) ≡ cond b o (noted n names)
  which true tie = ap (λ k. noted k (set names i o)) (tied_same n i tie) ∙ get_or-set_same names i o None within
  which false apart = get_or-set_other names i n o None (λ same.
      false≢true (sym apart ∙ ap (λ k. eq_by_cmp nat_cmp k i) (sym (other same)) ∙ eq_self i)) where
        other : n ≡ i → i ≡ n
        other same = sym same

-- ---- the entries of a line's marks
-- a table in which these were written, and nothing else
abbrev pub Written : List (Option NodePtr) → List (Option NodePtr) → List (ℕ × Place) → Option NodePtr → Type 0
Written old new entries o = (n : ℕ) → noted n new ≡ cond (is_some (find nat_cmp n entries)) o (noted n old)

find-snoc : (n : ℕ) (entries : List (ℕ × Place)) (e : ℕ × Place) →
    is_some (find nat_cmp n (entries ++ e ∷ [])) ≡ (eq_by_cmp nat_cmp n e.0 || is_some (find nat_cmp n entries))
find-snoc n [] e = one (eq_by_cmp nat_cmp n e.0) where
  one : (b : Bool) → is_some (cond b (Some e.1) None) ≡ (b || false)
  one true = refl
  one false = refl
find-snoc n (x ∷ entries) e = one (eq_by_cmp nat_cmp n x.0) (eq_by_cmp nat_cmp n e.0) (find-snoc n entries e) where
  one : (a b : Bool) → is_some (find nat_cmp n (entries ++ e ∷ [])) ≡ (b || is_some (find nat_cmp n entries)) →
      is_some (cond a (Some x.1) (find nat_cmp n (entries ++ e ∷ [])))
      ≡ (b || is_some (cond a (Some x.1) (find nat_cmp n entries)))
  one true true rest = refl
  one true false rest = refl
  one false b rest = rest

take_next : {A : Type 0} (xs : List A) (i : ℕ) (x : A) → slice_get xs i ≡ Some x → take (i + 1) xs ≡ take i xs ++ x ∷ []
take_next {A = A} xs i x at = let e : i + 1 ≡ suc i = omega arith in ap (λ n. take n xs) e ∙ next xs i at where
  next : (xs : List A) (i : ℕ) → slice_get xs i ≡ Some x → take (suc i) xs ≡ take i xs ++ x ∷ []
  next [] i at = absurd (none-some x at)
  next (y ∷ ys) zero at = ap (λ z. z ∷ []) (same_Some y x at)
  next (y ∷ ys) (suc i) at = ap (λ zs. y ∷ zs) (next ys i at)

two-tests : (a b : Bool) (o : Option NodePtr) (old : Option NodePtr) → cond a o (cond b o old) ≡ cond (a || b) o old
two-tests true b o old = refl
two-tests false b o old = refl

pub written-more : (old now : List (Option NodePtr)) (entries : List (ℕ × Place)) (i number : ℕ) (place : Place)
    (o : Option NodePtr) → number < length now → Some (number, place) ≡ slice_get entries i
    → Written old now (take i entries) o → Written old (set now number o) (take (i + 1) entries) o
written-more old now entries i number place o within at so_far n =
    noted-set now number n o within ∙ ap (cond (eq_by_cmp nat_cmp n number) o) (so_far n)
    ∙ two-tests (eq_by_cmp nat_cmp n number) (is_some (find nat_cmp n (take i entries))) o (noted n old)
    ∙ ap (λ b. cond b o (noted n old))
    (sym (ap (λ es. is_some (find nat_cmp n es)) (take_next entries i (number, place) (sym at))
    ∙ find-snoc n (take i entries) (number, place)))

pub written-all : (old now : List (Option NodePtr)) (line : LineContent) (i : ℕ) (o : Option NodePtr) →
    None ≡ slice_get (finite.entries line.marks) i → Written old now (take i (finite.entries line.marks)) o
    → (n : ℕ) → noted n now ≡ cond (has_mark n line) o (noted n old)
written-all old now line i o at so_far n =
    so_far n ∙ ap (λ es. cond (is_some (find nat_cmp n es)) o (noted n old))
    (take_all i (finite.entries line.marks) (none_at (finite.entries line.marks) i (sym at)))
    ∙ ap (λ found. cond (is_some found) o (noted n old)) (sym (finite.get-entries line.marks n))

-- each number of them is in the table
found-at : (entries : List (ℕ × Place)) (i number : ℕ) (place : Place) → slice_get entries i ≡ Some (number, place) →
    (found : Place) × (find nat_cmp number entries ≡ Some found)
found-at [] i number place at = absurd (none-some (number, place) at)
found-at (e ∷ entries) zero number place at =
    let same = same_Some e (number, place) at in (
      e.1,
      ap (λ b. cond b (Some e.1) (find nat_cmp number entries))
          (ap (λ (x : ℕ × Place). eq_by_cmp nat_cmp number x.0) same ∙ eq_self number),
    )
found-at (e ∷ entries) (suc i) number place at =
    which (eq_by_cmp nat_cmp number e.0) (found-at entries i number place at) where
      which : (b : Bool) → (found : Place) × (find nat_cmp number entries ≡ Some found) →
          (found : Place) × (cond b (Some e.1) (find nat_cmp number entries) ≡ Some found)
      which true rest = (e.1, refl)
      which false rest = rest

pub number-below : (bound : ℕ) (line : LineContent) (i number : ℕ) (place : Place) → NumbersBelow bound line.marks →
    Some (number, place) ≡ slice_get (finite.entries line.marks) i → number < bound
number-below bound line i number place below at =
    let found = found-at (finite.entries line.marks) i number place (sym at) in
    below number found.0 (finite.get-entries line.marks number ∙ found.1)

-- ---- how many marks there can be
-- the numbers rise, from so much on
abbrev Low : ℕ → List (ℕ × Place) → Type 0
Low base [] = ⊤
Low base (e ∷ entries) = base ≤ e.0

is_true : (test : Bool) → T test → test ≡ true
is_true true holds = refl
is_true false holds = absurd holds

rising : (a b : ℕ) → T (is_lt (nat_cmp a b)) → a < b
rising a b holds = let is : is_lt (nat_cmp a b) ≡ true = is_true (is_lt (nat_cmp a b)) holds in grind (arith, nat_tests)

left-test : (a b : Bool) → T (a && b) → T a
left-test true b holds = tt
left-test false b holds = absurd holds

right-test : (a b : Bool) → T (a && b) → T b
right-test true b holds = holds
right-test false b holds = absurd holds

next-low : (base : ℕ) (e : ℕ × Place) (entries : List (ℕ × Place)) → base ≤ e.0 → T (below_all nat_cmp e.0 entries) →
    Low (base + 1) entries
next-low base e [] low rise = tt
next-low base e (f ∷ entries) low rise = let more = rising e.0 f.0
    (left-test (is_lt (nat_cmp e.0 f.0)) (below_all nat_cmp e.0 entries) rise) in omega (arith, low, more)

index-low : (base : ℕ) (entries : List (ℕ × Place)) (i number : ℕ) (place : Place) → Low base entries →
    T (is_sorted nat_cmp entries) → slice_get entries i ≡ Some (number, place) → base + i ≤ number
index-low base [] i number place low rise at = absurd (none-some (number, place) at)
index-low base (e ∷ entries) zero number place low rise at = let same = ap (λ (x : ℕ × Place). x.0)
    (same_Some e (number, place) at) in omega (arith, low, same)
index-low base (e ∷ entries) (suc i) number place low rise at =
    let rest = index-low (base + 1) entries i number place
    (next-low base e entries low (left-test (below_all nat_cmp e.0 entries) (is_sorted nat_cmp entries) rise))
    (right-test (below_all nat_cmp e.0 entries) (is_sorted nat_cmp entries) rise) at in omega (arith, rest)

lowest : (entries : List (ℕ × Place)) → Low 0 entries
lowest [] = tt
lowest (e ∷ entries) = omega arith

pub index-below : (line : LineContent) (i number : ℕ) (place : Place) →
    Some (number, place) ≡ slice_get (finite.entries line.marks) i → i ≤ number
index-below line i number place at =
    let all = finite.entries line.marks in
    let low = index-low 0 all i number place (lowest all) (finite.entries_sorted line.marks) (sym at) in
    omega (arith, low)

pub index-within : (line : LineContent) (i number : ℕ) (place : Place) →
    Some (number, place) ≡ slice_get (finite.entries line.marks) i → i < length (finite.entries line.marks)
index-within line i number place at = slice_get_within (finite.entries line.marks) i (number, place) (sym at)

-- ---- what stands in a table is within it
pub noted-within : (names : List (Option NodePtr)) (n : ℕ) (p : NodePtr) → noted n names ≡ Some p → n < length names
noted-within names n p is = elim (cases_lt n (length names)) [
  | inl below ↦ below
  | inr past ↦ absurd (none-some p (sym (get_or_past names n None past) ∙ is))
]
