-- What the nearest element that passes a test tells of the elements between: of columns in a line, and of lines.
use Rattle.line_lists.proofs.Common.{◌≡◌, ℕ, zero, suc, ◌+◌, ◌-◌, ◌<◌, ◌≤◌, Bool, true, false, not, cond, List, []}
use Rattle.line_lists.proofs.Common.{Option, None, Some, length, take, drop, get_or, refl, sym, ap, ◌∙◌, inl, inr}
use Rattle.line_lists.proofs.Common.{arith, length-drop, option_map, if◌then◌else◌, position, position_or_len}
use Rattle.line_lists.proofs.Common.{suffix_len, cases_lt, nat_tests, get_or-drop, fails_before_first}
use Rattle.line_lists.proofs.Common.{suffix_len-take_no, suffix_len-take_yes, LineContent, plain_line, next_line}
use Rattle.line_lists.proofs.Common.{previous_line, nat_lt}
use Rattle.std.proofs.lemmas.List.Quantifiers.{position-Some}

abbrev pub line_at : List LineContent → ℕ → LineContent
line_at lines k = get_or lines k (plain_line [])

-- the elements from one to another fail a test
abbrev pub FailIn : {A : Type 0} → A → (A → Bool) → List A → ℕ → ℕ → Type 0
FailIn d test xs from to = (j : ℕ) → from ≤ j → j < to → test (get_or xs j d) ≡ false

pub record NextIn {A : Type 0} (d : A) (test : A → Bool) (from : ℕ) (xs : List A) (k : ℕ) : Type 0 where
  pub above : from ≤ k
  pub within : k < length xs
  pub passes : test (get_or xs k d) ≡ true
  pub free : FailIn d test xs from k

pub record PreviousIn {A : Type 0} (d : A) (test : A → Bool) (to : ℕ) (xs : List A) (k : ℕ) : Type 0 where
  pub below : k < to
  pub passes : test (get_or xs k d) ≡ true
  pub free : FailIn d test xs (suc k) to

-- the same of lines
abbrev pub FailFrom : (LineContent → Bool) → List LineContent → ℕ → ℕ → Type 0
FailFrom test lines from to = FailIn (plain_line []) test lines from to

abbrev pub NextAt : (LineContent → Bool) → ℕ → List LineContent → ℕ → Type 0
NextAt test from lines k = NextIn (plain_line []) test from lines k

abbrev pub PreviousAt : (LineContent → Bool) → ℕ → List LineContent → ℕ → Type 0
PreviousAt test to lines k = PreviousIn (plain_line []) test to lines k

pub some_same : (x y : ℕ) → Some x ≡ Some y → x ≡ y
some_same x y same = cc

pub found-next : {A : Type 0} (d : A) (test : A → Bool) (from : ℕ) (xs : List A) (k : ℕ) →
    option_map (λ n. from + n) (position test (drop from xs)) ≡ Some k → NextIn d test from xs k
found-next d test from xs k is = which (position test (drop from xs)) refl is where
  which : (found : Option ℕ) → position test (drop from xs) ≡ found → option_map (λ n. from + n) found ≡ Some k →
      NextIn d test from xs k
  which None found is = absurd (let no : None ≡ Some k = is in cc)
  which (Some n) found is =
      let at : from + n ≡ k = some_same (from + n) k is in
      let facts = position-Some test (drop from xs) n d found in
      let long = length-drop from xs in
      record {
        above = omega (arith, at);
        within = omega (arith, at, facts.0, long);
        passes = ap test (ap (λ i. get_or xs i d) (sym at) ∙ sym (get_or-drop from xs n d)) ∙ facts.1;
        free = λ j more less.
            let back : from + (j - from) ≡ j = omega arith in
            ap test (ap (λ i. get_or xs i d) (sym back) ∙ sym (get_or-drop from xs (j - from) d))
            ∙ facts.2 (j - from) (omega (arith, at));
      }

none_past : (p n : ℕ) → cond (nat_lt p n) (Some p) None ≡ None → n ≤ p
none_past p n is = which (nat_lt p n) refl is where
  which : (b : Bool) → nat_lt p n ≡ b → cond b (Some p) None ≡ None → n ≤ p
  which true test is = absurd (let no : Some p ≡ None = is in cc)
  which false test is = grind (arith, nat_tests)

mapped_none : (from : ℕ) (found : Option ℕ) → option_map (λ n. from + n) found ≡ None → found ≡ None
mapped_none from None is = refl
mapped_none from (Some n) is = absurd (let no : Some (from + n) ≡ None = is in cc)

pub none-next : {A : Type 0} (d : A) (test : A → Bool) (from : ℕ) (xs : List A) →
    option_map (λ n. from + n) (position test (drop from xs)) ≡ None → FailIn d test xs from (length xs)
none-next d test from xs is j more less =
    let past = none_past (position_or_len test (drop from xs)) (length (drop from xs))
    (mapped_none from (position test (drop from xs)) is) in
    let back : from + (j - from) ≡ j = omega arith in
    ap test (ap (λ i. get_or xs i d) (sym back) ∙ sym (get_or-drop from xs (j - from) d))
    ∙ fails_before_first test (drop from xs) (j - from) d (omega (arith, past, length-drop from xs))

-- ---- back
record Suffix {A : Type 0} (d : A) (p : A → Bool) (xs : List A) (n s : ℕ) : Type 0 where
  small : s ≤ n
  pass : (j : ℕ) → n ≤ j + s → j < n → p (get_or xs j d) ≡ true
  fails : s < n → p (get_or xs (n - s - 1) d) ≡ false

one_back : {A : Type 0} (d : A) (p : A → Bool) (xs : List A) (m : ℕ) (b : Bool) → suc m ≤ length xs →
    Suffix d p xs m (suffix_len p (take m xs)) → p (get_or xs m d) ≡ b
    → Suffix d p xs (suc m) (suffix_len p (take (suc m) xs))
one_back d p xs m true within rest is =
    let less_one : suc m - 1 ≡ m = omega arith in
    let count : suffix_len p (take (suc m) xs) ≡ 1 + suffix_len p (take m xs) =
    suffix_len-take_yes p xs (suc m) d (omega arith) within (ap (λ i. p (get_or xs i d)) less_one ∙ is)
    ∙ ap (λ i. 1 + suffix_len p (take i xs)) less_one in
    record {
      small = omega (arith, count, rest.small);
      pass = λ j more less. elim (cases_lt j m) [
        | inl before ↦ rest.pass j (omega (arith, count, more)) before
        | inr behind ↦ ap (λ i. p (get_or xs i d)) (let same : j ≡ m = omega arith in same) ∙ is
      ];
      fails = λ less. ap (λ i. p (get_or xs i d)) (let same : suc m - suffix_len p (take (suc m) xs) - 1
          ≡ m - suffix_len p (take m xs) - 1 = omega (arith, count) in same) ∙ rest.fails (omega (arith, count, less));
    }
one_back d p xs m false within rest is =
    let less_one : suc m - 1 ≡ m = omega arith in
    let count : suffix_len p (take (suc m) xs) ≡ 0 =
    suffix_len-take_no p xs (suc m) d (omega arith) within (ap (λ i. p (get_or xs i d)) less_one ∙ is) in
    record {
      small = omega (arith, count);
      pass = λ j more less. absurd (omega (arith, count, more, less));
      fails = λ less. ap (λ i. p (get_or xs i d)) (let same : suc m - suffix_len p (take (suc m) xs) - 1
          ≡ m = omega (arith, count) in same) ∙ is;
    }

suffix-facts : {A : Type 0} (d : A) (p : A → Bool) (xs : List A) (n : ℕ) → n ≤ length xs →
    Suffix d p xs n (suffix_len p (take n xs))
suffix-facts d p xs zero within =
    record { small = omega arith; pass = λ j more less. absurd (omega arith); fails = λ less. absurd (omega arith) }
suffix-facts d p xs (suc m) within =
    one_back d p xs m (p (get_or xs m d)) within (suffix-facts d p xs m (omega arith)) refl

not_true : (b : Bool) → not b ≡ true → b ≡ false
not_true true is = absurd (let no : false ≡ true = is in cc)
not_true false is = refl

not_false : (b : Bool) → not b ≡ false → b ≡ true
not_false true is = refl
not_false false is = absurd (let no : true ≡ false = is in cc)

module _ {A : Type 0} (d : A) (test : A → Bool) (to : ℕ) (xs : List A) (within : to ≤ length xs) where
  abbrev count : ℕ
  count = suffix_len (λ x. not (test x)) (take to xs)

  facts : Suffix d (λ x. not (test x)) xs to count
  facts = suffix-facts d (λ x. not (test x)) xs to within

  pub found-previous : (k : ℕ) → (if nat_lt count to then Some (to - count - 1) else None) ≡ Some k →
      PreviousIn d test to xs k
  found-previous k is = which (nat_lt count to) refl is where
    which : (b : Bool) → nat_lt count to ≡ b → (if b then Some (to - count - 1) else None) ≡ Some k →
        PreviousIn d test to xs k
    which false less is = absurd (let no : None ≡ Some k = is in cc)
    which true less is =
        let at : to - count - 1 ≡ k = some_same (to - count - 1) k is in
        let small : count < to = grind (arith, nat_tests) in
        record {
          below = omega (arith, at, small);
          passes = ap (λ i. test (get_or xs i d)) (sym at) ∙ not_false _ (facts.fails small);
          free = λ j more before. not_true _ (facts.pass j (omega (arith, at, small, more)) before);
        }

  pub none-previous : (if nat_lt count to then Some (to - count - 1) else None) ≡ None → FailIn d test xs 0 to
  none-previous is j more before = which (nat_lt count to) refl is where
    which : (b : Bool) → nat_lt count to ≡ b → (if b then Some (to - count - 1) else None) ≡ None →
        test (get_or xs j d) ≡ false
    which true less is = absurd (let no : Some (to - count - 1) ≡ None = is in cc)
    which false less is =
        let all : to ≤ count = grind (arith, nat_tests) in
        not_true _ (facts.pass j (omega (arith, all)) before)

-- ---- lines
pub next-found : (test : LineContent → Bool) (from : ℕ) (lines : List LineContent) (k : ℕ) →
    next_line test from lines ≡ Some k → NextAt test from lines k
next-found test from lines k is = found-next (plain_line []) test from lines k is

pub next-none : (test : LineContent → Bool) (from : ℕ) (lines : List LineContent) → next_line test from lines ≡ None →
    FailFrom test lines from (length lines)
next-none test from lines is = none-next (plain_line []) test from lines is

pub previous-found : (test : LineContent → Bool) (to : ℕ) (lines : List LineContent) → to ≤ length lines → (k : ℕ) →
    previous_line test to lines ≡ Some k → PreviousAt test to lines k
previous-found test to lines within k is = found-previous (plain_line []) test to lines within k is

pub previous-none : (test : LineContent → Bool) (to : ℕ) (lines : List LineContent) → to ≤ length lines →
    previous_line test to lines ≡ None → FailFrom test lines 0 to
previous-none test to lines within is = none-previous (plain_line []) test to lines within is
