-- Lines that are looked through one by one, from the first on or from the last back.
use Rattle.line_lists.proofs.Common.{◌≡◌, ℕ, ◌+◌, ◌-◌, ◌<◌, ◌≤◌, Bool, true, false, cond, List, [], ◌∷◌, ◌++◌, None}
use Rattle.line_lists.proofs.Common.{Some, length, get_or, take, drop, sym, ap, subst, ◌∙◌, arith, length-append}
use Rattle.line_lists.proofs.Common.{take-append-drop, IfSome, nat_lt, position, prefix_len, suffix_len, nat_tests}
use Rattle.line_lists.proofs.Common.{drop_more, take_more, prefix_len-drop_all, prefix_len-drop_no, prefix_len-drop_yes}
use Rattle.line_lists.proofs.Common.{suffix_len-take_no, suffix_len-take_yes, slice_get-get_or, plus-no_text, CountsFit}
use Rattle.line_lists.proofs.Common.{plus, LineContent, joined, line_count, Holds, IsCounted, count_of, whole, not}
use Rattle.line_lists.proofs.CountRows.{count-append, counted-more}
use Rattle.line_lists.proofs.WholeLaws.{whole-append, whole-one}

-- how many lines from the first on don't pass a test, and so the first that does
abbrev pub Passed : (LineContent → Bool) → List LineContent → ℕ → Type 0
Passed test xs i = prefix_len (λ x. not (test x)) xs ≡ i + prefix_len (λ x. not (test x)) (drop i xs)

pub passed-more : (test : LineContent → Bool) (xs : List LineContent) (i : ℕ) (x : LineContent) → i < length xs →
    x ≡ get_or xs i x → test x ≡ false
    → Passed test xs i → Passed test xs (i + 1)
passed-more test xs i x within is hasn't so_far =
    omega (
      arith,
      so_far,
      prefix_len-drop_yes (λ y. not (test y)) xs i x within (ap (λ y. not (test y)) (sym is)
          ∙ ap not hasn't),
    )

pub passed-stops : (test : LineContent → Bool) (xs : List LineContent) (i : ℕ) (x : LineContent) → i < length xs →
    x ≡ get_or xs i x → test x ≡ true
    → Passed test xs i → Some i ≡ position test xs
passed-stops test xs i x within is has so_far =
    let here : prefix_len (λ y. not (test y)) xs
    ≡ i = omega (
      arith,
      so_far,
      prefix_len-drop_no (λ y. not (test y)) xs i x within
          (ap (λ y. not (test y)) (sym is) ∙ ap not has),
    ) in
    let below : nat_lt i (length xs) ≡ true = grind (arith, nat_tests) in
    sym (ap (λ n. cond (nat_lt n (length xs)) (Some n) None) here ∙ ap (λ b. cond b (Some i) None) below)

pub passed-all : (test : LineContent → Bool) (xs : List LineContent) (i : ℕ) → length xs ≤ i → i ≤ length xs →
    Passed test xs i → None ≡ position test xs
passed-all test xs i behind within so_far =
    let here : prefix_len (λ y. not (test y)) xs
    ≡ i = omega (arith, so_far, prefix_len-drop_all (λ y. not (test y)) xs i behind) in
    let below : nat_lt i (length xs) ≡ false = grind (arith, nat_tests) in
    sym (ap (λ n. cond (nat_lt n (length xs)) (Some n) None) here ∙ ap (λ b. cond b (Some i) None) below)

-- how many from the last back don't pass it
abbrev pub Left : (LineContent → Bool) → List LineContent → ℕ → Type 0
Left test xs n = n + suffix_len (λ x. not (test x)) xs ≡ length xs + suffix_len (λ x. not (test x)) (take n xs)

pub left-more : (test : LineContent → Bool) (xs : List LineContent) (n : ℕ) (x : LineContent) → 0 < n → n ≤ length xs →
    x ≡ get_or xs (n - 1) x → test x ≡ false
    → Left test xs n → Left test xs (n - 1)
left-more test xs n x some within is hasn't so_far =
    omega (
      arith,
      so_far,
      suffix_len-take_yes (λ y. not (test y)) xs n x some within (ap (λ y. not (test y)) (sym is)
          ∙ ap not hasn't),
    )

pub left-stops : (test : LineContent → Bool) (xs : List LineContent) (n : ℕ) (x : LineContent) → 0 < n → n ≤ length xs →
    x ≡ get_or xs (n - 1) x → test x ≡ true
    → Left test xs n → length xs - n ≡ suffix_len (λ y. not (test y)) xs
left-stops test xs n x some within is has so_far =
    omega (
      arith,
      so_far,
      suffix_len-take_no (λ y. not (test y)) xs n x some within (ap (λ y. not (test y)) (sym is)
          ∙ ap not has),
    )

pub left-none : (test : LineContent → Bool) (xs : List LineContent) (n : ℕ) → n ≡ 0 → Left test xs n →
    length xs - n ≡ suffix_len (λ y. not (test y)) xs
left-none test xs n none so_far =
    omega (arith, none, so_far, ap (λ k. suffix_len (λ y. not (test y)) (take k xs)) none)

-- the sum so far, with one line more
pub sum-fits : (xs : List LineContent) (i : ℕ) (x : LineContent) → i < length xs → x ≡ get_or xs i x →
    IsCounted (count_of xs) → CountsFit (count_of (take i xs)) (line_count x)
sum-fits xs i x within is all =
    let rest = drop_more xs i x within ∙ ap (λ y. y ∷ drop (i + 1) xs) (sym is) in
    let whole_list : xs ≡ take i xs ++ x ∷ drop (i + 1) xs = sym (take-append-drop i xs)
    ∙ ap (λ ys. take i xs ++ ys) rest in
    counted-more (take i xs) (drop (i + 1) xs) x (subst (λ ys. IsCounted (count_of ys)) whole_list all)

pub sum-more : (xs : List LineContent) (i : ℕ) (x : LineContent) → i < length xs → x ≡ get_or xs i x →
    plus (count_of (take i xs)) (line_count x) ≡ count_of (take (i + 1) xs)
sum-more xs i x within is =
    sym (ap count_of (take_more xs i x within ∙ ap (λ y. take i xs ++ y ∷ []) (sym is))
    ∙ count-append (take i xs) (x ∷ []) ∙ ap (plus (count_of (take i xs))) (plus-no_text (line_count x)))

-- the column that an offset has left behind so many lines
pub record Remains (lines : List LineContent) (offset index column : ℕ) : Type 0 where
  pub behind : offset ≡ length (whole (take index lines)).columns + column
  pub inside : column < length (whole (drop index lines)).columns

pub column-more : (xs : List LineContent) (offset i column : ℕ) (x : LineContent) → i < length xs → x ≡ get_or xs i x →
    length x.columns ≤ column
    → Remains xs offset i column → Remains xs offset (i + 1) (column - length x.columns)
column-more xs offset i column x within is past so_far =
    let front = ap (λ ys. length (whole ys).columns) (take_more xs i x within ∙ ap (λ y. take i xs ++ y ∷ []) (sym is))
    ∙ ap (λ line. length line.columns) (whole-append (take i xs) (x ∷ [])
    ∙ ap (λ line. joined (whole (take i xs)) line) (whole-one x))
    ∙ length-append (whole (take i xs)).columns x.columns in
    let back = ap (λ ys. length (whole ys).columns) (drop_more xs i x within ∙ ap (λ y. y ∷ drop (i + 1) xs) (sym is))
    ∙ length-append x.columns (whole (drop (i + 1) xs)).columns in
    record {
      behind = omega (arith, so_far.behind, front, past);
      inside = omega (arith, so_far.inside, back, past);
    }

pub column-holds : (xs : List LineContent) (offset i column : ℕ) (x : LineContent) → i < length xs → x ≡ get_or xs i x →
    column < length x.columns
    → Remains xs offset i column → Holds xs offset i column
column-holds xs offset i column x within is inside so_far = record {
  behind = so_far.behind;
  inside = subst (λ found. IfSome found (λ (here : LineContent). column < length here.columns))
      (sym (slice_get-get_or xs i x within ∙ ap (λ y. Some y) (sym is))) inside;
  within = within;
}

-- a number of marks is tested
pub some-marks : (n m : ℕ) → n ≡ m → 0 < n → nat_lt 0 m ≡ true
some-marks n m is some = grind (arith, nat_tests)

pub no-marks : (n m : ℕ) → n ≡ m → n ≤ 0 → nat_lt 0 m ≡ false
no-marks n m is none = grind (arith, nat_tests)
