-- The marks of a line by their numbers.
use Rattle.segments.proofs.Common.{◌≡◌, ◌≢◌, ℕ, zero, suc, ◌+◌, ◌<◌, ◌≤◌, Bool, true, false, cond, ◌&&◌, not, T, List}
use Rattle.segments.proofs.Common.{[], ◌∷◌, ◌++◌, Option, None, Some, length, get_or, set, take, drop, refl, sym, ap}
use Rattle.segments.proofs.Common.{ap₂, subst, subst₂, ◌∙◌, append_assoc, arith, nat_tests, append-nil, drop_all}
use Rattle.segments.proofs.Common.{drop_more, All-cons, All-head, All-nil, All-push, All-tail, All-weaker}
use Rattle.segments.proofs.Common.{slice_get-map, eq_by_cmp_equiv, nat_cmp_is, nat_cmp_total, unsigned_tied, find}
use Rattle.segments.proofs.Common.{is_sorted, nat_cmp-IsAntisymmetric, put, below_all, by_order, find-where_key}
use Rattle.segments.proofs.Common.{is_sorted-put, is_sorted-where_key, where_key, All, insert, remove}
use Rattle.segments.proofs.Common.{IsNonDecreasingBy, eq_by_cmp, is_eq, is_lt, nat_cmp, ⊤, option_map, slice_get, Place}
use Rattle.segments.proofs.Common.{Marks, map_marks, get-map_marks, same_marks, Mark, joined_marks, later, Below, Rise}
use Rattle.segments.proofs.Common.{entries_of, entry_of, marks_of, ◌==◌}
use Rattle.std.specs.declared.cmp.Ordering.{Ordering}
use Rattle.std.specs.declared.cmp.Ordering.TheVariants.{Less, Equal, Greater}
use Rattle.std.specs.FinMap as finite

pub marks_of-nil : marks_of [] ≡ finite.empty
marks_of-nil = finite.same_map nat_cmp_total finite.nat_cmp-IsAntisymmetric _ _ (λ q.
    finite.get-from_sorted nat_cmp [] q tt ∙ sym (finite.get-empty nat_cmp q))

pub entries-marks_of : (marks : List Mark) → Rise marks → finite.entries (marks_of marks) ≡ entries_of marks
entries-marks_of marks rise = finite.entries-from_sorted nat_cmp (entries_of marks) rise

pub get-marks_of : (marks : List Mark) (number : ℕ) → Rise marks →
    finite.get (marks_of marks) number ≡ find nat_cmp number (entries_of marks)
get-marks_of marks number rise = finite.get-from_sorted nat_cmp (entries_of marks) number rise

pub slice_get-marks_of : (marks : List Mark) (index : ℕ) → Rise marks →
    slice_get (finite.entries (marks_of marks)) index ≡ option_map entry_of (slice_get marks index)
slice_get-marks_of marks index rise =
    ap (λ es. slice_get es index) (entries-marks_of marks rise) ∙ slice_get-map entry_of marks index

is_less : (a b : ℕ) → a < b → nat_cmp a b ≡ Less
is_less a b less = sym (nat_cmp_is a b Less less)

is_equal : (a b : ℕ) → a ≡ b → nat_cmp a b ≡ Equal
is_equal a b same = sym (nat_cmp_is a b Equal same)

is_greater : (a b : ℕ) → b < a → nat_cmp a b ≡ Greater
is_greater a b more = sym (nat_cmp_is a b Greater more)

tied : (a b : ℕ) → a ≡ b → eq_by_cmp nat_cmp a b ≡ true
tied a b same = ap is_eq (is_equal a b same)

apart : (a b : ℕ) → a ≢ b → eq_by_cmp nat_cmp a b ≡ false
apart a b other = unsigned_tied a b ∙ grind (arith, nat_tests)

pub tied_same : (a b : ℕ) → eq_by_cmp nat_cmp a b ≡ true → a ≡ b
tied_same a b is = let test : (a == b) ≡ true = sym (unsigned_tied a b) ∙ is in grind (arith, nat_tests)

is_true : (test : Bool) → T test → test ≡ true
is_true true holds = refl
is_true false holds = absurd holds

risen : (a b : ℕ) → is_lt (nat_cmp a b) ≡ true → a < b
risen a b is = grind (arith, nat_tests)

rising : (a b : ℕ) → T (is_lt (nat_cmp a b)) → a < b
rising a b holds = risen a b (is_true (is_lt (nat_cmp a b)) holds)

pub first_part : (first rest : Bool) → T (first && rest) → T first
first_part true rest both = tt
first_part false rest both = absurd both

pub second_part : (first rest : Bool) → T (first && rest) → T rest
second_part true rest both = both
second_part false rest both = absurd both

-- ---- how many have a lower number
behind_low : (low : ℕ) (marks : List Mark) → T (below_all nat_cmp low (entries_of marks)) → (j : ℕ) (d : Mark) →
    j < length marks → low < (get_or marks j d).number.0
behind_low low [] all j d within = absurd (omega arith)
behind_low low (m ∷ marks) all zero d within = rising low m.number.0 (first_part _ _ all)
behind_low low (m ∷ marks) all (suc j) d within = behind_low low marks (second_part _ _ all) j d (omega arith)

pub numbers_rise : (marks : List Mark) → Rise marks → IsNonDecreasingBy (λ (m : Mark). m.number.0) marks
numbers_rise [] rise i j d order within = absurd (omega arith)
numbers_rise (m ∷ marks) rise zero zero d order within = omega arith
numbers_rise (m ∷ marks) rise zero (suc j) d order within =
    omega (arith, behind_low m.number.0 marks (first_part _ _ rise) j d (omega arith))
numbers_rise (m ∷ marks) rise (suc i) zero d order within = absurd (omega (arith, order))
numbers_rise (m ∷ marks) rise (suc i) (suc j) d order within =
    numbers_rise marks (second_part _ _ rise) i j d (omega (arith, order)) (omega arith)

pub all_below : (marks : List Mark) (i number : ℕ) → i ≤ length marks →
    ((k : ℕ) (d : Mark) → k < i → (get_or marks k d).number.0 < number) → All (Below number) (take i marks)
all_below marks zero number within below = All-nil (Below number)
all_below [] (suc i) number within below = absurd (omega arith)
all_below (m ∷ marks) (suc i) number within below =
    All-cons (Below number) m (take i marks) (below 0 m (omega arith))
    (all_below marks i number (omega arith) (λ k d less. below (suc k) d (omega (arith, less))))

pub next_above : (marks : List Mark) (i number : ℕ) →
    ((k : ℕ) (d : Mark) → i ≤ k → k < length marks → number ≤ (get_or marks k d).number.0)
    → All (λ (m : Mark). number ≤ m.number.0) (take 1 (drop i marks))
next_above [] zero number above = All-nil (λ (m : Mark). number ≤ m.number.0)
next_above [] (suc i) number above = All-nil (λ (m : Mark). number ≤ m.number.0)
next_above (m ∷ marks) zero number above = All-cons (λ (m : Mark). number
    ≤ m.number.0) m [] (above 0 m (omega arith) (omega arith)) (All-nil (λ (m : Mark). number ≤ m.number.0))
next_above (m ∷ marks) (suc i) number above =
    next_above marks i number (λ k d order within. above (suc k) d (omega (arith, order)) (omega (arith, within)))

-- the mark behind those with a lower number has a higher one, where it hasn't this number
pub above_other : (marks : List Mark) (k number : ℕ) (mark : Mark) → mark ≡ get_or marks k mark →
    mark.number.0 ≢ number → All (λ (m : Mark). number ≤ m.number.0) (take 1 (drop k marks))
    → All (λ (m : Mark). number < m.number.0) (take 1 (drop k marks))
above_other [] zero number mark is other above = All-nil (λ (m : Mark). number < m.number.0)
above_other [] (suc k) number mark is other above = All-nil (λ (m : Mark). number < m.number.0)
above_other (m ∷ marks) zero number mark is other above =
    let lowest = All-head (λ (m : Mark). number ≤ m.number.0) m [] above in
    let here = ap (λ (x : Mark). x.number.0) is in
    All-cons (λ (m : Mark). number < m.number.0) m [] (omega (arith, other, lowest, here))
    (All-nil (λ (m : Mark). number < m.number.0))
above_other (m ∷ marks) (suc k) number mark is other above = above_other marks k number mark is other above

pub above_end : (marks : List Mark) (k number : ℕ) → length marks ≤ k →
    All (λ (m : Mark). number < m.number.0) (take 1 (drop k marks))
above_end marks k number past = subst (λ rest. All (λ (m : Mark). number < m.number.0) (take 1 rest))
    (sym (drop_all k marks past)) (All-nil (λ (m : Mark). number < m.number.0))

-- an entry goes before one with a higher number, in the place of its own, and behind one with a lower
module _ (number : ℕ) (place : Place) (m : Mark) (marks : List Mark) where
  put_by : (order : Ordering) → nat_cmp number m.number.0 ≡ order →
      put nat_cmp number place (entries_of (m ∷ marks))
      ≡ by_order order ((number, place) ∷ entries_of (m ∷ marks)) ((m.number.0, place) ∷ entries_of marks)
      (entry_of m ∷ put nat_cmp number place (entries_of marks))
  put_by order is = ap (λ order. by_order order ((number, place) ∷ entries_of (m ∷ marks))
      ((m.number.0, place) ∷ entries_of marks) (entry_of m ∷ put nat_cmp number place (entries_of marks))) is

  put_before : number < m.number.0 → put nat_cmp number place (entries_of (m ∷ marks))
      ≡ (number, place) ∷ entries_of (m ∷ marks)
  put_before less = put_by Less (is_less number m.number.0 less)

  put_here : number ≡ m.number.0 → put nat_cmp number place (entries_of (m ∷ marks))
      ≡ (m.number.0, place) ∷ entries_of marks
  put_here same = put_by Equal (is_equal number m.number.0 same)

  put_behind : m.number.0 < number → put nat_cmp number place (entries_of (m ∷ marks))
      ≡ entry_of m ∷ put nat_cmp number place (entries_of marks)
  put_behind less = put_by Greater (is_greater number m.number.0 less)

-- a mark behind those with a lower number, before one with a higher number
pub put_new : (marks : List Mark) (k : ℕ) (mark : Mark) → All (Below mark.number.0) (take k marks) →
    All (λ (m : Mark). mark.number.0 < m.number.0) (take 1 (drop k marks))
    → entries_of (insert marks k mark) ≡ put nat_cmp mark.number.0 mark.place (entries_of marks)
put_new [] zero mark below above = refl
put_new [] (suc k) mark below above = refl
put_new (m ∷ marks) zero mark below above =
    sym (put_before mark.number.0 mark.place m marks (All-head (λ (m : Mark). mark.number.0 < m.number.0) m [] above))
put_new (m ∷ marks) (suc k) mark below above =
    ap (λ es. entry_of m ∷ es) (put_new marks k mark (All-tail (Below mark.number.0) m (take k marks) below) above)
    ∙ sym (put_behind mark.number.0 mark.place m marks (All-head (Below mark.number.0) m (take k marks) below))

-- a place in the place of that of a mark with the number
pub put_same : (marks : List Mark) (k : ℕ) (mark : Mark) (number : ℕ) (place : Place) → k < length marks →
    All (Below number) (take k marks) → mark ≡ get_or marks k mark → mark.number.0 ≡ number
    → entries_of (set marks k (record { number = mark.number; place = place }))
    ≡ put nat_cmp number place (entries_of marks)
put_same [] k mark number place within below is same = absurd (omega arith)
put_same (m ∷ marks) zero mark number place within below is same =
    ap (λ (x : Mark). (x.number.0, place) ∷ entries_of marks) is
    ∙ sym (put_here number place m marks (sym same ∙ ap (λ (x : Mark). x.number.0) is))
put_same (m ∷ marks) (suc k) mark number place within below is same =
    ap (λ es. entry_of m ∷ es) (put_same marks k mark number place (omega arith)
    (All-tail (Below number) m (take k marks) below) is same)
    ∙ sym (put_behind number place m marks (All-head (Below number) m (take k marks) below))

pub put_rise : (old new : List Mark) (number : ℕ) (place : Place) → Rise old →
    entries_of new ≡ put nat_cmp number place (entries_of old) → Rise new
put_rise old new number place rise is = subst (λ es. T (is_sorted nat_cmp es)) (sym is)
    (is_sorted-put nat_cmp nat_cmp_total number place (entries_of old) rise)

pub put_marks : (old new : List Mark) (number : ℕ) (place : Place) → Rise old →
    entries_of new ≡ put nat_cmp number place (entries_of old)
    → marks_of new ≡ finite.insert (marks_of old) number place
put_marks old new number place rise is =
    finite.same_entries_map _ _
    (entries-marks_of new (put_rise old new number place rise is) ∙ is
    ∙ ap (put nat_cmp number place) (sym (entries-marks_of old rise))
    ∙ sym (finite.entries-insert nat_cmp_total (marks_of old) number place))

abbrev pub other_than : ℕ → ℕ → Bool
other_than number q = not (eq_by_cmp nat_cmp number q)

-- no entry with a higher number is taken away
kept_all : (number low : ℕ) (es : List (ℕ × Place)) → number ≤ low → T (below_all nat_cmp low es) →
    where_key nat_cmp (other_than number) es ≡ es
kept_all number low [] few all = refl
kept_all number low (e ∷ es) few all =
    let behind : low < e.0 = rising low e.0 (first_part _ _ all) in
    ap (λ b. cond (not b) (e ∷ where_key nat_cmp (other_than number) es) (where_key nat_cmp (other_than number) es))
    (apart number e.0 (λ same. omega (arith, same)))
    ∙ ap (λ rest. e ∷ rest) (kept_all number low es few (second_part _ _ all))

kept_past : (number : ℕ) (m : Mark) (marks : List Mark) → number ≢ m.number.0 →
    where_key nat_cmp (other_than number) (entries_of (m ∷ marks))
    ≡ entry_of m ∷ where_key nat_cmp (other_than number) (entries_of marks)
kept_past number m marks other =
    let rest = where_key nat_cmp (other_than number) (entries_of marks) in
    ap (λ b. cond (not b) (entry_of m ∷ rest) rest) (apart number m.number.0 other)

pub take_same : (marks : List Mark) (k : ℕ) (mark : Mark) (number : ℕ) → Rise marks → k < length marks →
    All (Below number) (take k marks) → mark ≡ get_or marks k mark → mark.number.0 ≡ number
    → entries_of (remove marks k) ≡ where_key nat_cmp (other_than number) (entries_of marks)
take_same [] k mark number rise within below is same = absurd (omega arith)
take_same (m ∷ marks) zero mark number rise within below is same =
    let here : number ≡ m.number.0 = sym same ∙ ap (λ (x : Mark). x.number.0) is in
    let rest = where_key nat_cmp (other_than number) (entries_of marks) in
    let low : number ≤ m.number.0 = omega (arith, here) in
    sym (ap (λ b. cond (not b) (entry_of m ∷ rest) rest) (tied number m.number.0 here)
    ∙ kept_all number m.number.0 (entries_of marks) low (first_part _ _ rise))
take_same (m ∷ marks) (suc k) mark number rise within below is same =
    ap (λ es. entry_of m ∷ es) (take_same marks k mark number (second_part _ _ rise) (omega arith)
    (All-tail (Below number) m (take k marks) below) is same)
    ∙ sym (kept_past number m marks (λ here. omega (arith, here, All-head (Below number) m (take k marks) below)))

pub take_none : (marks : List Mark) (k number : ℕ) → Rise marks → All (Below number) (take k marks) →
    All (λ (m : Mark). number < m.number.0) (take 1 (drop k marks))
    → entries_of marks ≡ where_key nat_cmp (other_than number) (entries_of marks)
take_none [] k number rise below above = refl
take_none (m ∷ marks) zero number rise below above =
    let higher = All-head (λ (m : Mark). number < m.number.0) m [] above in
    let low : number ≤ m.number.0 = omega (arith, higher) in
    sym (kept_past number m marks (λ here. omega (arith, here, higher))
    ∙ ap (λ es. entry_of m ∷ es) (kept_all number m.number.0 (entries_of marks) low (first_part _ _ rise)))
take_none (m ∷ marks) (suc k) number rise below above =
    ap (λ es. entry_of m ∷ es) (take_none marks k number (second_part _ _ rise)
    (All-tail (Below number) m (take k marks) below) above)
    ∙ sym (kept_past number m marks (λ here. omega (arith, here, All-head (Below number) m (take k marks) below)))

pub take_rise : (old new : List Mark) (number : ℕ) → Rise old →
    entries_of new ≡ where_key nat_cmp (other_than number) (entries_of old) → Rise new
take_rise old new number rise is =
    subst (λ es. T (is_sorted nat_cmp es)) (sym is)
    (is_sorted-where_key nat_cmp (other_than number) (entries_of old) rise)

turned : (test : Bool) (one other : Option Place) → cond (not test) one other ≡ cond test other one
turned true one other = refl
turned false one other = refl

pub take_marks : (old new : List Mark) (number : ℕ) → Rise old →
    entries_of new ≡ where_key nat_cmp (other_than number) (entries_of old)
    → marks_of new ≡ finite.remove (marks_of old) number
take_marks old new number rise is =
    same_marks _ _ (λ q.
    get-marks_of new q (take_rise old new number rise is) ∙ ap (find nat_cmp q) is
    ∙ find-where_key nat_cmp (other_than number) q (λ x tie.
    ap (other_than number) (sym (nat_cmp-IsAntisymmetric q x tie))) (entries_of old)
    ∙ turned (eq_by_cmp nat_cmp number q) (find nat_cmp q (entries_of old)) None
    ∙ ap (λ b. cond b None (find nat_cmp q (entries_of old))) ((eq_by_cmp_equiv nat_cmp_total).symm number q)
    ∙ ap (cond (eq_by_cmp nat_cmp q number) None) (sym (get-marks_of old q rise))
    ∙ sym (finite.get-remove nat_cmp_total (marks_of old) number q))

abbrev pub or_else : Option Place → Option Place → Option Place
or_else None other = other
or_else (Some place) other = Some place

none_behind : (q low : ℕ) (es : List (ℕ × Place)) → q ≤ low → T (below_all nat_cmp low es) → find nat_cmp q es ≡ None
none_behind q low [] few all = refl
none_behind q low (e ∷ es) few all =
    let behind : low < e.0 = rising low e.0 (first_part _ _ all) in
    ap (λ b. cond b (Some e.1) (find nat_cmp q es)) (apart q e.0 (λ same. omega (arith, same)))
    ∙ none_behind q low es few (second_part _ _ all)

find_past : (number : ℕ) (m : Mark) (marks : List Mark) → number ≢ m.number.0 →
    find nat_cmp number (entries_of (m ∷ marks)) ≡ find nat_cmp number (entries_of marks)
find_past number m marks other =
    ap (λ b. cond b (Some m.place) (find nat_cmp number (entries_of marks))) (apart number m.number.0 other)

-- the place of a mark with the number, behind those with a lower number
pub find_here : (marks : List Mark) (k : ℕ) (mark : Mark) (number : ℕ) → k < length marks →
    All (Below number) (take k marks) → mark ≡ get_or marks k mark → mark.number.0 ≡ number
    → find nat_cmp number (entries_of marks) ≡ Some mark.place
find_here [] k mark number within below is same = absurd (omega arith)
find_here (m ∷ marks) zero mark number within below is same =
    ap (λ b. cond b (Some m.place) (find nat_cmp number (entries_of marks)))
    (tied number m.number.0 (sym same ∙ ap (λ (x : Mark). x.number.0) is))
    ∙ ap (λ (x : Mark). Some x.place) (sym is)
find_here (m ∷ marks) (suc k) mark number within below is same =
    find_past number m marks (λ here. omega (arith, here, All-head (Below number) m (take k marks) below))
    ∙ find_here marks k mark number (omega arith) (All-tail (Below number) m (take k marks) below) is same

pub find_none : (marks : List Mark) (k number : ℕ) → Rise marks → All (Below number) (take k marks) →
    All (λ (m : Mark). number < m.number.0) (take 1 (drop k marks))
    → find nat_cmp number (entries_of marks) ≡ None
find_none [] k number rise below above = refl
find_none (m ∷ marks) zero number rise below above =
    let higher = All-head (λ (m : Mark). number < m.number.0) m [] above in
    let low : number ≤ m.number.0 = omega (arith, higher) in
    find_past number m marks (λ here. omega (arith, here, higher))
    ∙ none_behind number m.number.0 (entries_of marks) low (first_part _ _ rise)
find_none (m ∷ marks) (suc k) number rise below above =
    find_past number m marks (λ here. omega (arith, here, All-head (Below number) m (take k marks) below))
    ∙ find_none marks k number (second_part _ _ rise) (All-tail (Below number) m (take k marks) below) above

find_both : (q : ℕ) (es fs : List (ℕ × Place)) → find nat_cmp q (es ++ fs)
    ≡ or_else (find nat_cmp q es) (find nat_cmp q fs)
find_both q [] fs = refl
find_both q (e ∷ es) fs =
    elim (eq_by_cmp nat_cmp q e.0) as (λ b. cond b (Some e.1) (find nat_cmp q (es ++ fs))
    ≡ or_else (cond b (Some e.1) (find nat_cmp q es)) (find nat_cmp q fs)) [
      | true ↦ refl
      | false ↦ find_both q es fs
    ]

pub get-joined_marks : (len : ℕ) (first second : Marks) (q : ℕ)
    → finite.get (joined_marks len first second) q
    ≡ or_else (option_map (later len) (finite.get second q)) (finite.get first q)
get-joined_marks len first second q =
    let entries = finite.entries (map_marks (later len) second) in
    finite.get-from_entries nat_cmp_total (entries ++ finite.entries first) q
    ∙ find_both q entries (finite.entries first)
    ∙ ap₂ or_else (sym (finite.get-entries (map_marks (later len) second) q)
    ∙ get-map_marks (later len) second q) (sym (finite.get-entries first q))

pub joined_none : (len : ℕ) (first : Marks) → joined_marks len first finite.empty ≡ first
joined_none len first = same_marks _ _ (λ q.
    get-joined_marks len first finite.empty q
    ∙ ap (λ found. or_else (option_map (later len) found) (finite.get first q)) (finite.get-empty nat_cmp q))

-- ---- the marks of two texts, in one pass
-- marks before one that has a higher number
push_put : (marks : List Mark) (mark : Mark) → All (Below mark.number.0) marks →
    entries_of (marks ++ mark ∷ []) ≡ put nat_cmp mark.number.0 mark.place (entries_of marks)
push_put [] mark below = refl
push_put (m ∷ marks) mark below =
    ap (λ es. entry_of m ∷ es) (push_put marks mark (All-tail (Below mark.number.0) m marks below))
    ∙ sym (put_behind mark.number.0 mark.place m marks (All-head (Below mark.number.0) m marks below))

-- each of some marks has a lower number than the first of others
abbrev pub Before : List Mark → List Mark → Type 0
Before marks [] = ⊤
Before marks (mark ∷ others) = All (Below mark.number.0) marks

abbrev place_in : List Mark → ℕ → Option Place
place_in marks q = find nat_cmp q (entries_of marks)

abbrev place_joined : ℕ → Option Place → Option Place → Option Place
place_joined len second first = or_else (option_map (later len) second) first

-- some marks, and those that are left of two texts
pub record Merges (len : ℕ) (first second marks one two : List Mark) : Type 0 where
  pub rise : Rise marks
  pub rise_one : Rise one
  pub rise_two : Rise two
  pub before_one : Before marks one
  pub before_two : Before marks two
  pub found : (q : ℕ) → place_joined len (place_in two q) (or_else (place_in one q) (finite.get (marks_of marks) q))
      ≡ place_joined len (place_in second q) (place_in first q)

all_before : (marks : List Mark) (mark other : Mark) → All (Below mark.number.0) marks →
    mark.number.0 ≤ other.number.0 → All (Below other.number.0) marks
all_before marks mark other below less =
    All-weaker (Below mark.number.0) (Below other.number.0) (λ m under. omega (arith, under, less)) marks below

push_before : (marks others : List Mark) (mark : Mark) → All (Below mark.number.0) marks → Before (mark ∷ []) others →
    Before (marks ++ mark ∷ []) others
push_before marks [] mark below before = tt
push_before marks (other ∷ others) mark below before =
    let less = All-head (Below other.number.0) mark [] before in
    All-push (Below other.number.0) marks mark (all_before marks mark other below (omega (arith, less))) less

still_before : (mark new : Mark) (others : List Mark) → mark.number.0 ≡ new.number.0 → Before (mark ∷ []) others →
    Before (new ∷ []) others
still_before mark new [] same before = tt
still_before mark new (other ∷ others) same before =
    All-cons (Below other.number.0) new [] (subst (λ n. n < other.number.0) same
    (All-head (Below other.number.0) mark [] before)) (All-nil (Below other.number.0))

next_before : (mark : Mark) (marks : List Mark) → Rise (mark ∷ marks) → Before (mark ∷ []) marks
next_before mark [] rise = tt
next_before mark (m ∷ marks) rise =
    All-cons (Below m.number.0) mark [] (rising mark.number.0 m.number.0 (first_part _ _ (first_part _ _ rise)))
    (All-nil (Below m.number.0))

get-push : (marks : List Mark) (mark : Mark) (q : ℕ) → Rise marks → All (Below mark.number.0) marks
    → finite.get (marks_of (marks ++ mark ∷ [])) q
    ≡ cond (eq_by_cmp nat_cmp q mark.number.0) (Some mark.place) (finite.get (marks_of marks) q)
get-push marks mark q rise below =
    ap (λ all. finite.get all q) (put_marks marks (marks ++ mark ∷ []) mark.number.0 mark.place rise
    (push_put marks mark below))
    ∙ finite.get-insert nat_cmp_total (marks_of marks) mark.number.0 mark.place q

push_rise : (marks : List Mark) (mark : Mark) → Rise marks → All (Below mark.number.0) marks → Rise (marks ++ mark ∷ [])
push_rise marks mark rise below =
    put_rise marks (marks ++ mark ∷ []) mark.number.0 mark.place rise (push_put marks mark below)

-- a number that stands first stands nowhere behind
none_later : (mark : Mark) (marks : List Mark) (q : ℕ) → Rise (mark ∷ marks) →
    eq_by_cmp nat_cmp q mark.number.0 ≡ true → place_in marks q ≡ None
none_later mark marks q rise tie = let few : q ≤ mark.number.0 = omega (arith, tied_same q mark.number.0 tie) in
    none_behind q mark.number.0 (entries_of marks) few (first_part _ _ rise)

-- nor where all numbers are higher
none_higher : (marks : List Mark) (mark : Mark) (q : ℕ) → Rise marks → Before (mark ∷ []) marks →
    eq_by_cmp nat_cmp q mark.number.0 ≡ true → place_in marks q ≡ None
none_higher [] mark q rise before tie = refl
none_higher (m ∷ marks) mark q rise before tie =
    let same = tied_same q mark.number.0 tie in
    let less = All-head (Below m.number.0) mark [] before in
    let low : q ≤ m.number.0 = omega (arith, same, less) in
    find_past q m marks (λ here. omega (arith, here, same, less))
    ∙ none_behind q m.number.0 (entries_of marks) low (first_part _ _ rise)

first_goes : (tie : Bool) (place : Place) (found old : Option Place) → (tie ≡ true → found ≡ None) →
    or_else found (cond tie (Some place) old) ≡ or_else (cond tie (Some place) found) old
first_goes true place found old none = ap (λ found. or_else found (Some place)) (none refl)
first_goes false place found old none = refl

second_goes : (tie : Bool) (len : ℕ) (place : Place) (found other all old : Option Place) →
    (tie ≡ true → found ≡ None) → (tie ≡ true → other ≡ None) → (tie ≡ false → all ≡ other)
    → place_joined len found (or_else other (cond tie (Some (later len place)) old))
    ≡ place_joined len (cond tie (Some place) found) (or_else all old)
second_goes true len place found other all old none free same =
    ap₂ (λ one two. place_joined len one (or_else two (Some (later len place)))) (none refl) (free refl)
second_goes false len place found other all old none free same =
    ap (λ one. place_joined len found (or_else one old)) (sym (same refl))

abbrev pub moved_mark : ℕ → Mark → Mark
moved_mark len mark = record mark { place = later len mark.place }

merge_first : {len : ℕ} {first second marks one two : List Mark} (mark : Mark) →
    Merges len first second marks (mark ∷ one) two → Before (mark ∷ []) two →
    Merges len first second (marks ++ mark ∷ []) one two
merge_first {len} {marks = marks} {one = one} {two = two} mark merges before = record {
  rise = push_rise marks mark merges.rise merges.before_one;
  rise_one = second_part _ _ merges.rise_one;
  rise_two = merges.rise_two;
  before_one = push_before marks one mark merges.before_one (next_before mark one merges.rise_one);
  before_two = push_before marks two mark merges.before_one before;
  found = λ q.
      ap (λ old. place_joined len (place_in two q) (or_else (place_in one q) old))
      (get-push marks mark q merges.rise merges.before_one)
      ∙ ap (place_joined len (place_in two q))
      (first_goes (eq_by_cmp nat_cmp q mark.number.0) mark.place (place_in one q) (finite.get (marks_of marks) q)
      (none_later mark one q merges.rise_one))
      ∙ merges.found q;
}

-- one of the second goes, and of the first what has its number
merge_second : {len : ℕ} {first second marks all two : List Mark} (one : List Mark) (mark : Mark) →
    Merges len first second marks all (mark ∷ two) → Rise one → Before (mark ∷ []) one →
    ((q : ℕ) → eq_by_cmp nat_cmp q mark.number.0 ≡ false → place_in all q ≡ place_in one q)
    → Merges len first second (marks ++ moved_mark len mark ∷ []) one two
merge_second {len} {marks = marks} {all = all} {two = two} one mark merges rise before same =
    let new = moved_mark len mark in
    record {
      rise = push_rise marks new merges.rise merges.before_two;
      rise_one = rise;
      rise_two = second_part _ _ merges.rise_two;
      before_one = push_before marks one new merges.before_two (still_before mark new one refl before);
      before_two = push_before marks two new merges.before_two
          (still_before mark new two refl (next_before mark two merges.rise_two));
      found = λ q.
          ap (λ old. place_joined len (place_in two q) (or_else (place_in one q) old))
          (get-push marks new q merges.rise merges.before_two)
          ∙ second_goes (eq_by_cmp nat_cmp q mark.number.0) len mark.place (place_in two q) (place_in one q)
          (place_in all q) (finite.get (marks_of marks) q) (none_later mark two q merges.rise_two)
          (none_higher one mark q rise before) (same q)
          ∙ merges.found q;
    }

none_else : (found : Option Place) → or_else found None ≡ found
none_else None = refl
none_else (Some place) = refl

nothing_before : (marks : List Mark) → Before [] marks
nothing_before [] = tt
nothing_before (mark ∷ marks) = All-nil (Below mark.number.0)

-- so far two texts are merged, of each so many marks
abbrev pub MergesAt : ℕ → List Mark → List Mark → ℕ → ℕ → List Mark → Type 0
MergesAt len first second i j marks = Merges len first second marks (drop i first) (drop j second)

pub merge_start : (len : ℕ) (first second : List Mark) → Rise first → Rise second → MergesAt len first second 0 0 []
merge_start len first second rise_one rise_two = record {
  rise = tt;
  rise_one = rise_one;
  rise_two = rise_two;
  before_one = nothing_before first;
  before_two = nothing_before second;
  found = λ q. ap (place_joined len (place_in second q)) (ap (or_else (place_in first q)) (get-marks_of [] q tt)
      ∙ none_else (place_in first q));
}

-- what is left of the first goes behind them
merge_rest : {len : ℕ} {first second : List Mark} (marks one : List Mark) → Merges len first second marks one [] →
    Merges len first second (marks ++ one) [] []
merge_rest {len} {first} {second} marks [] merges =
    subst (λ all. Merges len first second all [] []) (sym (append-nil marks)) merges
merge_rest {len} {first} {second} marks (mark ∷ one) merges =
    subst (λ all. Merges len first second all [] []) (append_assoc marks (mark ∷ []) one)
    (merge_rest (marks ++ mark ∷ []) one (merge_first mark merges tt))

pub merge_end : {len : ℕ} {first second marks : List Mark} (i j : ℕ) → length second ≤ j →
    MergesAt len first second i j marks → Merges len first second (marks ++ drop i first) [] []
merge_end {len} {first} {second} {marks} i j all merges =
    merge_rest marks (drop i first)
    (subst (Merges len first second marks (drop i first)) (drop_all j second all) merges)

pub merged : {len : ℕ} {first second marks : List Mark} → Rise first → Rise second →
    Merges len first second marks [] [] → marks_of marks ≡ joined_marks len (marks_of first) (marks_of second)
merged {len} {first} {second} {marks} rise_one rise_two merges =
    same_marks _ _ (λ q.
    merges.found q
    ∙ ap₂ (place_joined len) (sym (get-marks_of second q rise_two)) (sym (get-marks_of first q rise_one))
    ∙ sym (get-joined_marks len (marks_of first) (marks_of second) q))

before_at : (others : List Mark) (j : ℕ) (mark d : Mark) →
    (j < length others → mark.number.0 < (get_or others j d).number.0) → Before (mark ∷ []) (drop j others)
before_at [] zero mark d less = tt
before_at [] (suc j) mark d less = tt
before_at (other ∷ others) zero mark d less =
    All-cons (Below other.number.0) mark [] (less (omega arith)) (All-nil (Below other.number.0))
before_at (other ∷ others) (suc j) mark d less = before_at others j mark d (λ within. less (omega (arith, within)))

pub merge_first_at : {len : ℕ} {first second marks : List Mark} (i j : ℕ) (d : Mark) → i < length first →
    (j < length second → (get_or first i d).number.0 < (get_or second j d).number.0)
    → MergesAt len first second i j marks → MergesAt len first second (i + 1) j (marks ++ get_or first i d ∷ [])
merge_first_at {len} {first} {second} {marks} i j d within less merges =
    merge_first (get_or first i d)
    (subst (λ one. Merges len first second marks one (drop j second)) (drop_more first i d within) merges)
    (before_at second j (get_or first i d) d less)

pub merge_second_at : {len : ℕ} {first second marks : List Mark} (i j : ℕ) (d : Mark) → j < length second →
    (i < length first → (get_or second j d).number.0 < (get_or first i d).number.0)
    → MergesAt len first second i j marks →
    MergesAt len first second i (j + 1) (marks ++ moved_mark len (get_or second j d) ∷ [])
merge_second_at {len} {first} {second} {marks} i j d within less merges =
    merge_second (drop i first) (get_or second j d)
    (subst (Merges len first second marks (drop i first)) (drop_more second j d within) merges) merges.rise_one
    (before_at first i (get_or second j d) d less) (λ q other. refl)

pub merge_both_at : {len : ℕ} {first second marks : List Mark} (i j : ℕ) (d : Mark) → i < length first →
    j < length second → (get_or first i d).number.0 ≡ (get_or second j d).number.0
    → MergesAt len first second i j marks →
    MergesAt len first second (i + 1) (j + 1) (marks ++ moved_mark len (get_or second j d) ∷ [])
merge_both_at {len} {first} {second} {marks} i j d within there same merges =
    let gone = get_or first i d in
    let mark = get_or second j d in
    let one = drop (i + 1) first in
    let both = subst₂ (Merges len first second marks) (drop_more first i d within) (drop_more second j d there) merges
    in
    merge_second one mark both (second_part _ _ both.rise_one)
    (still_before gone mark one same (next_before gone one both.rise_one))
    (λ q other. ap (λ b. cond b (Some gone.place) (place_in one q)) (ap (eq_by_cmp nat_cmp q) same ∙ other))
