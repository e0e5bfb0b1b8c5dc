-- What a history is, as its rows change.
use Rattle.undo_stack.proofs.Common.{◌≡◌, take_all, ℕ, suc, ◌+◌, ◌-◌, ◌<◌, ◌≤◌, Bool, true, false, List, [], ◌∷◌, ◌++◌}
use Rattle.undo_stack.proofs.Common.{length, take, drop, get_or, Option, Some, sym, ap, ap₂, ◌∙◌, ne_eqb, arith}
use Rattle.undo_stack.proofs.Common.{length-append, length-drop, length-take, sum, slice_index_or, unwrap_or}
use Rattle.undo_stack.proofs.Common.{option_to_list, if◌then◌else◌, drop-drop, take-append-drop, drop_of_length-le}
use Rattle.undo_stack.proofs.Common.{Action, EditKind, joined, newest, grouped, history_of, AreGroups}
use Rattle.undo_stack.proofs.GroupLaws.{sum-cons, sum-append, sum-one, length-grouped, grouped-take, grouped-new}
use Rattle.undo_stack.proofs.GroupLaws.{grouped-join}

-- a row by its first number and the others
pub begins-with : (lengths : List ℕ) (n : ℕ) (rest : List ℕ) → 0 < length lengths → n ≡ get_or lengths 0 0 →
    rest ≡ drop 1 lengths → n ∷ rest ≡ lengths
begins-with [] n rest some first others = absurd (omega arith)
begins-with (m ∷ lengths) n rest some first others = ap₂ (λ k ns. k ∷ ns) first others

-- the first length is part of the sum
first-part : (n : ℕ) (rest lengths : List ℕ) (g k d : ℕ) → n ∷ rest ≡ lengths → g ≡ suc k → sum (take g lengths) ≡ d →
    d ≡ n + sum (take k rest)
first-part n rest lengths g k d is one part =
    sym part ∙ ap₂ (λ j ns. sum (take j ns)) one (sym is) ∙ sum-cons n (take k rest)

pub first-within : (n : ℕ) (rest lengths : List ℕ) (g d : ℕ) → n ∷ rest ≡ lengths → 0 < g → sum (take g lengths) ≡ d →
    d ≡ n + sum (take (g - 1) rest)
first-within n rest lengths g d is some part = first-part n rest lengths g (g - 1) d is (omega arith) part

-- the oldest group goes
pub oldest-goes : (n : ℕ) (rest : List ℕ) (xs : List Action) (g d : ℕ) (lengths : List ℕ) (takes_more : Bool)
    (last : Option EditKind)
    → n ∷ rest ≡ lengths → 0 < g → sum (take g lengths) ≡ d
    → history_of rest (drop n xs) (g - 1) (d - n) takes_more last
    ≡ record (history_of lengths xs g d takes_more last) { groups = drop 1 (grouped (take g lengths) xs) }
oldest-goes n rest xs g d lengths takes_more last is some part =
    let k = g - 1 in
    let one : g ≡ suc (g - 1) = omega arith in
    let whole = first-within n rest lengths g d is some part in
    let groups : grouped (take k rest) (drop n xs) ≡ drop 1 (grouped (take g lengths) xs) =
    sym (ap₂ (λ j (ns : List ℕ). drop 1 (grouped (take j ns) xs)) one (sym is)) in
    let undone : grouped (drop k rest) (drop (d - n) (drop n xs)) ≡ grouped (drop g lengths) (drop d xs) =
    ap (grouped (drop k rest)) (drop-drop (d - n) n xs
    ∙ ap (λ j. drop j xs) (let e : n + (d - n) ≡ d = omega (arith, whole) in e))
    ∙ sym (ap₂ (λ j (ns : List ℕ). grouped (drop j ns) (drop d xs)) one (sym is)) in
    ap₂ (λ (gs us : List (List Action)). record { groups = gs; takes_more = takes_more; last = last; undone = us })
    groups undone

-- and what is left are groups
pub oldest-gone : (n : ℕ) (rest lengths : List ℕ) (count g d left : ℕ) (takes_more : Bool) → n ∷ rest ≡ lengths → 1 < g
    → AreGroups lengths count g d takes_more → left + n ≡ count → AreGroups rest left (g - 1) (d - n) takes_more
oldest-gone n rest lengths count g d left takes_more is some are rests =
    let whole = first-within n rest lengths g d is (omega arith) are.part in
    let long : length lengths ≡ suc (length rest) = ap length (sym is) in
    let all : count ≡ n + sum rest = sym are.whole ∙ ap sum (sym is) ∙ sum-cons n rest in
    record {
      within = let h : g ≤ length lengths = are.within in omega (arith, long);
      whole = omega (arith, all, rests);
      part = omega (arith, whole);
      some = λ _. omega arith;
    }

-- the first number of a row is taken out
pub pops : (lengths rest : List ℕ) (taken : Option ℕ) (n len : ℕ) → 0 < length lengths → len ≡ length lengths →
    n ≡ unwrap_or taken 0
    → ((d : ℕ) → 0 < len → taken ≡ Some (slice_index_or lengths 0 d)) → rest ≡ drop 1 lengths → n ∷ rest ≡ lengths
pops lengths rest taken n len some counted is first others =
    begins-with lengths n rest some (is ∙ ap (λ o. unwrap_or o 0) (first 0 (omega (arith, counted)))) others

pub count-groups : {A : Type 0} (lengths : List ℕ) (xs : List A) (g : ℕ) → g ≤ length lengths →
    length (grouped (take g lengths) xs) ≡ g
count-groups lengths xs g within = length-grouped (take g lengths) xs ∙ length-take g lengths ∙ omega arith

-- one more group goes
pub drop-one_more : {A : Type 0} (i : ℕ) (xs : List A) → drop 1 (drop i xs) ≡ drop (i + 1) xs
drop-one_more i xs = drop-drop 1 i xs

-- where no group is undone, all that is kept is done
pub none-undone : {A : Type 0} (lengths : List ℕ) (ys : List A) (count g d : ℕ) (takes_more : Bool) →
    AreGroups lengths count g d takes_more
    → grouped (drop g lengths) ys ≡ [] → length lengths ≡ g
none-undone lengths ys count g d takes_more are none =
    let left : length (drop g lengths) ≡ 0 = sym (length-grouped (drop g lengths) ys) ∙ ap length none in
    let same : length (drop g lengths) ≡ length lengths - g = length-drop g lengths in
    omega (arith, left, same, are.within)

-- a group more
pub begins-group : (lengths : List ℕ) (xs : List Action) (x : Action) (count g d : ℕ) (takes_more : Bool)
    (last : Option EditKind)
    → AreGroups lengths count g d takes_more → count ≡ length xs → length lengths ≡ g →
    grouped (drop g lengths) (drop d xs) ≡ []
    → history_of (lengths ++ 1 ∷ []) (xs ++ x ∷ []) (g + 1) (d + 1) takes_more last
    ≡ record (history_of lengths xs g d takes_more last) { groups = joined false x (grouped (take g lengths) xs) }
begins-group lengths xs x count g d takes_more last are counted all none =
    let sums : sum lengths ≡ length xs = are.whole ∙ counted in
    let wide : length (lengths ++ 1 ∷ []) ≡ g + 1 = length-append lengths (1 ∷ []) ∙ ap (λ n. n + 1) all in
    let groups : grouped (take (g + 1) (lengths ++ 1 ∷ [])) (xs ++ x ∷ [])
    ≡ joined false x (grouped (take g lengths) xs) =
    ap (λ ns. grouped ns (xs ++ x ∷ [])) (take_all (g + 1) (lengths ++ 1 ∷ []) (omega (arith, wide)))
    ∙ grouped-new lengths xs x sums
    ∙ ap (λ ns. grouped ns xs ++ (x ∷ []) ∷ []) (sym (take_all g lengths (omega (arith, all)))) in
    let undone : grouped (drop (g + 1) (lengths ++ 1 ∷ [])) (drop (d + 1) (xs ++ x ∷ []))
    ≡ grouped (drop g lengths) (drop d xs) =
    ap (λ ns. grouped ns (drop (d + 1) (xs ++ x ∷ []))) (drop_of_length-le (lengths ++ 1 ∷ []) (omega (arith, wide)))
    ∙ sym none in
    ap₂ (λ (gs us : List (List Action)). record { groups = gs; takes_more = takes_more; last = last; undone = us })
    groups undone

-- an action more in the last group
pub joins-group : (front lengths : List ℕ) (n : ℕ) (xs : List Action) (x : Action) (count g d : ℕ) (takes_more : Bool)
    (last : Option EditKind)
    → lengths ≡ front ++ n ∷ [] → AreGroups lengths count g d takes_more → count ≡ length xs → length lengths ≡ g →
    grouped (drop g lengths) (drop d xs) ≡ []
    → history_of (front ++ (n + 1) ∷ []) (xs ++ x ∷ []) g (d + 1) takes_more last
    ≡ record (history_of lengths xs g d takes_more last) { groups = joined true x (grouped (take g lengths) xs) }
joins-group front lengths n xs x count g d takes_more last is are counted all none =
    let sums : sum front + n ≡ length xs = sym (sum-one front n) ∙ ap sum (sym is) ∙ are.whole ∙ counted in
    let wide : length (front ++ (n + 1) ∷ []) ≡ g = length-append front ((n + 1) ∷ [])
    ∙ sym (length-append front (n ∷ [])) ∙ ap length (sym is) ∙ all in
    let groups : grouped (take g (front ++ (n + 1) ∷ [])) (xs ++ x ∷ []) ≡ joined true x (grouped (take g lengths) xs) =
    ap (λ ns. grouped ns (xs ++ x ∷ [])) (take_all g (front ++ (n + 1) ∷ []) (omega (arith, wide)))
    ∙ grouped-join front n xs x sums
    ∙ ap (λ ns. joined true x (grouped ns xs)) (sym is ∙ sym (take_all g lengths (omega (arith, all)))) in
    let undone : grouped (drop g (front ++ (n + 1) ∷ [])) (drop (d + 1) (xs ++ x ∷ []))
    ≡ grouped (drop g lengths) (drop d xs) =
    ap (λ ns. grouped ns (drop (d + 1) (xs ++ x ∷ [])))
    (drop_of_length-le (front ++ (n + 1) ∷ []) (omega (arith, wide))) ∙ sym none in
    ap₂ (λ (gs us : List (List Action)). record { groups = gs; takes_more = takes_more; last = last; undone = us })
    groups undone

-- what stands behind the border doesn't count
pub undone-goes : (lengths : List ℕ) (xs : List Action) (count g d : ℕ) (takes_more : Bool) (last : Option EditKind)
    → AreGroups lengths count g d takes_more → d ≤ length xs
    → history_of (take g lengths) (take d xs) g d takes_more last
    ≡ record (history_of lengths xs g d takes_more last) { undone = [] }
undone-goes lengths xs count g d takes_more last are within =
    let short : length (take g lengths) ≤ g = rw (length-take g lengths) (omega arith) in
    ap₂ (λ (gs us : List (List Action)). record { groups = gs; takes_more = takes_more; last = last; undone = us })
    (ap (λ ns. grouped ns (take d xs)) (take_all g (take g lengths) short)
    ∙ grouped-take (take g lengths) d xs are.part within)
    (ap (λ ns. grouped ns (drop d (take d xs))) (drop_of_length-le (take g lengths) short))

-- and the part of the sum is no more than the whole
pub part-within : (lengths : List ℕ) (count g d : ℕ) (takes_more : Bool) → AreGroups lengths count g d takes_more →
    d ≤ count
part-within lengths count g d takes_more are =
    let parts : sum lengths ≡ sum (take g lengths) + sum (drop g lengths) = ap sum (sym (take-append-drop g lengths))
    ∙ sum-append (take g lengths) (drop g lengths) in
    omega (arith, parts, are.whole, are.part)

pub begun : (lengths : List ℕ) (count g d : ℕ) (takes_more : Bool) → AreGroups lengths count g d takes_more →
    length lengths ≡ g
    → AreGroups (lengths ++ 1 ∷ []) (count + 1) (g + 1) (d + 1) takes_more
begun lengths count g d takes_more are all =
    let wide : length (lengths ++ 1 ∷ []) ≡ g + 1 = length-append lengths (1 ∷ []) ∙ ap (λ n. n + 1) all in
    let sums : sum (lengths ++ 1 ∷ []) ≡ count + 1 = sum-one lengths 1 ∙ ap (λ n. n + 1) are.whole in
    let same : sum lengths ≡ d = ap sum (sym (take_all g lengths (omega (arith, all)))) ∙ are.part in
    record {
      within = omega (arith, wide);
      whole = sums;
      part =
          ap sum (take_all (g + 1) (lengths ++ 1 ∷ []) (omega (arith, wide))) ∙ sums ∙ omega (arith, same, are.whole);
      some = λ _. omega arith;
    }

pub joined-on : (front lengths : List ℕ) (n count g d : ℕ) (takes_more : Bool) → lengths ≡ front ++ n ∷ [] →
    AreGroups lengths count g d takes_more → length lengths ≡ g
    → AreGroups (front ++ (n + 1) ∷ []) (count + 1) g (d + 1) takes_more
joined-on front lengths n count g d takes_more is are all =
    let wide : length (front ++ (n + 1) ∷ []) ≡ g = length-append front ((n + 1) ∷ [])
    ∙ sym (length-append front (n ∷ [])) ∙ ap length (sym is) ∙ all in
    let before : sum front + n ≡ count = sym (sum-one front n) ∙ ap sum (sym is) ∙ are.whole in
    let sums : sum (front ++ (n + 1) ∷ []) ≡ count + 1 = sum-one front (n + 1) ∙ omega (arith, before) in
    let same : sum lengths ≡ d = ap sum (sym (take_all g lengths (omega (arith, all)))) ∙ are.part in
    record {
      within = omega (arith, wide);
      whole = sums;
      part = ap sum (take_all g (front ++ (n + 1) ∷ []) (omega (arith, wide))) ∙ sums ∙ omega (arith, same, are.whole);
      some = are.some;
    }

-- the last number of a row is taken out
pub pops-last : (lengths rest : List ℕ) (taken : Option ℕ) (n len left : ℕ) → 0 < length lengths →
    len ≡ length lengths → n ≡ unwrap_or taken 0
    → lengths ≡ rest ++ option_to_list taken → ((d : ℕ) → 0 < len → taken ≡ Some (slice_index_or lengths (len - 1) d)) →
    lengths ≡ rest ++ n ∷ []
pops-last lengths rest taken n len left some counted is whole last =
    let found = last 0 (omega (arith, counted)) in
    whole ∙ ap (λ o. rest ++ option_to_list o) found
    ∙ ap (λ m. rest ++ m ∷ []) (sym (is ∙ ap (λ o. unwrap_or o 0) found))

-- past a limit
pub newest-past : (most g : ℕ) (groups : List (List Action)) → 0 < most → length groups ≡ g →
    drop (g - most) groups ≡ newest most groups
newest-past most g groups some counted =
    ap (λ k. drop (k - most) groups) (sym counted)
    ∙ sym (ap (λ b. if b then groups else drop (length groups - most) groups)
    (ne_eqb most 0 (λ none. omega (arith, none, some))))
