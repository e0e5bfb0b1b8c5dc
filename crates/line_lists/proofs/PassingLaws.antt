-- Entries of a map of places that pass a test of their places, and ones whose places are mapped.
use Rattle.line_lists.proofs.Common.{◌≡◌, ℕ, Bool, true, false, cond, ◌&&◌, ◌==◌, T, List, [], ◌∷◌, Option, None, Some}
use Rattle.line_lists.proofs.Common.{map, refl, sym, ap, ◌∙◌, arith, unsigned_tied, find, is_sorted, below_all, filter}
use Rattle.line_lists.proofs.Common.{eq_by_cmp, is_lt, nat_cmp, option_map, nat_tests, option_filter, Place}

abbrev pub passing : (Place → Bool) → List (ℕ × Place) → List (ℕ × Place)
passing test entries = filter (λ (entry : ℕ × Place). test entry.1) entries

both_parts : (first rest : Bool) → T first → T rest → T (first && rest)
both_parts true rest one other = other
both_parts false rest one other = one

first_part : (first rest : Bool) → T (first && rest) → T first
first_part true rest both = tt
first_part false rest both = absurd both

second_part : (first rest : Bool) → T (first && rest) → T rest
second_part true rest both = both
second_part false rest both = absurd both

below-passing : (test : Place → Bool) (low : ℕ) (entries : List (ℕ × Place)) → T (below_all nat_cmp low entries) →
    T (below_all nat_cmp low (passing test entries))
below-passing test low [] all = tt
below-passing test low (entry ∷ entries) all =
    let rest = below-passing test low entries (second_part _ _ all) in
    elim (test entry.1) as (λ b.
    T (below_all nat_cmp low (cond b (entry ∷ passing test entries) (passing test entries)))) [
      | true ↦ both_parts _ _ (first_part _ _ all) rest
      | false ↦ rest
    ]

pub sorted-passing : (test : Place → Bool) (entries : List (ℕ × Place)) → T (is_sorted nat_cmp entries) →
    T (is_sorted nat_cmp (passing test entries))
sorted-passing test [] sorted = tt
sorted-passing test (entry ∷ entries) sorted =
    let rest = sorted-passing test entries (second_part _ _ sorted) in
    elim (test entry.1) as (λ b. T (is_sorted nat_cmp (cond b (entry ∷ passing test entries) (passing test entries)))) [
      | true ↦ both_parts _ _ (below-passing test entry.0 entries (first_part _ _ sorted)) rest
      | false ↦ rest
    ]

abbrev pub placed : (Place → Place) → ℕ × Place → ℕ × Place
placed f entry = (entry.0, f entry.1)

below-placed : (f : Place → Place) (low : ℕ) (entries : List (ℕ × Place)) → T (below_all nat_cmp low entries) →
    T (below_all nat_cmp low (map (placed f) entries))
below-placed f low [] all = tt
below-placed f low (entry ∷ entries) all =
    both_parts _ _ (first_part _ _ all) (below-placed f low entries (second_part _ _ all))

pub sorted-placed : (f : Place → Place) (entries : List (ℕ × Place)) → T (is_sorted nat_cmp entries) →
    T (is_sorted nat_cmp (map (placed f) entries))
sorted-placed f [] sorted = tt
sorted-placed f (entry ∷ entries) sorted = both_parts _ _ (below-placed f entry.0 entries (first_part _ _ sorted))
    (sorted-placed f entries (second_part _ _ sorted))

pub find-placed : (f : Place → Place) (entries : List (ℕ × Place)) (q : ℕ) →
    find nat_cmp q (map (placed f) entries) ≡ option_map f (find nat_cmp q entries)
find-placed f [] q = refl
find-placed f (entry ∷ entries) q =
    elim (eq_by_cmp nat_cmp q entry.0) as (λ b. cond b (Some (f entry.1)) (find nat_cmp q (map (placed f) entries))
    ≡ option_map f (cond b (Some entry.1) (find nat_cmp q entries))) [
      | true ↦ refl
      | false ↦ find-placed f entries q
    ]

true_of : (b : Bool) → T b → b ≡ true
true_of true is = refl
true_of false is = absurd is

untied : (q low key : ℕ) → eq_by_cmp nat_cmp q low ≡ true → is_lt (nat_cmp low key) ≡ true →
    eq_by_cmp nat_cmp q key ≡ false
untied q low key tied less =
    let same : (q == low) ≡ true = sym (unsigned_tied q low) ∙ tied in
    unsigned_tied q key ∙ (let other : (q == key) ≡ false = grind (arith, nat_tests) in other)

none-below : (q low : ℕ) (entries : List (ℕ × Place)) → T (below_all nat_cmp low entries) →
    eq_by_cmp nat_cmp q low ≡ true → find nat_cmp q entries ≡ None
none-below q low [] all tied = refl
none-below q low (entry ∷ entries) all tied =
    ap (λ b. cond b (Some entry.1) (find nat_cmp q entries))
    (untied q low entry.0 tied (true_of _ (first_part _ _ all)))
    ∙ none-below q low entries (second_part _ _ all) tied

find_one : (test : Place → Bool) (tied passes : Bool) (place : Place) (rest kept : Option Place) → test place ≡ passes →
    kept ≡ option_filter test rest → (tied ≡ true → rest ≡ None)
    → (list : List (ℕ × Place)) → cond passes (cond tied (Some place) kept) kept
    ≡ option_filter test (cond tied (Some place) rest)
find_one test true true place rest kept is same none list = ap (λ b. cond b (Some place) None) (sym is)
find_one test true false place rest kept is same none list =
    same ∙ ap (option_filter test) (none refl) ∙ ap (λ b. cond b (Some place) None) (sym is)
find_one test false true place rest kept is same none list = same
find_one test false false place rest kept is same none list = same

find_cond : (b : Bool) (entry : ℕ × Place) (entries : List (ℕ × Place)) (q : ℕ)
    → find nat_cmp q (cond b (entry ∷ entries) entries)
    ≡ cond b (cond (eq_by_cmp nat_cmp q entry.0) (Some entry.1) (find nat_cmp q entries)) (find nat_cmp q entries)
find_cond true entry entries q = refl
find_cond false entry entries q = refl

pub find-passing : (test : Place → Bool) (entries : List (ℕ × Place)) (q : ℕ) → T (is_sorted nat_cmp entries) →
    find nat_cmp q (passing test entries) ≡ option_filter test (find nat_cmp q entries)
find-passing test [] q sorted = refl
find-passing test (entry ∷ entries) q sorted =
    find_cond (test entry.1) entry (passing test entries) q
    ∙ find_one test (eq_by_cmp nat_cmp q entry.0) (test entry.1) entry.1 (find nat_cmp q entries)
    (find nat_cmp q (passing test entries)) refl
    (find-passing test entries q (second_part _ _ sorted)) (none-below q entry.0 entries (first_part _ _ sorted)) []
