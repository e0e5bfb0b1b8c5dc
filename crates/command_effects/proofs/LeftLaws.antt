-- Tables from which names are taken out, one after the other.
use Rattle.command_effects.proofs.Common.{map, ◌≡◌, ℕ, zero, suc, Bool, true, false, cond, not, ◌&&◌, List, [], ◌∷◌}
use Rattle.command_effects.proofs.Common.{◌++◌, refl, sym, ap, ap₂, ◌∙◌, true≢false, bytes_eq, if◌then◌else◌, both_ways}
use Rattle.command_effects.proofs.Common.{list_any-append, bytes_eq-Decides, without, deleted, Tag, is_named, names_of}
use Rattle.command_effects.proofs.Common.{sel, Mark, is_left, marks_left, stays, tags_left, is_among, is_same, ◌||◌}
use Rattle.command_effects.proofs.Common.{Some, filter, slice_get, AreApart}
use Rattle.std.proofs.lemmas.Bool.{false_from_ne_true, or_right}
use mathlib.Core.Bool.{or-false}
use Rattle.mark_table.specs.SharedMarks.{is_named as mark_is_named, names_of as mark_names_of}

-- ---- lists of distinct elements

same_suc : (i j : ℕ) → suc i ≡ suc j → i ≡ j
same_suc i j e = cc

pub AreApart-tail : {A : Type 0} (x : A) (xs : List A) → AreApart (x ∷ xs) → AreApart xs
AreApart-tail x xs apart = λ i j y is also. same_suc i j (apart (suc i) (suc j) y is also)

pub AreApart-head : {A : Type 0} (x : A) (xs : List A) (at : ℕ) → AreApart (x ∷ xs) → slice_get xs at ≡ Some x → ⊥
AreApart-head x xs at apart is = let none : zero ≡ suc at = apart zero (suc at) x refl is in absurd (cc)

-- ---- one name more

is_among-push : (name other : List ℕ) (names : List (List ℕ)) →
    is_among name (names ++ other ∷ []) ≡ (is_among name names || bytes_eq name other)
is_among-push name other names = list_any-append (is_same name) names (other ∷ [])
    ∙ ap (λ b. is_among name names || b) (or-false (bytes_eq name other))

neither : (a b : Bool) → not (a || b) ≡ (not a && not b)
neither true b = refl
neither false b = refl

-- a name isn't among some and one more
pub not_pushed : (names : List (List ℕ)) (name other : List ℕ) →
    not (is_among other (names ++ name ∷ [])) ≡ (not (is_among other names) && not (bytes_eq name other))
not_pushed names name other =
    ap not (is_among-push other name names) ∙ neither (is_among other names) (bytes_eq other name)
    ∙ ap (λ b. not (is_among other names) && not b)
    (both_ways (bytes_eq other name) (bytes_eq name other) (λ same.
    (bytes_eq-Decides name other).1 (sym ((bytes_eq-Decides other name).0 same)))
    (λ same. (bytes_eq-Decides other name).1 (sym ((bytes_eq-Decides name other).0 same))))

-- `sel` stays in any case, and another name where it isn't the one more
stays-push : (names : List (List ℕ)) (name other : List ℕ) → stays (names ++ name ∷ []) other
    ≡ (if bytes_eq name sel then stays names other else (stays names other && not (bytes_eq name other)))
stays-push names name other =
    ap (λ b. bytes_eq other sel || b) (not_pushed names name other)
    ∙ by-case (bytes_eq other sel) (not (is_among other names)) (bytes_eq name other) (bytes_eq name sel) (λ same.
    ap (λ n. bytes_eq n sel) (sym ((bytes_eq-Decides name other).0 same)))
  where
    by-case : (other_is left same is_sel : Bool) → (same ≡ true → other_is ≡ is_sel) → (other_is || (left && not same))
        ≡ (if is_sel then other_is || left else ((other_is || left) && not same))
    by-case true left same true alike = refl
    by-case true left true false alike = absurd (true≢false (alike refl))
    by-case true left false false alike = refl
    by-case false left same false alike = refl
    by-case false left true true alike = absurd (true≢false (sym (alike refl)))
    by-case false true false true alike = refl
    by-case false false false true alike = refl

pub filter-alike : {A : Type 0} (p q : A → Bool) → ((x : A) → p x ≡ q x) → (xs : List A) → filter p xs ≡ filter q xs
filter-alike p q same [] = refl
filter-alike p q same (x ∷ xs) = ap₂ (λ b rest. cond b (x ∷ rest) rest) (same x) (filter-alike p q same xs)

filter-filter : {A : Type 0} (p q : A → Bool) (xs : List A) → filter q (filter p xs) ≡ filter (λ x. p x && q x) xs
filter-filter p q [] = refl
filter-filter p q (x ∷ xs) =
    elim (p x) as (λ b. filter q (cond b (x ∷ filter p xs) (filter p xs))
    ≡ cond (b && q x) (x ∷ filter (λ y. p y && q y) xs) (filter (λ y. p y && q y) xs)) [
      | true ↦ ap (λ ys. cond (q x) (x ∷ ys) ys) (filter-filter p q xs)
      | false ↦ filter-filter p q xs
    ]

no_more : {A : Type 0} (name_of : A → List ℕ) (name : List ℕ) (xs : List A) →
    ((at : ℕ) → slice_get (map name_of xs) at ≡ Some name → ⊥)
    → xs ≡ filter (λ x. not (bytes_eq name (name_of x))) xs
no_more name_of name [] none = refl
no_more name_of name (x ∷ xs) none =
    let other : bytes_eq name (name_of x) ≡ false = false_from_ne_true (bytes_eq name (name_of x)) (λ same.
    none 0 (ap Some (sym ((bytes_eq-Decides name (name_of x)).0 same)))) in
    ap₂ (λ b rest. cond b (x ∷ rest) rest) (ap not (sym other)) (no_more name_of name xs (λ at is. none (suc at) is))

-- of elements with distinct names all but the one of a name
without-apart : {A : Type 0} (name_of : A → List ℕ) (name : List ℕ) (xs : List A) → AreApart (map name_of xs) →
    without (λ x. bytes_eq name (name_of x)) xs ≡ filter (λ x. not (bytes_eq name (name_of x))) xs
without-apart name_of name [] apart = refl
without-apart name_of name (x ∷ xs) apart =
    elim (bytes_eq name (name_of x)) as (λ b. bytes_eq name (name_of x) ≡ b →
    (if b then xs else x ∷ without (λ y. bytes_eq name (name_of y)) xs)
    ≡ cond (not b) (x ∷ filter (λ y. not (bytes_eq name (name_of y))) xs)
    (filter (λ y. not (bytes_eq name (name_of y))) xs)) [
      | true ↦ λ same. no_more name_of name xs (λ at is.
          AreApart-head (name_of x) (map name_of xs) at apart (is
          ∙ ap Some ((bytes_eq-Decides name (name_of x)).0 same)))
      | false ↦ λ _. ap (λ ys. x ∷ ys)
          (without-apart name_of name xs (AreApart-tail (name_of x) (map name_of xs) apart))
    ] refl

-- what is left of elements with distinct names, without the one of a name
without-left : {A : Type 0} (name_of : A → List ℕ) (name : List ℕ) (left less : List ℕ → Bool) →
    ((other : List ℕ) → less other ≡ (left other && not (bytes_eq name other)))
    → (xs : List A) → AreApart (map name_of (filter (λ x. left (name_of x)) xs))
    → without (λ x. bytes_eq name (name_of x)) (filter (λ x. left (name_of x)) xs) ≡ filter (λ x. less (name_of x)) xs
without-left name_of name left less same xs apart =
    without-apart name_of name (filter (λ x. left (name_of x)) xs) apart
    ∙ filter-filter (λ x. left (name_of x)) (λ x. not (bytes_eq name (name_of x))) xs
    ∙ filter-alike _ _ (λ x. sym (same (name_of x))) xs

-- a table without some tags, from which one more is deleted
pub tags_left-more : (names : List (List ℕ)) (name : List ℕ) (tags : List Tag) →
    AreApart (names_of (tags_left names tags))
    → deleted name (tags_left names tags) ≡ tags_left (names ++ name ∷ []) tags
tags_left-more names name tags apart =
    elim (bytes_eq name sel) as (λ b. ((other : List ℕ) → stays (names ++ name ∷ []) other
    ≡ (if b then stays names other else (stays names other && not (bytes_eq name other))))
    → (if b then tags_left names tags else without (is_named name) (tags_left names tags))
    ≡ tags_left (names ++ name ∷ []) tags) [
      | true ↦ λ same. filter-alike _ _ (λ (tag : Tag). sym (same tag.name)) tags
      | false ↦ λ same.
          without-left (λ (tag : Tag). tag.name) name (stays names) (stays (names ++ name ∷ [])) same tags apart
    ] (stays-push names name)

-- a table without the tags of no names
pub tags_left-none : (tags : List Tag) → tags_left [] tags ≡ tags
tags_left-none [] = refl
tags_left-none (tag ∷ tags) =
    ap₂ (λ b rest. cond b (tag ∷ rest) rest) (or_right (bytes_eq tag.name sel) true refl) (tags_left-none tags)

-- a table without some marks, from which one more is taken out
pub marks_left-more : (names : List (List ℕ)) (name : List ℕ) (marks : List Mark) →
    AreApart (mark_names_of (marks_left names marks))
    → without (mark_is_named name) (marks_left names marks) ≡ marks_left (names ++ name ∷ []) marks
marks_left-more names name marks =
    without-left (λ (mark : Mark). mark.name) name (is_left names) (is_left (names ++ name ∷ [])) (not_pushed names name) marks

pub marks_left-none : (marks : List Mark) → marks_left [] marks ≡ marks
marks_left-none [] = refl
marks_left-none (mark ∷ marks) = ap (λ rest. mark ∷ rest) (marks_left-none marks)
