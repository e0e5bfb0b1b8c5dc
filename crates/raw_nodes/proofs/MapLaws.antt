-- The map of a store, by name.
use Rattle.raw_nodes.proofs.Common.{◌≡◌, ℕ, ◌<◌, ◌+◌, Bool, true, false, cond, inl, inr, List, [], ◌∷◌, ◌++◌, length}
use Rattle.raw_nodes.proofs.Common.{get_or, set, refl, sym, ap, ◌∙◌, subst, arith, ◌≢◌, IfSome, IsSome, Option, None}
use Rattle.raw_nodes.proofs.Common.{Some, is_some, empty, get, insert, len, remove, get-empty, get-insert, get-remove}
use Rattle.raw_nodes.proofs.Common.{len-insert, len-remove, empty_of_len, same_map, eq_by_cmp, get_or-set_same}
use Rattle.raw_nodes.proofs.Common.{get_or-set_other, AreApart, IsPlace, NotIn, ats, name_cmp, number_in, without}
use Rattle.raw_nodes.proofs.Common.{Record, Records, records_of, NodePtr}
use Prim.Native.Nat.{zero, suc, ◌-◌}
use mathlib.Core.Bool.{false≢true}
use Rattle.raw_nodes.proofs.PlaceLaws.{apart, name_antisym, name_total, same_number, same_or_other, tied}

-- ---- what a change leaves at each name
pub get_inserted : (m : Records) (p : NodePtr) (v : Record) → get (insert m p v) p ≡ Some v
get_inserted m p v = get-insert name_total m p v p ∙ ap (λ y. cond y (Some v) (get m p)) (tied p p refl)

pub get_other : (m : Records) (p : NodePtr) (v : Record) (q : NodePtr) → (q ≡ p → ⊥) → get (insert m p v) q ≡ get m q
get_other m p v q n = get-insert name_total m p v q ∙ ap (λ y. cond y (Some v) (get m q)) (apart q p n)

pub get_removed : (m : Records) (p : NodePtr) → get (remove m p) p ≡ None
get_removed m p = get-remove name_total m p p ∙ ap (λ y. cond y None (get m p)) (tied p p refl)

pub get_unmoved : (m : Records) (p q : NodePtr) → (q ≡ p → ⊥) → get (remove m p) q ≡ get m q
get_unmoved m p q n = get-remove name_total m p q ∙ ap (λ y. cond y None (get m q)) (apart q p n)

pub some_of : {X : Type 0} (o : Option X) → IsSome o → (x : X) × (o ≡ Some x)
some_of None s = absurd (false≢true s)
some_of (Some x) s = (x, refl)

pub at_some : {X : Type 0} (o : Option X) (P : X → Type 0) (x : X) → IfSome o P → o ≡ Some x → P x
at_some o P x h e = subst (λ q. IfSome q P) e h

pub kept_insert : (m : Records) (p : NodePtr) (v : Record) (q : NodePtr) → IsSome (get m q) →
    IsSome (get (insert m p v) q)
kept_insert m p v q s = elim (same_or_other q p) [
  | inl e ↦ subst (λ r. IsSome (get (insert m p v) r)) (sym e) (subst (λ o. IsSome o) (sym (get_inserted m p v)) refl)
  | inr n ↦ subst (λ o. IsSome o) (sym (get_other m p v q n)) s
]

-- ---- what is found among the cells of places
cell_step : (b : Bool) (o : Option Record) (cs : List (Option Record)) (n : ℕ) →
    cond b o (get_or cs n None) ≡ get_or (o ∷ cs) (cond b 0 (suc n)) None
cell_step true o cs n = refl
cell_step false o cs n = refl

pub get_record : (ps : List NodePtr) (cs : List (Option Record)) (q : NodePtr) → length ps ≡ length cs →
    get (records_of ps cs) q ≡ get_or cs (number_in ps q) None
get_record [] [] q e = get-empty name_cmp q
get_record [] (c ∷ cs) q e = absurd (omega arith)
get_record (p ∷ ps) [] q e = absurd (omega arith)
get_record (p ∷ ps) (None ∷ cs) q e =
    get-remove name_total (records_of ps cs) p q
    ∙ ap (λ o. cond (eq_by_cmp name_cmp q p) None o) (get_record ps cs q (omega arith))
    ∙ cell_step (eq_by_cmp name_cmp q p) None cs (number_in ps q)
get_record (p ∷ ps) (Some r ∷ cs) q e =
    get-insert name_total (records_of ps cs) p r q
    ∙ ap (λ o. cond (eq_by_cmp name_cmp q p) (Some r) o) (get_record ps cs q (omega arith))
    ∙ cell_step (eq_by_cmp name_cmp q p) (Some r) cs (number_in ps q)

some_within : (cs : List (Option Record)) (n : ℕ) → IsSome (get_or cs n None) → n < length cs
some_within [] n s = absurd (false≢true s)
some_within (c ∷ cs) zero s = omega arith
some_within (c ∷ cs) (suc n) s = let rest = some_within cs n s in omega arith

-- a name is a place
pub place_of_name : (ps : List NodePtr) (cs : List (Option Record)) (q : NodePtr) → length ps ≡ length cs →
    IsSome (get (records_of ps cs) q) → IsPlace ps q
place_of_name ps cs q e s = let within = some_within cs (number_in ps q)
    (subst (λ o. IsSome o) (get_record ps cs q e) s) in omega (arith, within, e)

set_long : (cs : List (Option Record)) (i : ℕ) (o : Option Record) → length (set cs i o) ≡ length cs
set_long [] i o = refl
set_long (c ∷ cs) zero o = refl
set_long (c ∷ cs) (suc i) o = ap suc (set_long cs i o)

module _ (ps : List NodePtr) (cs : List (Option Record)) (p : NodePtr) (place : IsPlace ps p) (e : length ps
    ≡ length cs) where
  get_this : (o : Option Record) → get (records_of ps (set cs (number_in ps p) o)) p ≡ o
  get_this o =
      get_record ps (set cs (number_in ps p) o) p (e ∙ sym (set_long cs (number_in ps p) o))
      ∙ get_or-set_same cs (number_in ps p) o None (omega (arith, place, e))

  other_number : (q : NodePtr) → (q ≡ p → ⊥) → number_in ps q ≢ number_in ps p
  other_number q n s = n (same_number ps q p (let h = place in omega (arith, h, s)) place s)

  get_that : (o : Option Record) (q : NodePtr) → (q ≡ p → ⊥) →
      get (records_of ps (set cs (number_in ps p) o)) q ≡ get (records_of ps cs) q
  get_that o q n =
      get_record ps (set cs (number_in ps p) o) q (e ∙ sym (set_long cs (number_in ps p) o))
      ∙ get_or-set_other cs (number_in ps p) (number_in ps q) o None (other_number q n)
      ∙ sym (get_record ps cs q e)

  pub records_set : (r : Record) → records_of ps (set cs (number_in ps p) (Some r)) ≡ insert (records_of ps cs) p r
  records_set r =
      let m = records_of ps cs in let t = records_of ps (set cs (number_in ps p) (Some r)) in
      same_map name_total name_antisym t (insert m p r) (λ q. elim (same_or_other q p) [
        | inl s ↦ subst (λ z. get t z ≡ get (insert m p r) z) (sym s) (get_this (Some r) ∙ sym (get_inserted m p r))
        | inr n ↦ get_that (Some r) q n ∙ sym (get_other m p r q n)
      ])

  pub records_unset : records_of ps (set cs (number_in ps p) None) ≡ remove (records_of ps cs) p
  records_unset =
      let m = records_of ps cs in let t = records_of ps (set cs (number_in ps p) None) in
      same_map name_total name_antisym t (remove m p) (λ q. elim (same_or_other q p) [
        | inl s ↦ subst (λ z. get t z ≡ get (remove m p) z) (sym s) (get_this None ∙ sym (get_removed m p))
        | inr n ↦ get_that None q n ∙ sym (get_unmoved m p q n)
      ])

absent_taken : (m : Records) (p : NodePtr) → get m p ≡ None → remove m p ≡ m
absent_taken m p none =
    let t : Records = remove m p in
    same_map name_total name_antisym t m (λ q. elim (same_or_other q p) [
      | inl s ↦ subst (λ z. get t z ≡ get m z) (sym s) (get_removed m p ∙ sym none)
      | inr n ↦ get_unmoved m p q n
    ])

none_taken : (p : NodePtr) → remove (empty {X = Record} {R = name_cmp}) p ≡ empty
none_taken p = absent_taken empty p (get-empty name_cmp p)

-- one more place with no record
pub records_grown : (ps : List NodePtr) (cs : List (Option Record)) (b : NodePtr) → length ps ≡ length cs →
    records_of (ps ++ b ∷ []) (cs ++ None ∷ []) ≡ records_of ps cs
records_grown [] [] b e = none_taken b
records_grown [] (c ∷ cs) b e = absurd (omega arith)
records_grown (p ∷ ps) [] b e = absurd (omega arith)
records_grown (p ∷ ps) (None ∷ cs) b e = ap (λ m. remove m p) (records_grown ps cs b (omega arith))
records_grown (p ∷ ps) (Some r ∷ cs) b e = ap (λ m. insert m p r) (records_grown ps cs b (omega arith))

number_off : (ps : List NodePtr) (p : NodePtr) → NotIn (ats ps) p.at → number_in ps p ≡ length ps
number_off [] p n = refl
number_off (q ∷ ps) p n = ap (λ b. cond b 0 (suc (number_in ps p)))
    (apart p q (λ e. n.0 (ap (λ (r : NodePtr). r.at) (sym e)))) ∙ ap suc (number_off ps p n.1)

none_behind : (cs : List (Option Record)) (n : ℕ) → n ≡ length cs → get_or cs n None ≡ None
none_behind [] n e = refl
none_behind (c ∷ cs) zero e = absurd (omega arith)
none_behind (c ∷ cs) (suc n) e = none_behind cs n (omega arith)

off_records : (ps : List NodePtr) (cs : List (Option Record)) (p : NodePtr) → length ps ≡ length cs →
    NotIn (ats ps) p.at → get (records_of ps cs) p ≡ None
off_records ps cs p e n = get_record ps cs p e ∙ none_behind cs (number_in ps p) (number_off ps p n ∙ e)

-- one place less, which has no record
pub records_fewer : (ps : List NodePtr) (cs : List (Option Record)) (i : ℕ) → length ps ≡ length cs →
    AreApart (ats ps) → i < length ps → get_or cs i None ≡ None
    → records_of (without ps i) (without cs i) ≡ records_of ps cs
records_fewer [] cs i e a h n = absurd (omega arith)
records_fewer (p ∷ ps) [] i e a h n = absurd (omega arith)
records_fewer (p ∷ ps) (None ∷ cs) zero e a h n =
    sym (absent_taken (records_of ps cs) p (off_records ps cs p (omega arith) a.0))
records_fewer (p ∷ ps) (Some r ∷ cs) zero e a h n = absurd (false≢true (sym (ap is_some n)))
records_fewer (p ∷ ps) (None ∷ cs) (suc i) e a h n =
    ap (λ m. remove m p) (records_fewer ps cs i (omega arith) a.1 (omega arith) n)
records_fewer (p ∷ ps) (Some r ∷ cs) (suc i) e a h n =
    ap (λ m. insert m p r) (records_fewer ps cs i (omega arith) a.1 (omega arith) n)

-- ---- how many there are
pub len_made : (m n : Records) (p : NodePtr) (r : Record) (s t : ℕ) → get m p ≡ None → n ≡ insert m p r → t + 1 ≡ s →
    t + len n ≡ s + len m
len_made m n p r s t none is fewer =
    let more : len n ≡ len m + 1 = ap len is ∙ len-insert name_total m p r
    ∙ ap (λ (o : Option Record). cond (is_some o) (len m) (len m + 1)) none in omega (arith, more, fewer)

some_long : (m : Records) (p : NodePtr) → IsSome (get m p) → 0 < len m
some_long m p some = elim (len m) as (λ k. len m ≡ k → 0 < k) [
  | zero ↦ λ e. absurd (false≢true (sym (ap is_some (get-empty name_cmp p))
      ∙ subst (λ n. IsSome (get n p)) (empty_of_len m e) some))
  | suc k ↦ λ e. omega arith
] refl

pub len_given : (m n : Records) (p : NodePtr) (s t : ℕ) → IsSome (get m p) → n ≡ remove m p → t ≡ s + 1 →
    t + len n ≡ s + len m
len_given m n p s t some is more =
    let fewer : len n ≡ len m - 1 = ap len is ∙ len-remove name_total m p ∙ ap (λ b. cond b (len m - 1) (len m)) some in
    let long = some_long m p some in omega (arith, fewer, more, long)

pub none_of : (ps : List NodePtr) (cs : List (Option Record)) → ps ≡ [] → records_of ps cs ≡ empty
none_of ps cs e = ap (λ qs. records_of qs cs) e
