-- Names in order, and where one stands among others.
use Rattle.raw_nodes.proofs.Common.{◌≡◌, ℕ, ◌<◌, Bool, true, false, cond, ◌⊎◌, inl, inr, List, [], ◌∷◌, ◌++◌, length}
use Rattle.raw_nodes.proofs.Common.{get_or, refl, sym, ap, ◌∙◌, subst, arith, ◌≢◌, IsAntisymmetric}
use Rattle.raw_nodes.proofs.Common.{nat_cmp-IsAntisymmetric, eq_by_cmp, is_eq, get_or-map, length-map, IsPlace, NotIn}
use Rattle.raw_nodes.proofs.Common.{ats, name_cmp, number_in, NodePtr}
use Prim.Native.Nat.{suc}
use base.Stored.{Coded-set}
use mathlib.Core.Bool.{false≢true}
use mathlib.Core.HLevel.{Σ_prop_path}
use Rattle.std.specs.Cmp.{IsTotalOrder, on_total, eq_by_cmp_equiv, nat_cmp_total}
use Rattle.std.specs.declared.cmp.Ordering.{Ordering}
use Rattle.std.specs.declared.cmp.Ordering.TheVariants.{Less, Equal, Greater}
use Rattle.std.proofs.lemmas.Bool.{false_from_ne_true}
use denote.RawPtr.{Ptr, block_ptr, block_of, coded_ptr}

abbrev Start : Ptr → Type 0
Start a = a ≡ block_ptr (block_of a) 0

abbrev name_of : ((a : Ptr) × Start a) → NodePtr
name_of s = record { at = s.0; start = s.1 }

-- names of one pointer are one
pub name_is : (p q : NodePtr) → p.at ≡ q.at → p ≡ q
name_is p q e =
    let u : (a : Ptr) × Start a = (p.at, p.start) in let v : (a : Ptr) × Start a = (q.at, q.start) in
    let same : u ≡ v = Σ_prop_path (λ a. Coded-set coded_ptr a (block_ptr (block_of a) 0)) e in ap name_of same

pub name_total : IsTotalOrder name_cmp
name_total = on_total (λ (p : NodePtr). block_of p.at) nat_cmp_total

pub name_antisym : IsAntisymmetric name_cmp
name_antisym p q e = name_is p q (p.start
    ∙ ap (λ b. block_ptr b 0) (nat_cmp-IsAntisymmetric (block_of p.at) (block_of q.at) e) ∙ sym q.start)

equal_of : (r : Ordering) → is_eq r ≡ true → r ≡ Equal
equal_of Less e = absurd (false≢true e)
equal_of Equal e = refl
equal_of Greater e = absurd (false≢true e)

pub tied : (p q : NodePtr) → p ≡ q → eq_by_cmp name_cmp p q ≡ true
tied p q e = subst (λ r. eq_by_cmp name_cmp p r ≡ true) e ((eq_by_cmp_equiv name_total).refl p)

pub one_of_tied : (p q : NodePtr) → eq_by_cmp name_cmp p q ≡ true → p ≡ q
one_of_tied p q e = name_antisym p q (equal_of (name_cmp p q) e)

pub apart : (p q : NodePtr) → (p ≡ q → ⊥) → eq_by_cmp name_cmp p q ≡ false
apart p q n = false_from_ne_true (eq_by_cmp name_cmp p q) (λ e. n (one_of_tied p q e))

pub same_or_other : (p q : NodePtr) → (p ≡ q) ⊎ (p ≢ q)
same_or_other p q = elim (eq_by_cmp name_cmp p q) as (λ y. eq_by_cmp name_cmp p q ≡ y → (p ≡ q) ⊎ (p ≢ q)) [
  | true ↦ λ e. inl (one_of_tied p q e)
  | false ↦ λ e. inr (λ s. false≢true (sym e ∙ tied p q s))
] refl

-- ---- where a name stands
found : (b : Bool) (p q : NodePtr) (qs : List NodePtr) (d : NodePtr) (n : ℕ) → eq_by_cmp name_cmp p q ≡ b →
    cond b 0 (suc n) < suc (length qs) → (n < length qs → get_or qs n d ≡ p) → get_or (q ∷ qs) (cond b 0 (suc n)) d ≡ p
found true p q qs d n e h rest = sym (one_of_tied p q e)
found false p q qs d n e h rest = rest (omega arith)

pub at_number : (ps : List NodePtr) (p d : NodePtr) → IsPlace ps p → get_or ps (number_in ps p) d ≡ p
at_number [] p d h = absurd (omega arith)
at_number (q ∷ ps) p d h = found (eq_by_cmp name_cmp p q) p q ps d (number_in ps p) refl h (at_number ps p d)

pub ptr_at_number : (ps : List NodePtr) (p : NodePtr) (d : Ptr) → IsPlace ps p →
    get_or (ats ps) (number_in ps p) d ≡ p.at
ptr_at_number ps p d h =
    get_or-map (λ (q : NodePtr). q.at) ps (number_in ps p) p d h ∙ ap (λ (q : NodePtr). q.at) (at_number ps p p h)

pub same_number : (ps : List NodePtr) (p q : NodePtr) → IsPlace ps p → IsPlace ps q → number_in ps p ≡ number_in ps q →
    p ≡ q
same_number ps p q c d e = sym (at_number ps p p c) ∙ ap (λ i. get_or ps i p) e ∙ at_number ps q p d

pub within_ats : (ps : List NodePtr) (p : NodePtr) → IsPlace ps p → number_in ps p < length (ats ps)
within_ats ps p h = let long = length-map ps (λ (q : NodePtr). q.at) in omega (arith, h)

stays : (b : Bool) (ps : List NodePtr) (n m : ℕ) → (n < length ps → m ≡ n) → cond b 0 (suc n) < suc (length ps) →
    cond b 0 (suc m) ≡ cond b 0 (suc n)
stays true ps n m e h = refl
stays false ps n m e h = ap suc (e (omega arith))

-- the number of a place stays where there is one more
pub number_stays : (ps : List NodePtr) (b p : NodePtr) → IsPlace ps p → number_in (ps ++ b ∷ []) p ≡ number_in ps p
number_stays [] b p h = absurd (omega arith)
number_stays (q ∷ ps) b p h =
    stays (eq_by_cmp name_cmp p q) ps (number_in ps p) (number_in (ps ++ b ∷ []) p) (number_stays ps b p) h

-- a new place is the last
pub number_new : (ps : List NodePtr) (p : NodePtr) → NotIn (ats ps) p.at → number_in (ps ++ p ∷ []) p ≡ length ps
number_new [] p n = ap (λ b. cond b 0 1) (tied p p refl)
number_new (q ∷ ps) p n = ap (λ b. cond b 0 (suc (number_in (ps ++ p ∷ []) p)))
    (apart p q (λ e. n.0 (ap (λ (r : NodePtr). r.at) (sym e)))) ∙ ap suc (number_new ps p n.1)
