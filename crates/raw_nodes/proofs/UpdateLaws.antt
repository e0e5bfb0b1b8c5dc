-- What a change of records leaves at each name.
--     get-update, get-update-other     what is found after one record changed
--     named-update, update-named       the names stay, and no other one comes
--     insert-named, remove-named       which names there are after one came or went
--     len-update                       there are as many records as before
--     .. -made, -updated, -given       the same by the equations that calls say
use Rattle.raw_nodes.proofs.Common.{◌≡◌, cond, ◌+◌, ◌⊎◌, inl, inr, refl, sym, ap, ◌∙◌, subst, ◌≢◌, IfSome, IsSome}
use Rattle.raw_nodes.proofs.Common.{Option, None, Some, is_some, option_map, get, insert, len, len-insert, remove}
use Rattle.raw_nodes.proofs.Common.{Record, Records, blank, updated, NodePtr}
use mathlib.Core.Bool.{false≢true}
use Rattle.raw_nodes.specs.Records.{update}
use Rattle.raw_nodes.proofs.MapLaws.{get_inserted, get_other, get_removed, get_unmoved, kept_insert}
use Rattle.raw_nodes.proofs.PlaceLaws.{name_total, same_or_other}

at-updated : (m : Records) (p : NodePtr) (f : Record → Record) (o : Option Record) → get m p ≡ o →
    get (updated m p f o) p ≡ option_map f o
at-updated m p f None is = is
at-updated m p f (Some r) is = get_inserted m p (f r)

pub get-update : (m : Records) (p : NodePtr) (f : Record → Record) → get (update m p f) p ≡ option_map f (get m p)
unfolding update
get-update m p f = at-updated m p f (get m p) refl

off-updated : (m : Records) (p : NodePtr) (f : Record → Record) (o : Option Record) (q : NodePtr) → q ≢ p →
    get (updated m p f o) q ≡ get m q
off-updated m p f None q n = refl
off-updated m p f (Some r) q n = get_other m p (f r) q n

pub get-update-other : (m : Records) (p : NodePtr) (f : Record → Record) (q : NodePtr) → q ≢ p →
    get (update m p f) q ≡ get m q
unfolding update
get-update-other m p f q n = off-updated m p f (get m p) q n

mapped : (o : Option Record) (f : Record → Record) → IsSome o → IsSome (option_map f o)
mapped None f s = s
mapped (Some r) f s = refl

unmapped : (o : Option Record) (f : Record → Record) → IsSome (option_map f o) → IsSome o
unmapped None f s = s
unmapped (Some r) f s = refl

pub named-update : (m : Records) (p : NodePtr) (f : Record → Record) (q : NodePtr) → IsSome (get m q) →
    IsSome (get (update m p f) q)
named-update m p f q s = elim (same_or_other q p) [
  | inl e ↦ subst (λ x. IsSome (get (update m p f) x)) (sym e)
      (subst (λ o. IsSome o) (sym (get-update m p f)) (mapped (get m p) f (subst (λ x. IsSome (get m x)) e s)))
  | inr n ↦ subst (λ o. IsSome o) (sym (get-update-other m p f q n)) s
]

pub update-named : (m : Records) (p : NodePtr) (f : Record → Record) (q : NodePtr) → IsSome (get (update m p f) q) →
    IsSome (get m q)
update-named m p f q s = elim (same_or_other q p) [
  | inl e ↦ subst (λ z. IsSome (get m z)) (sym e)
      (unmapped (get m p) f (subst (λ o. IsSome o) (get-update m p f) (subst (λ z. IsSome (get (update m p f) z)) e s)))
  | inr n ↦ subst (λ o. IsSome o) (get-update-other m p f q n) s
]

pub insert-named : (m : Records) (p : NodePtr) (r : Record) (q : NodePtr) → IsSome (get (insert m p r) q) →
    (q ≡ p) ⊎ IsSome (get m q)
insert-named m p r q s =
    elim (same_or_other q p) [ inl e ↦ inl e | inr n ↦ inr (subst (λ o. IsSome o) (get_other m p r q n) s) ]

pub remove-named : (m : Records) (p q : NodePtr) → IsSome (get (remove m p) q) → (q ≢ p) × IsSome (get m q)
remove-named m p q s = elim (same_or_other q p) [
  | inl e ↦ absurd (false≢true (subst (λ o. IsSome o) (get_removed m p) (subst (λ z. IsSome (get (remove m p) z)) e s)))
  | inr n ↦ (n, subst (λ o. IsSome o) (get_unmoved m p q n) s)
]

long-updated : (m : Records) (p : NodePtr) (f : Record → Record) (o : Option Record) → get m p ≡ o →
    len (updated m p f o) ≡ len m
long-updated m p f None is = refl
long-updated m p f (Some r) is =
    len-insert name_total m p (f r) ∙ ap (λ (o : Option Record). cond (is_some o) (len m) (len m + 1)) is

pub len-update : (m : Records) (p : NodePtr) (f : Record → Record) → len (update m p f) ≡ len m
unfolding update
len-update m p f = long-updated m p f (get m p) refl

-- ---- the same by an equation of maps, as calls say it
pub named-made : (m n : Records) (p : NodePtr) (r : Record) → n ≡ insert m p r → IsSome (get n p)
named-made m n p r is = subst (λ o. IsSome o) (sym (ap (λ (k : Records). get k p) is ∙ get_inserted m p r)) refl

pub still-made : (m n : Records) (p : NodePtr) (r : Record) (q : NodePtr) → n ≡ insert m p r → IsSome (get m q) →
    IsSome (get n q)
still-made m n p r q is s = subst (λ (k : Records). IsSome (get k q)) (sym is) (kept_insert m p r q s)

pub still-updated : (m n : Records) (p : NodePtr) (f : Record → Record) (q : NodePtr) → n ≡ update m p f →
    IsSome (get m q) → IsSome (get n q)
still-updated m n p f q is s = subst (λ (k : Records). IsSome (get k q)) (sym is) (named-update m p f q s)

pub still-given : (m n : Records) (p q : NodePtr) → n ≡ remove m p → q ≢ p → IsSome (get m q) → IsSome (get n q)
still-given m n p q is other s =
    subst (λ (k : Records). IsSome (get k q)) (sym is) (subst (λ o. IsSome o) (sym (get_unmoved m p q other)) s)

-- a new name is none of those that were there
pub fresh-other : (m : Records) (p q : NodePtr) → get m p ≡ None → IsSome (get m q) → q ≢ p
fresh-other m p q none s e = false≢true (sym (ap is_some none) ∙ subst (λ r. IsSome (get m r)) e s)

pub inner-made : (m n : Records) (p : NodePtr) → n ≡ insert m p (blank None) → IfSome (get n p) (λ r. r.line ≡ None)
inner-made m n p is = subst (λ o. IfSome o (λ r. r.line ≡ None))
    (sym (ap (λ (k : Records). get k p) is ∙ get_inserted m p (blank None))) refl
