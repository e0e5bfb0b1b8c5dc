-- What new children of a node leave of the names, and of what is no line.
use Rattle.line_tree.proofs.Common.{◌≡◌, ℕ, suc, inl, inr, List, [], ◌∷◌, refl, sym, ap, ◌∙◌, subst, IfSome, IsSome}
use Rattle.line_tree.proofs.Common.{Option, None, Some, option_map, LineContent, NodePtr, Record, Records, update}
use Rattle.line_tree.proofs.Common.{with_child, with_parent, with_sum, rooms_for, at_some, some_of, same_or_other}
use Rattle.line_tree.proofs.Common.{get-update, get-update-other, named-update, update-named, CanFill, link_one}
use Rattle.line_tree.proofs.Common.{refilled, relinked, sums, HasRow}
use Rattle.std.specs.FinMap as finite

-- ---- each name stays
pub named-link_one : (m : Records) (p : NodePtr) (i : ℕ) (o : Option NodePtr) (q : NodePtr) → IsSome (finite.get m q) →
    IsSome (finite.get (link_one m p i o) q)
named-link_one m p i None q s = named-update m p (λ r. with_child r i None) q s
named-link_one m p i (Some c) q s = named-update (update m p (λ r. with_child r i (Some c))) c (λ r.
    with_parent r (Some p) i) q (named-update m p (λ r. with_child r i (Some c)) q s)

pub named-relinked : (m : Records) (p : NodePtr) (i : ℕ) (os : List (Option NodePtr)) (q : NodePtr) →
    IsSome (finite.get m q) → IsSome (finite.get (relinked m p i os) q)
named-relinked m p i [] q s = s
named-relinked m p i (o ∷ os) q s = named-relinked (link_one m p i o) p (suc i) os q (named-link_one m p i o q s)

pub named-refilled : (m : Records) (p : NodePtr) (os : List (Option NodePtr)) (q : NodePtr) → IsSome (finite.get m q) →
    IsSome (finite.get (refilled m p os) q)
named-refilled m p os q s = let n = relinked m p 0 os in
    named-update n p (λ r. with_sum r (sums n os)) q (named-relinked m p 0 os q s)

-- ---- no new name
pub link_one-named : (m : Records) (p : NodePtr) (i : ℕ) (o : Option NodePtr) (q : NodePtr) →
    IsSome (finite.get (link_one m p i o) q) → IsSome (finite.get m q)
link_one-named m p i None q s = update-named m p (λ r. with_child r i None) q s
link_one-named m p i (Some c) q s = update-named m p (λ r. with_child r i (Some c)) q
    (update-named (update m p (λ r. with_child r i (Some c))) c (λ r. with_parent r (Some p) i) q s)

pub relinked-named : (m : Records) (p : NodePtr) (i : ℕ) (os : List (Option NodePtr)) (q : NodePtr) →
    IsSome (finite.get (relinked m p i os) q) → IsSome (finite.get m q)
relinked-named m p i [] q s = s
relinked-named m p i (o ∷ os) q s = link_one-named m p i o q (relinked-named (link_one m p i o) p (suc i) os q s)

pub refilled-named : (m : Records) (p : NodePtr) (os : List (Option NodePtr)) (q : NodePtr) →
    IsSome (finite.get (refilled m p os) q) → IsSome (finite.get m q)
refilled-named m p os q s = let n = relinked m p 0 os in
    relinked-named m p 0 os q (update-named n p (λ r. with_sum r (sums n os)) q s)

-- ---- a node that is no line
abbrev pub InnerIn : Records → NodePtr → Type 0
InnerIn m p = IsSome (finite.get m p) × IfSome (finite.get m p) (λ r. r.line ≡ None)

pub inner-found : (m : Records) (p : NodePtr) (r : Record) → finite.get m p ≡ Some r → r.line ≡ None → InnerIn m p
inner-found m p r is none = subst (λ o. IsSome o × IfSome o (λ x. x.line ≡ None)) (sym is) (refl, none)

pub inner-row : (m : Records) (p : NodePtr) → HasRow m p → InnerIn m p
inner-row m p has = inner-found m p has.found has.is has.inner

pub inner-fill : (m : Records) (p : NodePtr) (cs : List NodePtr) → CanFill m p cs → InnerIn m p
inner-fill m p cs can = inner-found m p can.found can.is can.inner

mapped-inner : (o : Option Record) (f : Record → Record) → ((r : Record) → (f r).line ≡ r.line) →
    IfSome o (λ r. r.line ≡ None) → IfSome (option_map f o) (λ r. r.line ≡ None)
mapped-inner None f same none = none
mapped-inner (Some r) f same none = same r ∙ none

pub inner-update : (m : Records) (p : NodePtr) (f : Record → Record) (q : NodePtr) →
    ((r : Record) → (f r).line ≡ r.line) → InnerIn m q → InnerIn (update m p f) q
inner-update m p f q same inner = (
  named-update m p f q inner.0,
  elim (same_or_other q p) [
    | inl e ↦ subst (λ z. IfSome (finite.get (update m p f) z) (λ r. r.line ≡ None)) (sym e)
        (subst (λ o. IfSome o (λ r. r.line ≡ None)) (sym (get-update m p f))
        (mapped-inner (finite.get m p) f same
        (subst (λ z. IfSome (finite.get m z) (λ r. r.line ≡ None)) e inner.1)))
    | inr n ↦ subst (λ o. IfSome o (λ r. r.line ≡ None)) (sym (get-update-other m p f q n)) inner.1
  ],
)

pub inner-link_one : (m : Records) (p : NodePtr) (i : ℕ) (o : Option NodePtr) (q : NodePtr) → InnerIn m q →
    InnerIn (link_one m p i o) q
inner-link_one m p i None q inner = inner-update m p (λ r. with_child r i None) q (λ r. refl) inner
inner-link_one m p i (Some c) q inner = inner-update (update m p (λ r. with_child r i (Some c))) c (λ r.
    with_parent r (Some p) i) q (λ r. refl) (inner-update m p (λ r. with_child r i (Some c)) q (λ r. refl) inner)

pub inner-relinked : (m : Records) (p : NodePtr) (i : ℕ) (os : List (Option NodePtr)) (q : NodePtr) → InnerIn m q →
    InnerIn (relinked m p i os) q
inner-relinked m p i [] q inner = inner
inner-relinked m p i (o ∷ os) q inner =
    inner-relinked (link_one m p i o) p (suc i) os q (inner-link_one m p i o q inner)

pub inner-refilled : (m : Records) (p : NodePtr) (os : List (Option NodePtr)) (q : NodePtr) → InnerIn m q →
    InnerIn (refilled m p os) q
inner-refilled m p os q inner = let n = relinked m p 0 os in
    inner-update n p (λ r. with_sum r (sums n os)) q (λ r. refl) (inner-relinked m p 0 os q inner)

-- it has a room, which it gives back
pub room-given : (m : Records) (p : NodePtr) (o : Option LineContent) → InnerIn m p →
    IfSome (finite.get m p) (λ r. o ≡ r.line) → rooms_for o ≡ 1
room-given m p o inner says = let r = some_of (finite.get m p) inner.0 in
    ap rooms_for (at_some (finite.get m p) (λ x. o ≡ x.line) r.0 says r.1
    ∙ at_some (finite.get m p) (λ x. x.line ≡ None) r.0 inner.1 r.1)
