-- One level of an insertion.
use Rattle.line_tree.proofs.Common.{◌≡◌, ℕ, zero, suc, ◌+◌, ◌≤◌, inl, inr, List, [], ◌∷◌, ◌++◌, length, take, drop, map}
use Rattle.line_tree.proofs.Common.{refl, sym, ap, ◌∙◌, subst, arith, length-take, length-drop, ◌≢◌, IsSome, slice_get}
use Rattle.line_tree.proofs.Common.{Option, None, Some, AllByRecursion, insert, map-append, take-append-drop, none-some}
use Rattle.line_tree.proofs.Common.{same_Some, plus-associative, plus-commutative, Among, CanFill, CanPut, FitsSum}
use Rattle.line_tree.proofs.Common.{Puts, refilled, relinked, sum_all, sums, Count, plus, IsBalanced, Named, Tree}
use Rattle.line_tree.proofs.Common.{lines, tops, total, Links, NodePtr, Record, Records, blank, with_sum, kids, row}
use Rattle.line_tree.proofs.Common.{get_other, some_of, HasRow, Grows, IsWide, KeepsLink, KeepsWide, lines_of, names_of}
use Rattle.line_tree.proofs.Common.{parted, with_line}
use mathlib.Core.Bool.{false≢true}
use Rattle.line_tree.proofs.AmongLaws.{among-right}
use Rattle.line_tree.proofs.BuildLaws.{sum-trees}
use Rattle.line_tree.proofs.FillLaws.{at-update, refilled-other, relinked-row}
use Rattle.line_tree.proofs.FrameLaws.{tops-among}
use Rattle.line_tree.proofs.GrowLaws.{all-left, all-right, unnamed}
use Rattle.line_tree.proofs.PutLaws.{fill-left, fill-room, split_at}
use Rattle.line_tree.proofs.SumLaws.{total-append}
use Rattle.line_tree.proofs.TreeLaws.{named-row}
use Rattle.std.specs.FinMap as finite

-- ---- a list at one of its places
pub split-same : {X : Type 0} (xs : List X) (i : ℕ) (x : X) → slice_get xs i ≡ Some x →
    xs ≡ take i xs ++ (x ∷ drop (suc i) xs)
split-same [] i x is = absurd (none-some x is)
split-same (y ∷ xs) zero x is = ap (λ z. z ∷ xs) (same_Some y x is)
split-same (y ∷ xs) (suc i) x is = ap (λ zs. y ∷ zs) (split-same xs i x is)

pub at-place : {X Y : Type 0} (f : X → Y) (xs : List X) (i : ℕ) (x : X) → slice_get xs i ≡ Some x →
    map f xs ≡ map f (take i xs) ++ (f x ∷ map f (drop (suc i) xs))
at-place f xs i x is = ap (map f) (split-same xs i x is) ∙ map-append f (take i xs) (x ∷ drop (suc i) xs)

pub split-insert : {X : Type 0} (xs : List X) (i j : ℕ) (x y : X) → slice_get xs i ≡ Some x → j ≡ suc i →
    insert xs j y ≡ take i xs ++ (x ∷ y ∷ drop (suc i) xs)
split-insert [] i j x y is e = absurd (none-some x is)
split-insert (z ∷ xs) i zero x y is e = absurd (omega arith)
split-insert (z ∷ xs) zero (suc j) x y is e = let f : j ≡ 0 = omega arith in
    ap (λ k. insert (z ∷ xs) (suc k) y) f ∙ ap (λ w. w ∷ y ∷ xs) (same_Some z x is)
split-insert (z ∷ xs) (suc i) (suc j) x y is e = ap (λ zs. z ∷ zs) (split-insert xs i j x y is (omega arith))

-- ---- links of a top
pub keeps-same : (m n : Records) (p : NodePtr) → IsSome (finite.get m p) → finite.get n p ≡ finite.get m p →
    KeepsLink m n p
keeps-same m n p named e = let r = some_of (finite.get m p) named in
    record { before = r.0; was = r.1; after = r.0; is = e ∙ r.1; parent = refl; slot = refl }

pub keeps-after : (m l n : Records) (p : NodePtr) → finite.get l p ≡ finite.get m p → KeepsLink l n p → KeepsLink m n p
keeps-after m l n p e k =
    record { before = k.before; was = sym e ∙ k.was; after = k.after; is = k.is; parent = k.parent; slot = k.slot }

pub keeps-then : (m l n : Records) (p : NodePtr) → KeepsLink m l p → finite.get n p ≡ finite.get l p → KeepsLink m n p
keeps-then m l n p k e =
    record { before = k.before; was = k.was; after = k.after; is = e ∙ k.is; parent = k.parent; slot = k.slot }

pub keeps-refilled : (m : Records) (p : NodePtr) (cs : List NodePtr) → CanFill m p cs →
    KeepsLink m (refilled m p (row cs)) p
keeps-refilled m p cs can = let l = relinked m p 0 (row cs) in let s = sums l (row cs) in record {
  before = can.found;
  was = can.is;
  after = record can.found { children = row cs; sum = s };
  is = at-update l p (λ r. with_sum r s) (record can.found { children = row cs })
      (relinked-row m p cs can.found can.is can.long can.few can.apart);
  parent = refl;
  slot = refl;
}

pub keeps-put : (m n : Records) (p : NodePtr) (at : ℕ) (y : NodePtr) (o : Option NodePtr) → CanPut m p at y →
    Puts m n p (insert (kids m p) at y) o → KeepsLink m n p
keeps-put m n p at y None can puts = let all = insert (kids m p) at y in
    subst (λ z. KeepsLink m z p) (sym puts.same) (keeps-refilled m p all (fill-room m p at y can puts.few))
keeps-put m n p at y (Some s) can puts =
    let all = insert (kids m p) at y in let made = finite.insert m s (blank None) in
    let left = refilled made p (row (take puts.half all)) in let named = named-row m p can.row in
    let p_s : p ≢ s = λ e. unnamed m p named (ap (finite.get m) e ∙ puts.fresh) in
    subst (λ z. KeepsLink m z p) (sym puts.same)
    (keeps-then m left (refilled left s (row (drop puts.half all))) p
    (keeps-after m made left p (get_other m s (blank None) p p_s)
    (keeps-refilled made p (take puts.half all)
    (fill-left m p at y can s puts.fresh puts.half (omega (arith, puts.high)))))
    (refilled-other left s (drop puts.half all) p p_s (λ a.
    can.apart (subst (Among p) (take-append-drop puts.half all)
    (among-right p (take puts.half all) (drop puts.half all) a)))))

pub keeps-resum : (m : Records) (p : NodePtr) (s : Count) (r : Record) → finite.get m p ≡ Some r → (n : Records) →
    finite.get n p ≡ Some (with_sum r s) → KeepsLink m n p
keeps-resum m p s r was n is =
    record { before = r; was = was; after = with_sum r s; is = is; parent = refl; slot = refl }

-- the links of several
pub links-kept : (m n : Records) (p : NodePtr) (i : ℕ) (cs : List NodePtr) → Links m p i cs →
    ((q : NodePtr) → Among q cs → KeepsLink m n q) → Links n p i cs
links-kept m n p i [] links keeps = tt
links-kept m n p i (c ∷ cs) links keeps =
    let l = links.0 in let k = keeps c (inl refl) in let same = same_Some k.before l.found (sym k.was ∙ l.is) in (
      record {
        found = k.after;
        is = k.is;
        parent = k.parent ∙ ap (λ r. r.parent) same ∙ l.parent;
        slot = k.slot ∙ ap (λ r. r.slot) same ∙ l.slot;
      },
      links-kept m n p (suc i) cs links.1 (λ q a. keeps q (inr a)),
    )

-- ---- widths
pub all-take : {X : Type 0} (P : X → Type 0) (n : ℕ) (xs : List X) → AllByRecursion P xs → AllByRecursion P (take n xs)
all-take P n xs a = all-left P (take n xs) (drop n xs) (subst (AllByRecursion P) (sym (take-append-drop n xs)) a)

pub all-drop : {X : Type 0} (P : X → Type 0) (n : ℕ) (xs : List X) → AllByRecursion P xs → AllByRecursion P (drop n xs)
all-drop P n xs a = all-right P (take n xs) (drop n xs) (subst (AllByRecursion P) (sym (take-append-drop n xs)) a)

pub wide-put : (m n : Records) (h : ℕ) (p : NodePtr) (ts us : List (Tree h)) (all : List NodePtr) (o : Option NodePtr) →
    (puts : Puts m n p all o) → length all ≡ length us → length us ≡ length ts + 1 → AllByRecursion (IsBalanced h) us
    → KeepsWide (suc h) (p, ts) (parted h p us (split_at m n p all o puts) o) o
wide-put m n h p ts us all None puts e f balanced = let few = puts.few in record {
  wide = λ least small w. let low = w.0 in ((omega arith, omega arith, balanced), tt);
  split = λ s. absurd (false≢true s);
}
wide-put m n h p ts us all (Some s) puts e f balanced = let many = puts.many in let low = puts.low in
    let high = puts.high in let a = length-take puts.half us in let b = length-drop puts.half us in
    let left = all-take (IsBalanced h) puts.half us balanced in
    let right = all-drop (IsBalanced h) puts.half us balanced in record {
      wide = λ least small w. ((omega arith, omega arith, left), ((omega arith, omega arith, right), tt));
      split = λ c w. ((omega arith, omega arith, left), ((omega arith, omega arith, right), tt));
    }

pub wide-same : (h : ℕ) (p : NodePtr) (ts us : List (Tree h)) → length us ≡ length ts →
    AllByRecursion (IsBalanced h) us → KeepsWide (suc h) (p, ts) ((p, us) ∷ []) None
wide-same h p ts us e balanced = record {
  wide = λ least small w. let low = w.0 in let high = w.1 in ((omega arith, omega arith, balanced), tt);
  split = λ s. absurd (false≢true s);
}

-- a balanced tree is wide, and stays balanced
pub wide-balanced : (h : ℕ) (t : Tree h) → IsBalanced h t → IsWide 6 h t
wide-balanced zero t b = tt
wide-balanced (suc h) t b = b

pub wide-some : (h : ℕ) (t : Tree h) → IsBalanced h t → IsWide 1 h t
wide-some zero t b = tt
wide-some (suc h) t b = let low = b.0 in (omega arith, b.1, b.2)

pub balanced-wide : (h : ℕ) (t : Tree h) → IsWide 6 h t → IsBalanced h t
balanced-wide zero t b = tt
balanced-wide (suc h) t b = b

pub all-balanced : (h : ℕ) (ts : List (Tree h)) → AllByRecursion (IsWide 6 h) ts → AllByRecursion (IsBalanced h) ts
all-balanced h [] all = tt
all-balanced h (t ∷ ts) all = (balanced-wide h t all.0, all-balanced h ts all.1)

-- ---- sums
pub total-with_line : (ls : List Named) (k : ℕ) (x : Tree 0) →
    total (with_line ls k x) ≡ plus (total ls) (total (lines zero x))
total-with_line ls k x =
    let a = total (take k ls) in let b = total (drop k ls) in let d = total (lines zero x) in
    let new : total (with_line ls k x) ≡ plus a (plus d b) = total-append (take k ls) (lines zero x ++ drop k ls)
    ∙ ap (plus a) (total-append (lines zero x) (drop k ls)) in
    let old : total ls ≡ plus a b = ap total (sym (take-append-drop k ls)) ∙ total-append (take k ls) (drop k ls) in
    new ∙ ap (plus a) (plus-commutative d b) ∙ sym (plus-associative a b d) ∙ ap (λ s. plus s d) (sym old)

-- ---- the new child can be put in
pub can-put : (m l : Records) (h : ℕ) (p : NodePtr) (ts : List (Tree h)) (k : ℕ) (x : Tree 0) (us : List (Tree h))
    (at : ℕ) (y : NodePtr) → Grows m l h ts k x us → IsSome (finite.get m p) → (Among p (names_of h ts) → ⊥) → p ≢ x.0
    → HasRow l p → Links l p 0 (kids l p) → at ≤ length (kids l p) → IsSome (finite.get l y) →
    insert (kids l p) at y ≡ tops h us → FitsSum (plus (total (lines_of h ts)) (total (lines zero x))) →
    CanPut l p at y
can-put m l h p ts k x us at y g named out other_name has links place y_named same fits = record {
  row = has;
  links = links;
  place = place;
  named = y_named;
  apart = λ a. elim (g.within p (tops_in us p (subst (Among p) same a)))
      [ inl b ↦ out b | inr b ↦ elim b [ inl e ↦ other_name e | inr e ↦ unnamed m p named e ] ];
  fits = subst FitsSum (sym (ap (sum_all l) same ∙ sum-trees l h us g.holds ∙ ap total g.line
      ∙ total-with_line (lines_of h ts) k x)) fits;
} where
  tops_in : (us : List (Tree h)) (q : NodePtr) → Among q (tops h us) → Among q (names_of h us)
  tops_in us q a = tops-among h us q a
