-- Children that stay in their slots need not be written.
--     kept-row      the first children of a row are as they were
--     kept-front    as many of them as are the same
--     kept-whole    all of them
use Rattle.line_tree.proofs.Common.{◌≡◌, ℕ, zero, suc, ◌+◌, ◌-◌, inl, inr, List, [], ◌∷◌, ◌++◌, ◌<◌, ◌≤◌, append_assoc}
use Rattle.line_tree.proofs.Common.{drop, length, length-take, map, refl, replicate, set, sym, ap, take, ◌∙◌, subst}
use Rattle.line_tree.proofs.Common.{arith, same_map, append-nil, map-append, take-append-drop, none-some, same_Some}
use Rattle.line_tree.proofs.Common.{Record, Records, updated, with_child, with_parent, IsLinked, Links, NodePtr, Stay}
use Rattle.line_tree.proofs.Common.{link_one, relinked, kids, row, get_inserted, get_other, name_antisym, name_total}
use Rattle.line_tree.proofs.Common.{same_or_other, HasRow, Option, None, Some, slice_get}
use Rattle.raw_nodes.specs.Records.{update}
use Rattle.std.specs.FinMap as finite

-- ---- one record
insert-same : (m : Records) (p : NodePtr) (r : Record) → finite.get m p ≡ Some r → finite.insert m p r ≡ m
insert-same m p r is = let n = finite.insert m p r in
    same_map name_total name_antisym n m (λ q. elim (same_or_other q p) [
      | inl e ↦ subst (λ z. finite.get n z ≡ finite.get m z) (sym e) (get_inserted m p r ∙ sym is)
      | inr other ↦ get_other m p r q other
    ])

pub update-same : (m : Records) (p : NodePtr) (f : Record → Record) (r : Record) → finite.get m p ≡ Some r → f r ≡ r →
    update m p f ≡ m
unfolding update
update-same m p f r is same = ap (updated m p f) is ∙ ap (finite.insert m p) same ∙ insert-same m p r is

pub update-as : (m : Records) (p : NodePtr) (f g : Record → Record) (r : Record) → finite.get m p ≡ Some r → f r ≡ g r →
    update m p f ≡ update m p g
unfolding update
update-as m p f g r is same = ap (updated m p f) is ∙ ap (finite.insert m p) same ∙ sym (ap (updated m p g) is)

-- ---- one child
set-same : {X : Type 0} (xs : List X) (i : ℕ) (y : X) → slice_get xs i ≡ Some y → set xs i y ≡ xs
set-same [] i y is = absurd (none-some y is)
set-same (x ∷ xs) zero y is = ap (λ z. z ∷ xs) (sym (same_Some x y is))
set-same (x ∷ xs) (suc i) y is = ap (λ zs. x ∷ zs) (set-same xs i y is)

link-same : (m : Records) (p : NodePtr) (i : ℕ) (c : NodePtr) (r : Record) → finite.get m p ≡ Some r →
    slice_get r.children i ≡ Some (Some c) → IsLinked m p i c → link_one m p i (Some c) ≡ m
link-same m p i c r is at l =
    let same = set-same r.children i (Some c) at in
    let f : Record → Record = λ x. with_child x i (Some c) in let g : Record → Record = λ x. with_parent x (Some p) i in
    let child : f r ≡ r = λ j. record r { children = same j } in
    let up = sym l.parent in let slot = sym l.slot in
    let parent : g l.found ≡ l.found = λ j. record l.found { parent = up j; slot = slot j } in
    ap (λ n. update n c g) (update-same m p f r is child) ∙ update-same m c g l.found l.is parent

-- ---- several
front-same : (m : Records) (p : NodePtr) (r : Record) → finite.get m p ≡ Some r →
    (i : ℕ) (cs : List NodePtr) (os : List (Option NodePtr)) →
    ((j : ℕ) (c : NodePtr) → slice_get cs j ≡ Some c → slice_get r.children (i + j) ≡ Some (Some c)) → Links m p i cs
    → relinked m p i (map (λ c. Some c) cs ++ os) ≡ relinked m p (i + length cs) os
front-same m p r is i [] os at links = let e : i ≡ i + 0 = omega arith in ap (λ k. relinked m p k os) e
front-same m p r is i (c ∷ cs) os at links =
    let zero_is : i + 0 ≡ i = omega arith in let here = ap (slice_get r.children) (sym zero_is) ∙ at 0 c refl in
    let e : suc i + length cs ≡ i + length (c ∷ cs) = omega arith in
    ap (λ n. relinked n p (suc i) (map (λ x. Some x) cs ++ os)) (link-same m p i c r is here links.0)
    ∙ front-same m p r is (suc i) cs os (λ j d there. let f : suc i + j ≡ i + suc j = omega arith in
    ap (slice_get r.children) f ∙ at (suc j) d there) links.1
    ∙ ap (λ k. relinked m p k os) e

row-get : (cs : List NodePtr) (os : List (Option NodePtr)) (j : ℕ) (c : NodePtr) → slice_get cs j ≡ Some c →
    slice_get (map (λ x. Some x) cs ++ os) j ≡ Some (Some c)
row-get [] os j c is = absurd (none-some c is)
row-get (d ∷ cs) os zero c is = ap (λ x. Some (Some x)) (same_Some d c is)
row-get (d ∷ cs) os (suc j) c is = row-get cs os j c is

front-get : (xs ys : List NodePtr) (j : ℕ) (c : NodePtr) → slice_get xs j ≡ Some c → slice_get (xs ++ ys) j ≡ Some c
front-get [] ys j c is = absurd (none-some c is)
front-get (x ∷ xs) ys zero c is = is
front-get (x ∷ xs) ys (suc j) c is = front-get xs ys j c is

links-front : (m : Records) (p : NodePtr) (i : ℕ) (xs ys : List NodePtr) → Links m p i (xs ++ ys) → Links m p i xs
links-front m p i [] ys links = tt
links-front m p i (x ∷ xs) ys links = (links.0, links-front m p (suc i) xs ys links.1)

pub drop-front : (xs : List NodePtr) (os : List (Option NodePtr)) → drop (length xs) (map (λ x. Some x) xs ++ os) ≡ os
drop-front [] os = refl
drop-front (x ∷ xs) os = drop-front xs os

pub kept-row : (m : Records) (p : NodePtr) → HasRow m p → Links m p 0 (kids m p) →
    (front behind rest all : List NodePtr) → kids m p ≡ front ++ behind → all ≡ front ++ rest
    → Stay m p (length front) (row all)
kept-row m p has links front behind rest all was now =
    let empty = replicate {A = Option NodePtr} (12 - length all) None in let os = map (λ c. Some c) rest ++ empty in
    let parts : row all ≡ map (λ c. Some c) front ++ os = ap (λ cs. map (λ c. Some c) cs ++ empty) now
    ∙ ap (λ ds. ds ++ empty) (map-append (λ c. Some c) front rest)
    ∙ append_assoc (map (λ c. Some c) front) (map (λ c. Some c) rest) empty in
    let at : (j : ℕ) (c : NodePtr) → slice_get front j ≡ Some c →
    slice_get has.found.children (0 + j) ≡ Some (Some c) = λ j c is. let e : 0 + j ≡ j = omega arith in
    ap (slice_get has.found.children) e ∙ ap (λ ds. slice_get ds j) has.children
    ∙ row-get (kids m p) (replicate (12 - length (kids m p)) None) j c (ap (λ cs. slice_get cs j) was
    ∙ front-get front behind j c is) in
    let z : 0 + length front ≡ length front = omega arith in
    ap (relinked m p 0) parts ∙ front-same m p has.found has.is 0 front os at
    (links-front m p 0 front behind (subst (Links m p 0) was links)) ∙ ap (λ k. relinked m p k os) z
    ∙ ap (relinked m p (length front)) (sym (ap (drop (length front)) parts ∙ drop-front front os))

-- the first children of a list are those of the node
pub kept-front : (m : Records) (p : NodePtr) → HasRow m p → Links m p 0 (kids m p) → (n : ℕ) (all : List NodePtr) →
    n ≤ length (kids m p) → take n all ≡ take n (kids m p) → Stay m p n (row all)
kept-front m p has links n all within same = let ks = kids m p in
    let long : length (take n ks) ≡ n = omega (arith, length-take n ks) in
    kept-row m p has links (take n ks) (drop n ks) (drop n all) all (sym (take-append-drop n ks))
    (sym (take-append-drop n all) ∙ ap (λ cs. cs ++ drop n all) same)
    ∙ ap (λ k. relinked m p k (drop k (row all))) long

pub take-short : {X : Type 0} (n m : ℕ) (xs : List X) → n ≤ m → take n (take m xs) ≡ take n xs
take-short zero m xs less = refl
take-short (suc n) zero xs less = absurd (omega arith)
take-short (suc n) (suc m) [] less = refl
take-short (suc n) (suc m) (x ∷ xs) less = ap (λ zs. x ∷ zs) (take-short n m xs (omega arith))

-- ---- all of them
pub empty-same : (m : Records) (p : NodePtr) (r : Record) → finite.get m p ≡ Some r → (i n : ℕ) →
    ((j : ℕ) → j < n → slice_get r.children (i + j) ≡ Some None) → relinked m p i (replicate n None) ≡ m
empty-same m p r is i zero at = refl
empty-same m p r is i (suc n) at =
    let e : i + 0 ≡ i = omega arith in
    let same = set-same r.children i None (ap (slice_get r.children) (sym e) ∙ at 0 (omega arith)) in
    ap (λ k. relinked k p (suc i) (replicate n None))
    (update-same m p (λ x. with_child x i None) r is (λ j. record r { children = same j }))
    ∙ empty-same m p r is (suc i) n (λ j less. let f : suc i + j ≡ i + suc j = omega arith in
    ap (slice_get r.children) f ∙ at (suc j) (omega arith))

empty-get : (cs : List NodePtr) (n j : ℕ) → j < n → slice_get (map (λ c. Some c) cs ++ replicate n None) (length cs + j)
    ≡ Some None
empty-get [] zero j less = absurd (omega arith)
empty-get [] (suc n) zero less = refl
empty-get [] (suc n) (suc j) less = let e : 0 + suc j ≡ suc (0 + j) = omega arith in
    ap (slice_get (None ∷ replicate {A = Option NodePtr} n None)) e ∙ empty-get [] n j (omega arith)
empty-get (c ∷ cs) n j less = let e : length (c ∷ cs) + j ≡ suc (length cs + j) = omega arith in
    ap (slice_get (Some c ∷ (map (λ x. Some x) cs ++ replicate {A = Option NodePtr} n None))) e ∙ empty-get cs n j less

pub kept-whole : (m : Records) (p : NodePtr) → HasRow m p → Links m p 0 (kids m p) → relinked m p 0 (row (kids m p)) ≡ m
kept-whole m p has links =
    let ks = kids m p in let none = replicate (12 - length ks) None in
    kept-row m p has links ks [] [] ks (sym (append-nil ks)) (sym (append-nil ks))
    ∙ ap (relinked m p (length ks)) (drop-front ks none)
    ∙ empty-same m p has.found has.is (length ks) (12 - length ks) (λ j less.
    ap (λ os. slice_get os (length ks + j)) has.children ∙ empty-get ks (12 - length ks) j less)
