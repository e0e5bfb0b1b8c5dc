-- A node that was given children is a tree of theirs.
use Rattle.line_tree.proofs.Common.{◌≡◌, ℕ, zero, suc, ◌-◌, inl, inr, List, [], ◌∷◌, ◌++◌, length, map, replicate, refl}
use Rattle.line_tree.proofs.Common.{sym, ap, ◌∙◌, subst, ◌≢◌, IsSome, Option, None, Some, AllByRecursion, filter_map}
use Rattle.line_tree.proofs.Common.{Among, CanFill, Distinct, link_one, refilled, relinked, sum_all, sums, Holds}
use Rattle.line_tree.proofs.Common.{IsNode, IsTree, Links, line_of, sum_at, tree_at, NodePtr, Record, Records, update}
use Rattle.line_tree.proofs.Common.{with_child, with_parent, with_sum, Tree, inner, lines, names, tops, total, kids}
use Rattle.line_tree.proofs.Common.{kids_of, row, plus, some_of, same_or_other, somes, somes-row, get-update-other}
use Rattle.line_tree.proofs.Common.{lines_of, names_of}
use Rattle.line_tree.proofs.AmongLaws.{among-left, among-right}
use Rattle.line_tree.proofs.DistinctLaws.{distinct-right}
use Rattle.line_tree.proofs.FillLaws.{at-update, refilled-other, relinked-other, relinked-row, relinked-sums}
use Rattle.line_tree.proofs.FrameLaws.{SameBody, body-same, body-trans, holds-moved, inner-no-top, links-same}
use Rattle.line_tree.proofs.FrameLaws.{tops-among}
use Rattle.line_tree.proofs.SumLaws.{total-append}
use Rattle.line_tree.proofs.TreeLaws.{sum-held, sum-tree, tops-tree_at}
use Rattle.line_tree.proofs.UpdateLaws.{named-link_one}
use Rattle.std.specs.FinMap as finite

-- ---- links
pub links-relinked : (m : Records) (p : NodePtr) (i : ℕ) (cs : List NodePtr) (k : ℕ) → Distinct cs → (Among p cs → ⊥) →
    ((c : NodePtr) → Among c cs → IsSome (finite.get m c))
    → Links (relinked m p i (map (λ c. Some c) cs ++ replicate {A = Option NodePtr} k None)) p i cs
links-relinked m p i [] k d out named = tt
links-relinked m p i (c ∷ cs) k d out named =
    let r = some_of (finite.get m c) (named c (inl refl)) in
    let os = map (λ x. Some x) cs ++ replicate {A = Option NodePtr} k None in let l = link_one m p i (Some c) in
    let here = relinked-other l p (suc i) os c (λ e. out (inl (sym e))) (λ a. d.0 (subst (Among c) (somes cs k) a))
    ∙ at-update (update m p (λ x. with_child x i (Some c))) c (λ x. with_parent x (Some p) i) r.0
    (get-update-other m p (λ x. with_child x i (Some c)) c (λ e. out (inl (sym e))) ∙ r.1) in (
      record { found = with_parent r.0 (Some p) i; is = here; parent = refl; slot = refl },
      links-relinked l p (suc i) cs k d.1 (λ a. out (inr a)) (λ x a. named-link_one m p i (Some c) x (named x (inr a))),
    )

-- ---- what else a record says
body-link_one : (m : Records) (p : NodePtr) (i : ℕ) (o : Option NodePtr) (q : NodePtr) → q ≢ p →
    SameBody (finite.get m q) (finite.get (link_one m p i o) q)
body-link_one m p i None q n = body-same (finite.get m q) (finite.get (link_one m p i None) q)
    (get-update-other m p (λ r. with_child r i None) q n)
body-link_one m p i (Some c) q n = let l = update m p (λ r. with_child r i (Some c)) in let f : Record →
    Record = λ r. with_parent r (Some p) i in
    elim (same_or_other q c) [
      | inl e ↦ λ r is. record {
        found = f r;
        is = ap (λ z. finite.get (update l c f) z) e
            ∙ at-update l c f r (ap (λ z. finite.get l z) (sym e)
            ∙ get-update-other m p (λ x. with_child x i (Some c)) q n ∙ is);
        children = refl;
        sum = refl;
        line = refl;
      }
      | inr other ↦ body-same (finite.get m q) (finite.get (link_one m p i (Some c)) q) (get-update-other l c f q other
          ∙ get-update-other m p (λ x. with_child x i (Some c)) q n)
    ]

pub body-relinked : (m : Records) (p : NodePtr) (i : ℕ) (os : List (Option NodePtr)) (q : NodePtr) → q ≢ p →
    SameBody (finite.get m q) (finite.get (relinked m p i os) q)
body-relinked m p i [] q n = body-same (finite.get m q) (finite.get m q) refl
body-relinked m p i (o ∷ os) q n =
    body-trans (finite.get m q) (finite.get (link_one m p i o) q) (finite.get (relinked m p i (o ∷ os)) q)
    (body-link_one m p i o q n) (body-relinked (link_one m p i o) p (suc i) os q n)

pub body-refilled : (m : Records) (p : NodePtr) (os : List (Option NodePtr)) (q : NodePtr) → q ≢ p →
    SameBody (finite.get m q) (finite.get (refilled m p os) q)
body-refilled m p os q n = let l = relinked m p 0 os in
    body-trans (finite.get m q) (finite.get l q) (finite.get (refilled m p os) q) (body-relinked m p 0 os q n)
    (body-same (finite.get l q) (finite.get (refilled m p os) q)
    (get-update-other l p (λ r. with_sum r (sums l os)) q n))

-- ---- sums
pub sum-trees : (m : Records) (h : ℕ) (ts : List (Tree h)) → AllByRecursion (Holds m h) ts →
    sum_all m (tops h ts) ≡ total (lines_of h ts)
sum-trees m h [] all = refl
sum-trees m h (t ∷ ts) all =
    (λ i. plus (sum-held m h t all.0 i) (sum-trees m h ts all.1 i)) ∙ sym (total-append (lines h t) (lines_of h ts))

pub sum-kids : (m : Records) (h : ℕ) (p : NodePtr) → IsTree m (suc h) p → sum_at m p ≡ sum_all m (kids m p)
sum-kids m h p is = sum-tree m (suc h) p is ∙ sym (ap (sum_all m) (sym (tops-tree_at m h (kids m p)))
    ∙ sum-trees m h (map (tree_at m h) (kids m p)) is.2)

pub distinct-tops : (h : ℕ) (ts : List (Tree h)) → Distinct (names_of h ts) → Distinct (tops h ts)
distinct-tops h [] d = tt
distinct-tops h (t ∷ ts) d = (
  (λ a. d.0 (among-right t.0 (inner h t) (names_of h ts) (tops-among h ts t.0 a))),
  distinct-tops h ts (distinct-right (names h t) (names_of h ts) d),
)

-- ---- the node
children-held : (m n : Records) (h : ℕ) (p : NodePtr) (cs : List NodePtr) →
    ((q : NodePtr) → q ≢ p → SameBody (finite.get m q) (finite.get n q)) →
    ((q : NodePtr) → q ≢ p → (Among q cs → ⊥) → finite.get n q ≡ finite.get m q)
    → (ts : List (Tree h)) → AllByRecursion (Holds m h) ts →
    AllByRecursion (λ t. (q : NodePtr) → Among q (inner h t) → Among q cs → ⊥) ts → (Among p (names_of h ts) → ⊥) →
    AllByRecursion (Holds n h) ts
children-held m n h p cs body other [] all apart out = tt
children-held m n h p cs body other (t ∷ ts) all apart out = (
  holds-moved m n h t all.0 (body t.0 (λ e. out (inl (sym e)))) (λ q a.
      other q (λ e. out (inr (among-left p (inner h t) (names_of h ts) (subst (λ z. Among z (inner h t)) e a))))
      (apart.0 q a)),
  children-held m n h p cs body other ts all.1 apart.1 (λ a. out (among-right p (names h t) (names_of h ts) a)),
)

pub built : (m : Records) (h : ℕ) (p : NodePtr) (ts : List (Tree h)) → CanFill m p (tops h ts) →
    AllByRecursion (Holds m h) ts → Distinct (p ∷ names_of h ts) →
    Holds (refilled m p (row (tops h ts))) (suc h) (p, ts)
built m h p ts can all d =
    let cs = tops h ts in let l = relinked m p 0 (row cs) in let n = refilled m p (row cs) in
    let at = relinked-row m p cs can.found can.is can.long can.few can.apart in
    let last = record can.found { children = row cs; sum = sums l (row cs) } in
    let node : IsNode n p cs (total (lines_of h ts)) = record {
      found = last;
      is = at-update l p (λ r. with_sum r (sums l (row cs))) (record can.found { children = row cs }) at;
      children = refl;
      few = can.few;
      sum = relinked-sums m p cs ∙ sum-trees m h ts all;
      inner = can.inner;
    } in (
      node,
      links-same l n p 0 cs (links-relinked m p 0 cs (12 - length cs) (distinct-tops h ts d.1) can.apart can.each)
          (λ q a. get-update-other l p (λ r. with_sum r (sums l (row cs))) q (λ e.
          can.apart (subst (λ z. Among z cs) e a))),
      children-held m n h p cs (body-refilled m p (row cs)) (refilled-other m p cs) ts all (inner-no-top h ts d.1) d.0,
    )

-- ---- the tree in the records is the one that they hold
trees-are : (m : Records) (h : ℕ) → ((t : Tree h) → Holds m h t → tree_at m h t.0 ≡ t) → (ts : List (Tree h)) →
    AllByRecursion (Holds m h) ts → map (tree_at m h) (tops h ts) ≡ ts
trees-are m h one [] all = refl
trees-are m h one (t ∷ ts) all = λ i. one t all.0 i ∷ trees-are m h one ts all.1 i

pub kids-held : (m : Records) (h : ℕ) (t : Tree (suc h)) → Holds m (suc h) t → kids m t.0 ≡ tops h t.1
kids-held m h t holds = ap kids_of holds.0.is ∙ ap (filter_map (λ c. c)) holds.0.children ∙ somes-row (tops h t.1)

pub tree-is : (m : Records) (h : ℕ) (t : Tree h) → Holds m h t → tree_at m h t.0 ≡ t
tree-is m zero t holds = let e = ap line_of holds.is ∙ holds.line in λ i. (t.0, e i)
tree-is m (suc h) t holds = let e = ap (map (tree_at m h)) (kids-held m h t holds)
    ∙ trees-are m h (tree-is m h) t.1 holds.2 in λ i. (t.0, e i)

pub trees-is : (m : Records) (h : ℕ) (ts : List (Tree h)) → AllByRecursion (Holds m h) ts →
    map (tree_at m h) (tops h ts) ≡ ts
trees-is m h = trees-are m h (tree-is m h)
