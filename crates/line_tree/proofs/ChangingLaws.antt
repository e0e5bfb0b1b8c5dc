-- What one line that is changed leaves of trees.
use Rattle.line_tree.proofs.Common.{◌≡◌, ℕ, zero, suc, ◌+◌, ◌<◌, ◌≤◌, inl, inr, List, [], ◌∷◌, ◌++◌, length, take, drop}
use Rattle.line_tree.proofs.Common.{map, refl, sym, ap, ◌∙◌, subst, arith, IsSome, is_some, slice_get, Option, None}
use Rattle.line_tree.proofs.Common.{Some, AllByRecursion, filter_map, length-map, map-append, flat_map-append}
use Rattle.line_tree.proofs.Common.{none-some, same_Some, plus-associative, plus-commutative, plus-no_text, Among}
use Rattle.line_tree.proofs.Common.{Distinct, FitsSum, sums, Count, plus, Holds, Links, line_of, lines_in, sum_at}
use Rattle.line_tree.proofs.Common.{sum_of, tree_at, IsBalanced, IsBalancedRoot, Named, Tree, least_below_root, lines}
use Rattle.line_tree.proofs.Common.{names, tops, total, LineContent, line_count, NodePtr, Record, Records, update}
use Rattle.line_tree.proofs.Common.{with_sum, kids, kids_of, row, same_or_other, get-update, get-update-other}
use Rattle.line_tree.proofs.Common.{len-update, Finds, HasRow, HasNoParent, StandsAlone, lines_of, names_of, CanChange}
use Rattle.line_tree.proofs.Common.{Changes, Linked, SameLinks, changed, linked, Found}
use Rattle.raw_nodes.specs.Records.{with_line}
use Rattle.std.proofs.Common.{option_map}
use Rattle.line_tree.proofs.AmongLaws.{among-left}
use Rattle.line_tree.proofs.BuildLaws.{sum-trees, tree-is}
use Rattle.line_tree.proofs.DistinctLaws.{distinct-apart, distinct-left, distinct-right}
use Rattle.line_tree.proofs.FillLaws.{at-update, sums-row}
use Rattle.line_tree.proofs.FrameLaws.{all-same}
use Rattle.line_tree.proofs.GrowLaws.{all-append, all-left, all-right, in-right, names-append}
use Rattle.line_tree.proofs.StepLaws.{at-place, split-same}
use Rattle.line_tree.proofs.SumLaws.{fits-left, total-append}
use Rattle.line_tree.proofs.TreeLaws.{counted, descends, row-tree, sum-tree, top-tree_at, tops-tree_at}
use Rattle.std.specs.FinMap as finite

-- ---- lists
changed-left : (cs ys : List Named) (r : ℕ) (f : LineContent → LineContent) → r < length cs →
    changed r f (cs ++ ys) ≡ changed r f cs ++ ys
changed-left [] ys r f h = absurd (omega arith)
changed-left (c ∷ cs) ys zero f h = refl
changed-left (c ∷ cs) ys (suc r) f h = ap (λ zs. c ∷ zs) (changed-left cs ys r f (omega arith))

pub changed-middle : (xs cs ys : List Named) (r k : ℕ) (f : LineContent → LineContent) → k ≡ length xs + r →
    r < length cs → changed k f (xs ++ (cs ++ ys)) ≡ xs ++ (changed r f cs ++ ys)
changed-middle [] cs ys r k f e h = let q : k ≡ r = omega arith in
    ap (λ j. changed j f (cs ++ ys)) q ∙ changed-left cs ys r f h
changed-middle (x ∷ xs) cs ys r zero f e h = absurd (omega arith)
changed-middle (x ∷ xs) cs ys r (suc k) f e h = ap (λ zs. x ∷ zs) (changed-middle xs cs ys r k f (omega arith) h)

pub length-changed : (ls : List Named) (k : ℕ) (f : LineContent → LineContent) → k < length ls →
    length (changed k f ls) ≡ length ls
length-changed [] k f h = absurd (omega arith)
length-changed (l ∷ ls) zero f h = refl
length-changed (l ∷ ls) (suc k) f h = ap suc (length-changed ls k f (omega arith))

pub changed-at : (ls : List Named) (k : ℕ) (l : Named) (f : LineContent → LineContent) → slice_get ls k ≡ Some l →
    slice_get (changed k f ls) k ≡ Some (l.0, f l.1)
changed-at [] k l f at = absurd (none-some l at)
changed-at (x ∷ ls) zero l f at = ap (λ (y : Named). Some (y.0, f y.1)) (same_Some x l at)
changed-at (x ∷ ls) (suc k) l f at = changed-at ls k l f at

-- ---- sums
sum-middle : (a b c d g e : Count) → plus b g ≡ plus c e → plus (plus a (plus b d)) g ≡ plus (plus a (plus c d)) e
sum-middle a b c d g e is = aside a b d g ∙ ap (λ s. plus a (plus s d)) is ∙ sym (aside a c d e) where
  aside : (a b d g : Count) → plus (plus a (plus b d)) g ≡ plus a (plus (plus b g) d)
  aside a b d g = plus-associative a (plus b d) g
      ∙ ap (plus a) (plus-associative b d g ∙ ap (plus b) (plus-commutative d g) ∙ sym (plus-associative b g d))

-- ---- links
is_some-linked : (o : Option Record) → is_some (option_map linked o) ≡ is_some o
is_some-linked None = refl
is_some-linked (Some r) = refl

pub named-linked : (m n : Records) → SameLinks m n → (q : NodePtr) → IsSome (finite.get n q) → IsSome (finite.get m q)
named-linked m n same q s =
    sym (is_some-linked (finite.get m q)) ∙ ap is_some (sym (same q)) ∙ is_some-linked (finite.get n q) ∙ s

pub named-as-linked : (m n : Records) → SameLinks m n → (q : NodePtr) → IsSome (finite.get m q) → IsSome (finite.get n q)
named-as-linked m n same q s =
    sym (is_some-linked (finite.get n q)) ∙ ap is_some (same q) ∙ is_some-linked (finite.get m q) ∙ s

abbrev kids_linked : Option Linked → List NodePtr
kids_linked None = []
kids_linked (Some x) = filter_map (λ c. c) x.1.1

kids_of-linked : (o : Option Record) → kids_of o ≡ kids_linked (option_map linked o)
kids_of-linked None = refl
kids_of-linked (Some r) = refl

kids-linked : (m n : Records) → SameLinks m n → (p : NodePtr) → kids n p ≡ kids m p
kids-linked m n same p =
    kids_of-linked (finite.get n p) ∙ ap kids_linked (same p) ∙ sym (kids_of-linked (finite.get m p))

pub record-linked : (o u : Option Record) (r : Record) → option_map linked u ≡ option_map linked o → o ≡ Some r →
    (v : Record) × (u ≡ Some v) × (linked v ≡ linked r)
record-linked o None r e is = absurd (none-some (linked r) (e ∙ ap (option_map linked) is))
record-linked o (Some v) r e is = (v, refl, same_Some (linked v) (linked r) (e ∙ ap (option_map linked) is))

links-linked : (m n : Records) → SameLinks m n → (p : NodePtr) (i : ℕ) (cs : List NodePtr) → Links m p i cs →
    Links n p i cs
links-linked m n same p i [] links = tt
links-linked m n same p i (c ∷ cs) links = let l = links.0 in
    let v = record-linked (finite.get m c) (finite.get n c) l.found (same c) l.is in (
      record { found = v.0; is = v.1; parent = ap (λ x. x.0) v.2 ∙ l.parent; slot = ap (λ x. x.1.0) v.2 ∙ l.slot },
      links-linked m n same p (suc i) cs links.1,
    )

no-parent-linked : (m n : Records) → SameLinks m n → (r : NodePtr) → HasNoParent m r → HasNoParent n r
no-parent-linked m n same r root = let v = record-linked (finite.get m r) (finite.get n r) root.found (same r) root.is
    in
    record { found = v.0; is = v.1; parent = ap (λ x. x.0) v.2 ∙ root.parent }

linked-update : (m : Records) (p : NodePtr) (f : Record → Record) → ((r : Record) → linked (f r) ≡ linked r) →
    SameLinks m (update m p f)
linked-update m p f keeps q = elim (same_or_other q p) [
  | inl e ↦ subst (λ z. option_map linked (finite.get (update m p f) z)
      ≡ option_map linked (finite.get m z)) (sym e) (ap (option_map linked) (get-update m p f) ∙ one (finite.get m p))
  | inr other ↦ ap (option_map linked) (get-update-other m p f q other)
] where
  one : (o : Option Record) → option_map linked (option_map f o) ≡ option_map linked o
  one None = refl
  one (Some r) = ap (λ x. Some x) (keeps r)

-- ---- names and widths
all-names-linked : (m n : Records) (h : ℕ) → ((p : NodePtr) → names h (tree_at n h p) ≡ names h (tree_at m h p)) →
    (cs : List NodePtr) → names_of h (map (tree_at n h) cs) ≡ names_of h (map (tree_at m h) cs)
all-names-linked m n h one [] = refl
all-names-linked m n h one (c ∷ cs) = λ i. one c i ++ all-names-linked m n h one cs i

pub names-linked : (m n : Records) → SameLinks m n → (h : ℕ) (p : NodePtr) →
    names h (tree_at n h p) ≡ names h (tree_at m h p)
names-linked m n same zero p = refl
names-linked m n same (suc h) p =
    ap (λ cs. p ∷ names_of h (map (tree_at n h) cs)) (kids-linked m n same p)
    ∙ ap (λ zs. p ∷ zs) (all-names-linked m n h (names-linked m n same h) (kids m p))

all-linked : (m n : Records) (h : ℕ) (P : Tree h → Type 0) → ((p : NodePtr) → P (tree_at m h p) → P (tree_at n h p)) →
    (cs : List NodePtr) → AllByRecursion P (map (tree_at m h) cs) → AllByRecursion P (map (tree_at n h) cs)
all-linked m n h P one [] all = tt
all-linked m n h P one (c ∷ cs) all = (one c all.0, all-linked m n h P one cs all.1)

abbrev HasWidth : ℕ → (h : ℕ) → List (Tree h) → Type 0
HasWidth least h ts = (least ≤ length ts) × (length ts ≤ 12) × AllByRecursion (IsBalanced h) ts

width-linked : (m n : Records) → SameLinks m n → (h : ℕ) →
    ((p : NodePtr) → IsBalanced h (tree_at m h p) → IsBalanced h (tree_at n h p)) → (least : ℕ) (p : NodePtr) →
    HasWidth least h (map (tree_at m h) (kids m p)) → HasWidth least h (map (tree_at n h) (kids n p))
width-linked m n same h one least p wide =
    let a = length-map (kids m p) (tree_at m h) in let b = length-map (kids m p) (tree_at n h) in let low = wide.0 in
    let high = wide.1 in
    subst (λ cs. HasWidth least h (map (tree_at n h) cs)) (sym (kids-linked m n same p))
    (omega (arith, a, b, low), omega (arith, a, b, high), all-linked m n h (IsBalanced h) one (kids m p) wide.2)

balanced-linked : (m n : Records) → SameLinks m n → (h : ℕ) (p : NodePtr) → IsBalanced h (tree_at m h p) →
    IsBalanced h (tree_at n h p)
balanced-linked m n same zero p balanced = tt
balanced-linked m n same (suc h) p balanced = width-linked m n same h (balanced-linked m n same h) 6 p balanced

root-linked : (m n : Records) → SameLinks m n → (h : ℕ) (p : NodePtr) → IsBalancedRoot h (tree_at m h p) →
    IsBalancedRoot h (tree_at n h p)
root-linked m n same zero p balanced = balanced
root-linked m n same (suc h) p balanced =
    width-linked m n same h (balanced-linked m n same h) (least_below_root h) p balanced

-- ---- at a line
-- the line p becomes f of it
pub record ChangesLine (m n : Records) (p : NodePtr) (f : LineContent → LineContent) (gone more : Count) : Type 0 where
  pub line : LineContent
  pub was : line_of (finite.get m p) ≡ Some line
  pub same : n ≡ update m p (λ r. with_line r (f line))
  pub sum : plus (line_count (f line)) gone ≡ plus (line_count line) more

pub changes-line : (m n : Records) (p : NodePtr) (k : ℕ) (to : LineContent → LineContent) (gone more : Count) →
    CanChange m 0 p k → ChangesLine m n p to gone more → Changes m n 0 p k to gone more
changes-line m n p k to gone more can one =
    let new = to one.line in let f : Record → Record = λ r. with_line r new in let old = can.tree in
    let at : finite.get n p ≡ Some (f old.found) = ap (λ z. finite.get z p) one.same
    ∙ at-update m p f old.found old.is in
    let is : line_of (finite.get n p) ≡ Some new = ap line_of at in
    let now : lines_in n 0 p ≡ (p, new) ∷ [] = ap (λ o. lines zero (p, o)) is in
    let was : lines_in m 0 p ≡ (p, one.line) ∷ [] = ap (λ o. lines zero (p, o)) one.was in
    let place = can.place in let long = ap length was in let first : k ≡ 0 = omega (arith, place, long) in
    record {
      links = subst (SameLinks m) (sym one.same) (linked-update m p f (λ r. refl));
      other = λ q out. ap (λ z. finite.get z q) one.same ∙ get-update-other m p f q (λ e. out (inl e));
      tree = record {
        found = f old.found;
        is = at;
        line = sym is;
        some = subst (λ o. IsSome o) (sym is) refl;
        sum = sym (ap total now ∙ plus-no_text (line_count new));
      };
      lines = now ∙ sym (λ i. changed (first i) to (was i));
      sum = ap (λ s. plus s gone) (ap total now ∙ plus-no_text (line_count new)) ∙ one.sum
          ∙ sym (ap (λ s. plus s more) (ap total was ∙ plus-no_text (line_count one.line)));
      count = ap finite.len one.same ∙ len-update m p f;
    }

-- ---- above it
module _ (m : Records) (h : ℕ) (p : NodePtr) (k : ℕ) (can : CanChange m (suc h) p k) (f : Found) (finds : Finds m p k f)
  where
    abbrev before : List (Tree h)
    before = map (tree_at m h) (take f.slot (kids m p))

    abbrev after : List (Tree h)
    after = map (tree_at m h) (drop (suc f.slot) (kids m p))

    abbrev child : Tree h
    child = tree_at m h f.child

    split : map (tree_at m h) (kids m p) ≡ before ++ (child ∷ after)
    split = at-place (tree_at m h) (kids m p) f.slot f.child finds.child

    whole : AllByRecursion (Holds m h) (before ++ (child ∷ after))
    whole = subst (AllByRecursion (Holds m h)) split can.tree.2

    apart : Distinct (names_of h before ++ names_of h (child ∷ after))
    apart = subst Distinct (ap (names_of h) split ∙ names-append h before (child ∷ after)) can.distinct.1

    pub can-child : CanChange m h f.child f.rest
    can-child = let d = descends m h p k f can.tree finds in record {
      tree = d.tree;
      distinct = distinct-left (names h child) (names_of h after)
          (distinct-right (names_of h before) (names_of h (child ∷ after)) apart);
      place = d.within;
    }

    -- the sum of its lines, in three parts
    was-lines : lines_in m (suc h) p ≡ lines_of h before ++ (lines_in m h f.child ++ lines_of h after)
    was-lines = ap (lines_of h) split ∙ flat_map-append (lines h) before (child ∷ after)

    was-sum : total (lines_in m (suc h) p)
        ≡ plus (total (lines_of h before)) (plus (total (lines_in m h f.child)) (total (lines_of h after)))
    was-sum = let a = lines_of h before in let d = lines_of h after in
        ap total was-lines ∙ total-append a (lines_in m h f.child ++ d)
        ∙ ap (plus (total a)) (total-append (lines_in m h f.child) d)

    pub was-parts : (a : Count) × (d : Count)
        × (total (lines_in m (suc h) p) ≡ plus a (plus (total (lines_in m h f.child)) d))
    was-parts = (total (lines_of h before), total (lines_of h after), was-sum)

    module _ (l : Records) (to : LineContent → LineContent) (gone more : Count)
        (done : Changes m l h f.child f.rest to gone more) where
      abbrev now : List (Tree h)
      now = before ++ (tree_at l h f.child ∷ after)

      names-now : names_of h now ≡ names_of h (map (tree_at m h) (kids m p))
      names-now =
          names-append h before (tree_at l h f.child ∷ after)
          ∙ ap (λ zs. names_of h before ++ (zs ++ names_of h after)) (names-linked m l done.links h f.child)
          ∙ sym (ap (names_of h) split ∙ names-append h before (child ∷ after))

      pub node-same : finite.get l p ≡ finite.get m p
      node-same = done.other p (λ a.
          can.distinct.0 (subst (Among p) (sym (ap (names_of h) split))
          (in-right h before (child ∷ after) p (among-left p (names h child) (names_of h after) a))))

      holds-now : AllByRecursion (Holds l h) now
      holds-now =
          all-append (Holds l h) before (tree_at l h f.child ∷ after)
          (all-same m l h before (all-left (Holds m h) before (child ∷ after) whole)
          (λ q a. done.other q (λ b. distinct-apart (names_of h before) (names_of h (child ∷ after)) apart q a
          (among-left q (names h child) (names_of h after) b)))) (
            done.tree,
            all-same m l h after (all-right (Holds m h) before (child ∷ after) whole).1
                (λ q a. done.other q (λ b. distinct-apart (names h child) (names_of h after)
                (distinct-right (names_of h before) (names_of h (child ∷ after)) apart) q b a)),
          )

      tops-now : tops h now ≡ kids m p
      tops-now =
          map-append (λ (t : Tree h). t.0) before (tree_at l h f.child ∷ after)
          ∙ (λ i. tops-tree_at m h (take f.slot (kids m p)) i
          ++ (top-tree_at l h f.child i ∷ tops-tree_at m h (drop (suc f.slot) (kids m p)) i))
          ∙ sym (split-same (kids m p) f.slot f.child finds.child)

      -- the lines, in three parts
      now-lines : lines_of h now ≡ lines_of h before ++ (lines_in l h f.child ++ lines_of h after)
      now-lines = flat_map-append (lines h) before (tree_at l h f.child ∷ after)

      pub lines-changed : lines_of h now ≡ changed k to (lines_in m (suc h) p)
      lines-changed =
          let e = counted m h (take f.slot (kids m p)) (all-left (Holds m h) before (child ∷ after) whole) in
          let place = finds.place in
          now-lines ∙ ap (λ zs. lines_of h before ++ (zs ++ lines_of h after)) done.lines
          ∙ sym (ap (changed k to) was-lines
          ∙ changed-middle (lines_of h before) (lines_in m h f.child) (lines_of h after) f.rest k to
          (omega (arith, e, place)) can-child.place)

      pub sum-changed : plus (total (lines_of h now)) gone ≡ plus (total (lines_in m (suc h) p)) more
      sum-changed =
          let a = lines_of h before in let d = lines_of h after in
          ap (λ s. plus s gone) (ap total now-lines ∙ total-append a (lines_in l h f.child ++ d)
          ∙ ap (plus (total a)) (total-append (lines_in l h f.child) d))
          ∙ sum-middle (total a) (total (lines_in l h f.child)) (total (lines_in m h f.child)) (total d) gone more
          done.sum
          ∙ sym (ap (λ s. plus s more) was-sum)

      -- its sum is what it was
      pub node-sum : sum_at l p ≡ total (lines_in m (suc h) p)
      node-sum = ap sum_of node-same ∙ sum-tree m (suc h) p can.tree

      -- its children are the ones it had
      pub node-row : HasRow l p
      node-row =
          let kept : kids l p ≡ kids m p = kids-linked m l done.links p in
          let old = row-tree m h p can.tree in
          record {
            found = old.found;
            is = node-same ∙ old.is;
            children = old.children ∙ ap row (sym kept);
            few = subst (λ cs. length cs ≤ 12) (sym kept) old.few;
            inner = old.inner;
            each = λ i c at. named-as-linked m l done.links c
                (old.each i c (ap (λ cs. slice_get cs i) (sym kept) ∙ at));
          }

      pub row-sum : sums l (row (kids l p)) ≡ total (lines_of h now)
      row-sum =
          ap (λ cs. sums l (row cs)) (kids-linked m l done.links p ∙ sym tops-now)
          ∙ sums-row l (tops h now) ∙ sum-trees l h now holds-now

      -- with its new sum
      pub changes-node : (n : Records) (s : Count) → s ≡ total (lines_of h now) →
          n ≡ update l p (λ r. with_sum r s) → Changes m n (suc h) p k to gone more
      changes-node n s sum-now is =
          let g : Record → Record = λ r. with_sum r s in let node = can.tree.0 in
          let links : SameLinks m n = λ q. ap (λ z. option_map linked (finite.get z q)) is
          ∙ linked-update l p g (λ r. refl) q ∙ done.links q in
          let off : (q : NodePtr) → (q ≡ p → ⊥) → finite.get n q
          ≡ finite.get l q = λ q other. ap (λ z. finite.get z q) is ∙ get-update-other l p g q other in
          let not_node : (q : NodePtr) → Among q (names_of h now) → q ≡ p →
          ⊥ = λ q a e. can.distinct.0 (subst (λ zs. Among p zs) names-now
          (subst (λ z. Among z (names_of h now)) e a)) in
          let holds : Holds n (suc h) (p, now) = (
            record {
              found = g node.found;
              is = ap (λ z. finite.get z p) is ∙ at-update l p g node.found (node-same ∙ node.is);
              children = node.children ∙ ap row (tops-tree_at m h (kids m p) ∙ sym tops-now);
              few = subst (λ cs. length cs ≤ 12) (tops-tree_at m h (kids m p) ∙ sym tops-now) node.few;
              sum = sum-now;
              inner = node.inner;
            },
            links-linked m n links p 0 (tops h now)
                (subst (Links m p 0) (tops-tree_at m h (kids m p) ∙ sym tops-now) can.tree.1),
            all-same l n h now holds-now (λ q a. off q (not_node q a)),
          ) in
          let tree = tree-is n (suc h) (p, now) holds in
          record {
            links = links;
            other = λ q out. off q (λ e. out (inl e))
                ∙ done.other q (λ a.
                out (inr (subst (Among q) (sym (ap (names_of h) split))
                (in-right h before (child ∷ after) q (among-left q (names h child) (names_of h after) a)))));
            tree = subst (Holds n (suc h)) (sym tree) holds;
            lines = ap (lines (suc h)) tree ∙ lines-changed;
            sum = ap (λ t. plus (total (lines (suc h) t)) gone) tree ∙ sum-changed;
            count = ap finite.len is ∙ len-update l p g ∙ done.count;
          }

-- ---- the whole tree
pub stands-changed : (m n : Records) (h : ℕ) (r : NodePtr) (k : ℕ) (to : LineContent → LineContent)
    (gone more : Count) → StandsAlone m h r → FitsSum (plus (total (lines_in m h r)) more) →
    Changes m n h r k to gone more → StandsAlone n h r
stands-changed m n h r k to gone more alone fits done = let old = alone.stands in
    let same = names-linked m n done.links h r in record {
      stands = record {
        tree = done.tree;
        balanced = root-linked m n done.links h r old.balanced;
        distinct = subst Distinct (sym same) old.distinct;
        root = no-parent-linked m n done.links r old.root;
        fits = fits-left (total (lines_in n h r)) gone (subst FitsSum (sym done.sum) fits);
      };
      whole = λ q s. subst (Among q) (sym same) (alone.whole q (named-linked m n done.links q s));
    }
