-- An insertion at a node, from the insertion at its child.
use Rattle.line_tree.proofs.Common.{◌≡◌, ℕ, zero, suc, ◌+◌, ◌<◌, ◌≤◌, inl, inr, List, [], ◌∷◌, ◌++◌, length, take, drop}
use Rattle.line_tree.proofs.Common.{map, refl, sym, ap, ◌∙◌, subst, arith, ◌≢◌, IsSome, option_to_list, slice_get}
use Rattle.line_tree.proofs.Common.{Option, None, Some, AllByRecursion, insert, drop-map, length-map, map-append}
use Rattle.line_tree.proofs.Common.{take-map, flat_map-append, length-insert, none-some, same_Some, slice_get_within}
use Rattle.line_tree.proofs.Common.{Among, CanPut, Distinct, FitsSum, Puts, resummed, sum_all, sums, Count, plus, Holds}
use Rattle.line_tree.proofs.Common.{IsTree, Links, lines_in, sum_at, sum_of, tree_at, IsBalanced, Tree, inner, lines}
use Rattle.line_tree.proofs.Common.{names, tops, total, LineContent, NodePtr, Records, with_sum, kids, kids_of, row}
use Rattle.line_tree.proofs.Common.{same_or_other, HasRow, Leads, lines_below, CanInsert, Grows, Inserts, KeepsLink}
use Rattle.line_tree.proofs.Common.{KeepsWide, lines_of, names_of, trees, Found}
use mathlib.Core.Bool.{false≢true}
use Rattle.line_tree.proofs.AmongLaws.{among-get, among-left, among-right}
use Rattle.line_tree.proofs.BuildLaws.{sum-kids, sum-trees}
use Rattle.line_tree.proofs.DistinctLaws.{distinct-left, distinct-right}
use Rattle.line_tree.proofs.FillLaws.{at-update, sum_all-insert, sums-row}
use Rattle.line_tree.proofs.FrameLaws.{inner-no-top, tops-among}
use Rattle.line_tree.proofs.GrowLaws.{all-append, all-left, all-right, grows-line, grows-wide, names-append, of-one}
use Rattle.line_tree.proofs.PutLaws.{split_at}
use Rattle.line_tree.proofs.SplitLaws.{grows-put, grows-resum, parted-is}
use Rattle.line_tree.proofs.StepLaws.{all-balanced, at-place, can-put, keeps-after, keeps-put, keeps-resum, keeps-same}
use Rattle.line_tree.proofs.StepLaws.{links-kept, split-insert, split-same, total-with_line, wide-balanced, wide-put}
use Rattle.line_tree.proofs.StepLaws.{wide-same, wide-some}
use Rattle.line_tree.proofs.SumLaws.{total-append}
use Rattle.line_tree.proofs.TreeLaws.{below-tree, child-tree, count-tree, counted, named-tree, row-tree, sum-held}
use Rattle.line_tree.proofs.TreeLaws.{top-tree_at, tops-tree_at}
use Rattle.std.specs.FinMap as finite

pub length-lines : (m : Records) (ts : List (Tree 0)) → AllByRecursion (Holds m 0) ts →
    length (lines_of 0 ts) ≡ length ts
length-lines m [] all = refl
length-lines m (t ∷ ts) all = one t.1 all.0.some (length-lines m ts all.1) where
  one : (o : Option LineContent) → IsSome o → length (lines_of 0 ts) ≡ length ts →
      length (lines zero (t.0, o) ++ lines_of 0 ts) ≡ suc (length ts)
  one None s e = absurd (false≢true s)
  one (Some l) s e = ap suc e

pub lines-balanced : (ts : List (Tree 0)) → AllByRecursion (IsBalanced 0) ts
lines-balanced [] = tt
lines-balanced (t ∷ ts) = (tt, lines-balanced ts)

pub all-get : {X Y : Type 0} (P : Y → Type 0) (f : X → Y) (xs : List X) (i : ℕ) (x : X) → AllByRecursion P (map f xs) →
    slice_get xs i ≡ Some x → P (f x)
all-get P f [] i x all is = absurd (none-some x is)
all-get P f (y ∷ xs) zero x all is = subst (λ z. P (f z)) (same_Some y x is) all.0
all-get P f (y ∷ xs) (suc i) x all is = all-get P f xs i x all.1 is

pub has-kept : (m l : Records) (p : NodePtr) → HasRow m p → finite.get l p ≡ finite.get m p →
    ((q : NodePtr) → IsSome (finite.get m q) → IsSome (finite.get l q)) → HasRow l p
has-kept m l p has same kept = let e : kids l p ≡ kids m p = ap kids_of same in record {
  found = has.found;
  is = same ∙ has.is;
  children = has.children ∙ ap row (sym e);
  few = subst (λ cs. length cs ≤ 12) (sym e) has.few;
  inner = has.inner;
  each = λ i c at. kept c (has.each i c (ap (λ cs. slice_get cs i) (sym e) ∙ at));
}

part-fits : (a c b s : Count) → FitsSum (plus (plus a (plus c b)) s) → FitsSum (plus c s)
part-fits a c b s fits = let l = fits.lines in let n = fits.characters in let m = fits.marks in
    record { lines = omega (arith, l); characters = omega (arith, n); marks = omega (arith, m) }

module _ (m : Records) (h : ℕ) (p : NodePtr) (k : ℕ) (x : NodePtr) (can : CanInsert m (suc h) p k x) where
  abbrev ts : List (Tree h)
  ts = map (tree_at m h) (kids m p)

  pub named-node : IsSome (finite.get m p)
  named-node = named-tree m (suc h) p can.tree

  pub has-node : HasRow m p
  has-node = row-tree m h p can.tree

  not-line : p ≢ x
  not-line e = can.new (inl (sym e))

  line-fits : FitsSum (plus (total (lines_of h ts)) (total (lines zero (tree_at m 0 x))))
  line-fits = subst (λ s. FitsSum (plus (total (lines_of h ts)) s)) (sum-held m 0 (tree_at m 0 x) can.line) can.fits

pub some-kids : (m : Records) (h : ℕ) (p : NodePtr) (k : ℕ) (x : NodePtr) → CanInsert m (suc h) p k x →
    0 < length (kids m p)
some-kids m h p k x can = let n = length-map (kids m p) (tree_at m h) in let w = can.wide.0 in omega arith

pub within-kids : (m : Records) (h : ℕ) (p : NodePtr) (k : ℕ) (x : NodePtr) → CanInsert m (suc h) p k x →
    k ≤ lines_below m p
within-kids m h p k x can = let n = below-tree m h p can.tree in let w = can.place in omega arith

-- ---- at the lowest level
module _ (m : Records) (p : NodePtr) (k : ℕ) (x : NodePtr) (can : CanInsert m 1 p k x) where
  abbrev leaves : List (Tree 0)
  leaves = map (tree_at m 0) (kids m p)

  abbrev more : List (Tree 0)
  more = insert (map (tree_at m 0) (kids m p)) k (tree_at m 0 x)

  low-grows : Grows m m 0 leaves k (tree_at m 0 x) more
  low-grows = grows-line m leaves k (tree_at m 0 x) can.tree.2 can.line can.distinct.1 (λ a. can.new (inr a))

  low-tops : insert (kids m p) k x ≡ tops 0 more
  low-tops = let e = tops-tree_at m 0 (kids m p) in
      ap (λ cs. insert cs k x) (sym e)
      ∙ (λ i. take-map (λ (t : Tree 0). t.0) k leaves i ++ (x ∷ drop-map (λ (t : Tree 0). t.0) k leaves i))
      ∙ sym (map-append (λ (t : Tree 0). t.0) (take k leaves) (tree_at m 0 x ∷ drop k leaves))

  low-place : k ≤ length leaves
  low-place = let e = length-lines m leaves can.tree.2 in let a = can.place in omega arith

  pub low-can_put : CanPut m p k x
  low-can_put = let n = length-map (kids m p) (tree_at m 0) in let place = low-place in
      can-put m m 0 p leaves k (tree_at m 0 x) more k x low-grows (named-node m 0 p k x can) can.distinct.0
      (not-line m 0 p k x can) (has-node m 0 p k x can)
      (subst (Links m p 0) (tops-tree_at m 0 (kids m p)) can.tree.1) (omega arith) (named-tree m 0 x can.line)
      low-tops (line-fits m 0 p k x can)

  pub low-sum : plus (sum_at m p) (sum_at m x) ≡ sum_all m (insert (kids m p) k x)
  low-sum = ap (λ s. plus s (sum_at m x)) (sum-kids m 0 p can.tree) ∙ sum_all-insert m (kids m p) k x

  pub low-inserts : (n : Records) (o : Option NodePtr) → Puts m n p (insert (kids m p) k x) o → Inserts m n 1 p k x o
  low-inserts n o puts =
      let g = grows-put m m n 0 p leaves k (tree_at m 0 x) more k x o low-grows (named-node m 0 p k x can)
      can.distinct.0 (not-line m 0 p k x can) low-can_put low-tops puts in
      let same = parted-is n 0 p more (split_at m n p (insert (kids m p) k x) o puts) o g.holds in
      let long = length-insert leaves k (tree_at m 0 x) low-place in
      record {
        grows = subst (λ us. Grows m n 1 ((p, leaves) ∷ []) k (tree_at m 0 x) us) (sym same) g;
        wide = subst (λ us. KeepsWide 1 (p, leaves) us o) (sym same)
            (wide-put m n 0 p leaves more (insert (kids m p) k x) o puts (ap length low-tops
            ∙ length-map more (λ (t : Tree 0). t.0)) long (lines-balanced more));
        link = keeps-put m n p k x o low-can_put puts;
      }

-- ---- above it
module _ (m : Records) (h : ℕ) (p : NodePtr) (k : ℕ) (x : NodePtr) (can : CanInsert m (suc h) p k x) (f : Found)
    (leads : Leads m p k f) where
  abbrev before : List (Tree h)
  before = map (tree_at m h) (take f.slot (kids m p))

  abbrev after : List (Tree h)
  after = map (tree_at m h) (drop (suc f.slot) (kids m p))

  split : ts m h p k x can ≡ before ++ (tree_at m h f.child ∷ after)
  split = at-place (tree_at m h) (kids m p) f.slot f.child leads.child

  whole : AllByRecursion (Holds m h) (before ++ (tree_at m h f.child ∷ after))
  whole = subst (AllByRecursion (Holds m h)) split can.tree.2

  apart : Distinct (names_of h (before ++ (tree_at m h f.child ∷ after)))
  apart = subst (λ zs. Distinct (names_of h zs)) split can.distinct.1

  in-child : (q : NodePtr) → Among q (names h (tree_at m h f.child)) → Among q (names_of h (ts m h p k x can))
  in-child q a = subst (λ zs. Among q (names_of h zs)) (sym split)
      (subst (Among q) (sym (names-append h before (tree_at m h f.child ∷ after)))
      (among-right q (names_of h before) (names_of h (tree_at m h f.child ∷ after))
      (among-left q (names h (tree_at m h f.child)) (names_of h after) a)))

  tree-child : IsTree m h f.child
  tree-child = child-tree m h (kids m p) f.slot f.child can.tree.2 leads.child

  balanced-child : IsBalanced h (tree_at m h f.child)
  balanced-child = all-get (IsBalanced h) (tree_at m h) (kids m p) f.slot f.child can.wide.2 leads.child

  rest-within : f.rest ≤ length (lines_in m h f.child)
  rest-within = let n = count-tree m h f.child tree-child in let r = leads.rest in omega arith

  child-fits : FitsSum (plus (total (lines_in m h f.child)) (sum_at m x))
  child-fits =
      let e : total (lines_of h (ts m h p k x can))
      ≡ plus (total (lines_of h before)) (plus (total (lines_in m h f.child)) (total (lines_of h after))) =
      ap (λ zs. total (lines_of h zs)) split ∙ ap total (flat_map-append (lines h) before (tree_at m h f.child ∷ after))
      ∙ total-append (lines_of h before) (lines_of h (tree_at m h f.child ∷ after))
      ∙ ap (plus (total (lines_of h before))) (total-append (lines_in m h f.child) (lines_of h after)) in
      part-fits (total (lines_of h before)) (total (lines_in m h f.child)) (total (lines_of h after)) (sum_at m x)
      (subst (λ s. FitsSum (plus s (sum_at m x))) e can.fits)

  pub can-child : CanInsert m h f.child f.rest x
  can-child = record {
    tree = tree-child;
    wide = wide-some h (tree_at m h f.child) balanced-child;
    distinct = distinct-left (names h (tree_at m h f.child)) (names_of h after)
        (distinct-right (names_of h before) (names_of h (tree_at m h f.child ∷ after))
        (subst Distinct (names-append h before (tree_at m h f.child ∷ after)) apart));
    place = rest-within;
    line = can.line;
    new = λ a. can.new (inr (in-child x a));
    fits = child-fits;
  }

  module _ (l : Records) (o : Option NodePtr) (ins : Inserts m l h f.child f.rest x o) where
    abbrev now : List (Tree h)
    now = before ++ (trees l h f.child o ++ after)

    now-grows : Grows m l h (ts m h p k x can) k (tree_at m 0 x) now
    now-grows =
        let e = counted m h (take f.slot (kids m p)) (all-left (Holds m h) before (tree_at m h f.child ∷ after) whole)
        in let place = leads.place in
        let at : k ≡ length (lines_of h before) + f.rest = omega arith in
        subst (λ zs. Grows m l h zs k (tree_at m 0 x) now) (sym split)
        (grows-wide m l h before (tree_at m h f.child) after f.rest k (tree_at m 0 x) (trees l h f.child o) ins.grows
        whole apart
        (λ a. can.new (inr (subst (λ zs. Among x (names_of h zs)) (sym split) a))) at rest-within)

    pub node-same : finite.get l p ≡ finite.get m p
    node-same = ins.grows.other p (named-node m h p k x can) (λ a.
        can.distinct.0 (in-child p (of-one p (names h (tree_at m h f.child)) a))) (not-line m h p k x can)

    kids-same : kids l p ≡ kids m p
    kids-same = ap kids_of node-same

    pub has-now : HasRow l p
    has-now = has-kept m l p (has-node m h p k x can) node-same ins.grows.kept

    keeps-now : (q : NodePtr) → Among q (kids m p) → KeepsLink m l q
    keeps-now q a =
        let top = subst (Among q) (sym (tops-tree_at m h (kids m p))) a in
        let among = tops-among h (ts m h p k x can) q top in
        let i = among-get q (kids m p) a in let named = (has-node m h p k x can).each i.0 q i.1 in
        elim (same_or_other q f.child) [
          | inl e ↦ subst (λ z. KeepsLink m l z) (sym e) ins.link
          | inr n ↦ keeps-same m l q named (ins.grows.other q named (λ b.
              elim (of-one q (names h (tree_at m h f.child)) b) [
                | inl e ↦ n (e ∙ top-tree_at m h f.child)
                | inr c ↦ all-get (λ t. (z : NodePtr) → Among z (inner h t) → Among z (tops h (ts m h p k x can)) →
                    ⊥) (tree_at m h) (kids m p) f.slot f.child (inner-no-top h (ts m h p k x can) can.distinct.1)
                    leads.child q c top
              ]) (λ e. can.new (inr (subst (λ z. Among z (names_of h (ts m h p k x can))) e among))))
        ]

    links-now : Links l p 0 (kids l p)
    links-now = subst (Links l p 0) (sym kids-same)
        (links-kept m l p 0 (kids m p) (subst (Links m p 0) (tops-tree_at m h (kids m p)) can.tree.1) keeps-now)

    tops-now : tops h now ≡ take f.slot (kids m p) ++ ((f.child ∷ option_to_list o) ++ drop (suc f.slot) (kids m p))
    tops-now =
        map-append (λ (t : Tree h). t.0) before (trees l h f.child o ++ after)
        ∙ ap (λ zs. tops h before ++ zs) (map-append (λ (t : Tree h). t.0) (trees l h f.child o) after)
        ∙ (λ i. tops-tree_at m h (take f.slot (kids m p)) i
        ++ ((top-tree_at l h f.child i ∷ tops-tree_at l h (option_to_list o) i)
        ++ tops-tree_at m h (drop (suc f.slot) (kids m p)) i))

    balanced-now : AllByRecursion (IsBalanced h) (trees l h f.child o) → AllByRecursion (IsBalanced h) now
    balanced-now all =
        let old = subst (AllByRecursion (IsBalanced h)) split can.wide.2 in
        all-append (IsBalanced h) before (trees l h f.child o ++ after)
        (all-left (IsBalanced h) before (tree_at m h f.child ∷ after) old)
        (all-append (IsBalanced h) (trees l h f.child o) after all
        (all-right (IsBalanced h) before (tree_at m h f.child ∷ after) old).1)

  -- the child got a sibling
  module _ (l : Records) (s : NodePtr) (ins : Inserts m l h f.child f.rest x (Some s)) where
    two-tops : insert (kids l p) (f.slot + 1) s ≡ tops h (now l (Some s) ins)
    two-tops = let e : f.slot + 1 ≡ suc f.slot = omega arith in
        ap (λ cs. insert cs (f.slot + 1) s) (kids-same l (Some s) ins)
        ∙ split-insert (kids m p) f.slot (f.slot + 1) f.child s leads.child e ∙ sym (tops-now l (Some s) ins)

    pub two-can_put : CanPut l p (f.slot + 1) s
    two-can_put = let n = ap length (kids-same l (Some s) ins) in
        let w = slice_get_within (kids m p) f.slot f.child leads.child in
        can-put m l h p (ts m h p k x can) k (tree_at m 0 x) (now l (Some s) ins) (f.slot + 1) s
        (now-grows l (Some s) ins) (named-node m h p k x can) can.distinct.0 (not-line m h p k x can)
        (has-now l (Some s) ins) (links-now l (Some s) ins) (omega arith) (named-tree l h s ins.grows.holds.1.0)
        two-tops (line-fits m h p k x can)

    pub two-sum : plus (sum_at l p) (sum_at m x) ≡ sum_all l (insert (kids l p) (f.slot + 1) s)
    two-sum = let us = now l (Some s) ins in let g = now-grows l (Some s) ins in
        let node = ap sum_of (node-same l (Some s) ins) ∙ sum-held m (suc h) (tree_at m (suc h) p) can.tree in
        let line = sum-held m 0 (tree_at m 0 x) can.line in
        (λ i. plus (node i) (line i))
        ∙ sym (ap (sum_all l) two-tops ∙ sum-trees l h us g.holds ∙ ap total g.line
        ∙ total-with_line (lines_of h (ts m h p k x can)) k (tree_at m 0 x))

    pub two-inserts : (n : Records) (o : Option NodePtr) → Puts l n p (insert (kids l p) (f.slot + 1) s) o →
        Inserts m n (suc h) p k x o
    two-inserts n o puts =
        let us = now l (Some s) ins in
        let g = grows-put m l n h p (ts m h p k x can) k (tree_at m 0 x) us (f.slot + 1) s o (now-grows l (Some s) ins)
        (named-node m h p k x can) can.distinct.0 (not-line m h p k x can) two-can_put two-tops puts in
        let same = parted-is n h p us (split_at l n p (insert (kids l p) (f.slot + 1) s) o puts) o g.holds in
        let all = ap length two-tops ∙ length-map us (λ (t : Tree h). t.0) in
        let kids_long = ap length (kids-same l (Some s) ins) in
        let w = slice_get_within (kids m p) f.slot f.child leads.child in
        let ts_long = length-map (kids m p) (tree_at m h) in
        let inserted = length-insert (kids l p) (f.slot + 1) s (omega arith) in
        record {
          grows = subst (λ zs. Grows m n (suc h) ((p, ts m h p k x can) ∷ []) k (tree_at m 0 x) zs) (sym same) g;
          wide = subst (λ zs. KeepsWide (suc h) (p, ts m h p k x can) zs o) (sym same)
              (wide-put l n h p (ts m h p k x can) us (insert (kids l p) (f.slot + 1) s) o puts all (omega arith)
              (balanced-now l (Some s) ins
              (ins.wide.split refl (wide-some h (tree_at m h f.child) balanced-child))));
          link = keeps-after m l n p (node-same l (Some s) ins) (keeps-put l n p (f.slot + 1) s o two-can_put puts);
        }

  -- the child had room
  module _ (l : Records) (ins : Inserts m l h f.child f.rest x None) where
    one-tops : kids l p ≡ tops h (now l None ins)
    one-tops = kids-same l None ins ∙ split-same (kids m p) f.slot f.child leads.child ∙ sym (tops-now l None ins)

    pub one-fits : FitsSum (sums l (row (kids l p)))
    one-fits = let us = now l None ins in let g = now-grows l None ins in
        subst FitsSum (sym (ap (λ cs. sums l (row cs)) one-tops ∙ sums-row l (tops h us) ∙ sum-trees l h us g.holds
        ∙ ap total g.line ∙ total-with_line (lines_of h (ts m h p k x can)) k (tree_at m 0 x)))
        (line-fits m h p k x can)

    pub one-sum : plus (sum_at l p) (sum_at m x) ≡ sums l (row (kids l p))
    one-sum = let us = now l None ins in let g = now-grows l None ins in
        let node = ap sum_of (node-same l None ins) ∙ sum-held m (suc h) (tree_at m (suc h) p) can.tree in
        let line = sum-held m 0 (tree_at m 0 x) can.line in
        (λ i. plus (node i) (line i))
        ∙ sym (ap (λ cs. sums l (row cs)) one-tops ∙ sums-row l (tops h us) ∙ sum-trees l h us g.holds ∙ ap total g.line
        ∙ total-with_line (lines_of h (ts m h p k x can)) k (tree_at m 0 x))

    one-links : Links l p 0 (tops h (now l None ins))
    one-links = subst (Links l p 0) one-tops (links-now l None ins)

    pub one-inserts : (n : Records) → n ≡ resummed l p (row (kids l p)) → Inserts m n (suc h) p k x None
    one-inserts n is =
        let us = now l None ins in let has = has-now l None ins in
        let g = grows-resum m l n h p (ts m h p k x can) k (tree_at m 0 x) us (now-grows l None ins)
        (named-node m h p k x can) can.distinct.0 (not-line m h p k x can) has one-tops one-links is in
        let same = parted-is n h p us 0 None g.holds in
        let long = ap length (sym (kids-same l None ins) ∙ one-tops) ∙ length-map us (λ (t : Tree h). t.0) in
        let ts_long = length-map (kids m p) (tree_at m h) in
        let s = sums l (row (kids l p)) in
        record {
          grows = subst (λ zs. Grows m n (suc h) ((p, ts m h p k x can) ∷ []) k (tree_at m 0 x) zs) (sym same) g;
          wide = subst (λ zs. KeepsWide (suc h) (p, ts m h p k x can) zs None) (sym same)
              (wide-same h p (ts m h p k x can) us (omega arith)
              (balanced-now l None ins (all-balanced h (trees l h f.child None)
              (ins.wide.wide 6 (omega arith) (wide-balanced h (tree_at m h f.child) balanced-child)))));
          link = keeps-after m l n p (node-same l None ins)
              (keeps-resum l p s has.found has.is n (ap (λ z. finite.get z p) is
              ∙ at-update l p (λ r. with_sum r s) has.found has.is));
        }
