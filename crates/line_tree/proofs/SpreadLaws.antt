-- Sharing before a line goes in.
use Rattle.line_tree.proofs.Common.{◌≡◌, ℕ, suc, ◌+◌, ◌-◌, ◌<◌, ◌≤◌, inl, inr, List, [], ◌∷◌, ◌++◌, length, take, drop}
use Rattle.line_tree.proofs.Common.{map, sym, ap, ◌∙◌, subst, arith, false, is_some, slice_get, true, Bool, Option}
use Rattle.line_tree.proofs.Common.{None, Some, AllByRecursion, append-nil, length-map, same_Some, slice_get_within}
use Rattle.line_tree.proofs.Common.{Among, Distinct, FitsSum, Halves, refilled, Holds, IsTree, Links, line_of, lines_in}
use Rattle.line_tree.proofs.Common.{sum_at, sum_of, tree_at, IsBalanced, Tree, names, tops, total, NodePtr, Records}
use Rattle.line_tree.proofs.Common.{kids, kids_of, row, plus, CanInsert, Grows, Inserts, IsWide, lines_of, names_of}
use Rattle.line_tree.proofs.Common.{trees, with_line, Turns, CanSpread, IsPair, Moves, Respreads, first_part, Found}
use mathlib.Core.Bool.{false≢true}
use Rattle.line_tree.proofs.AmongLaws.{among-or}
use Rattle.line_tree.proofs.BuildLaws.{trees-is}
use Rattle.line_tree.proofs.FrameLaws.{holds-same}
use Rattle.line_tree.proofs.GrowLaws.{all-append, all-left, all-right, in-cases, in-left, in-right, of-one, to-one}
use Rattle.line_tree.proofs.InsertLaws.{all-get}
use Rattle.line_tree.proofs.NeighbourLaws.{Siblings, can-even, hold-left, hold-right, named-share, pair-placed}
use Rattle.line_tree.proofs.NeighbourLaws.{pair-two-apart, share-balanced, share-links, share-named, share-turns}
use Rattle.line_tree.proofs.NeighbourLaws.{tops-among-two, turns-among}
use Rattle.line_tree.proofs.PairLaws.{share-inside}
use Rattle.line_tree.proofs.RemoveSteps.{pair-same}
use Rattle.line_tree.proofs.RoomLaws.{len-refilled}
use Rattle.line_tree.proofs.RowLaws.{past}
use Rattle.line_tree.proofs.ShrinkLaws.{turns-none}
use Rattle.line_tree.proofs.StepLaws.{keeps-after}
use Rattle.line_tree.proofs.SumLaws.{fits-left}
use Rattle.line_tree.proofs.TreeLaws.{child-tree, row-tree, tops-tree_at}
use Rattle.std.specs.FinMap as finite

-- ---- below one node
module _ (m : Records) (g : ℕ) (p : NodePtr) (k : ℕ) (x : NodePtr) (can : CanInsert m (suc (suc g)) p k x) where
  abbrev cs : List NodePtr
  cs = kids m p

  abbrev ts : List (Tree (suc g))
  ts = map (tree_at m (suc g)) (kids m p)

  siblings : Siblings m g p cs
  siblings = record {
    holds = can.tree.2;
    distinct = can.distinct.1;
    fits = fits-left (total (lines_of (suc g) ts)) (sum_at m x) can.fits;
    links = subst (Links m p 0) (tops-tree_at m (suc g) cs) can.tree.1;
  }

  six : (c : NodePtr) → IsBalanced (suc g) (tree_at m (suc g) c) → 6 ≤ length (kids m c)
  six c b = let n = length-map (kids m c) (tree_at m g) in let low = b.0 in omega arith

  pub can-spread : CanSpread m p
  can-spread = record {
    row = row-tree m (suc g) p can.tree;
    pairs = λ i a b at_a at_b. can-even m g p cs siblings i a b at_a at_b;
    each = λ i c at. (
      row-tree m g c (child-tree m (suc g) cs i c can.tree.2 at),
      six c (all-get (IsBalanced (suc g)) (tree_at m (suc g)) cs i c can.wide.2 at),
    );
  }

  module _ (n : Records) (f : Found) (in_order : Bool) (moves : Moves m n p f in_order) where
    abbrev left : List (Tree (suc g))
    left = map (tree_at m (suc g)) (take moves.at cs)

    abbrev right : List (Tree (suc g))
    right = map (tree_at m (suc g)) (drop (suc (suc moves.at)) cs)

    abbrev two : List (Tree (suc g))
    two = tree_at m (suc g) moves.left ∷ tree_at m (suc g) moves.right ∷ []

    abbrev below : List (Tree g)
    below = map (tree_at m g) (kids m moves.left) ++ map (tree_at m g) (kids m moves.right)

    abbrev new : List (Tree (suc g))
    new = (moves.left, take moves.shares.half below) ∷ (moves.right, drop moves.shares.half below) ∷ []

    abbrev us : List (Tree (suc g))
    us = left ++ (new ++ right)

    placed : ts ≡ left ++ (two ++ right)
    placed = pair-placed m g p cs siblings moves.at moves.left moves.right moves.is_left moves.is_right

    turn : Turns m n (suc g) ts us
    turn = turns-among m g p cs siblings moves.at moves.left moves.right moves.is_left moves.is_right n new
        (share-turns m g p cs siblings moves.at moves.left moves.right moves.is_left moves.is_right n moves.shares)

    node-same : finite.get n p ≡ finite.get m p
    node-same = turn.other p can.distinct.0

    tops-same : tops (suc g) us ≡ cs
    tops-same = tops-among-two m g p cs siblings moves.at moves.left moves.right moves.is_left moves.is_right new
        ∙ sym (pair-same cs moves.at moves.left moves.right moves.is_left moves.is_right)

    tree-now : tree_at n (suc (suc g)) p ≡ (p, us)
    tree-now = let e = ap (map (tree_at n (suc g))) (ap kids_of node-same ∙ sym tops-same)
        ∙ trees-is n (suc g) us turn.holds in λ i. (p, e i)

    holds-now : Holds n (suc (suc g)) (p, us)
    holds-now = let node = can.tree.0 in let e = tops-tree_at m (suc g) cs ∙ sym tops-same in (
      record {
        found = node.found;
        is = node-same ∙ node.is;
        children = node.children ∙ ap row e;
        few = subst (λ zs. length zs ≤ 12) e node.few;
        sum = node.sum ∙ ap total (sym turn.line);
        inner = node.inner;
      },
      subst (Links n p 0) (sym tops-same)
          (share-links m g p cs siblings moves.at moves.left moves.right moves.is_left moves.is_right n moves.shares),
      turn.holds,
    )

    turns-node : Turns m n (suc (suc g)) ((p, ts) ∷ []) ((p, us) ∷ [])
    turns-node = record {
      holds = (holds-now, tt);
      line = append-nil (lines_of (suc g) us) ∙ turn.line ∙ sym (append-nil (lines_of (suc g) ts));
      distinct = subst Distinct (sym (append-nil (p ∷ names_of (suc g) us)))
          ((λ i. can.distinct.0 (turn.within p i)), turn.distinct);
      within = λ q a. to-one q (p ∷ names_of (suc g) ts)
          (elim (of-one q (p ∷ names_of (suc g) us) a) [ inl e ↦ inl e | inr b ↦ inr (turn.within q b) ]);
      other = λ q off. turn.other q (λ i. off (to-one q (p ∷ names_of (suc g) ts) (inr i)));
    }

    inside-now : (q : NodePtr) → Among q (names_of (suc g) ts) → Among q (names_of (suc g) us)
    inside-now q i =
        elim (in-cases (suc g) left (two ++ right) q (subst (λ zs. Among q (names_of (suc g) zs)) placed i)) [
          | inl c ↦ in-left (suc g) left (new ++ right) q c
          | inr c ↦ in-right (suc g) left (new ++ right) q (elim (in-cases (suc g) two right q c) [
            | inl d ↦ in-left (suc g) new right q
                (share-inside m g moves.left moves.right (map (tree_at m g) (kids m moves.left))
                (map (tree_at m g) (kids m moves.right))
                (hold-left m g p cs siblings moves.at moves.left moves.right moves.is_left moves.is_right)
                (hold-right m g p cs siblings moves.at moves.left moves.right moves.is_left moves.is_right)
                (pair-two-apart m g p cs siblings moves.at moves.left moves.right moves.is_left moves.is_right)
                moves.shares.half q d)
            | inr d ↦ in-right (suc g) new right q d
          ])
        ]

    balanced-now : AllByRecursion (IsBalanced (suc g)) ts → AllByRecursion (IsBalanced (suc g)) us
    balanced-now all =
        let old = subst (AllByRecursion (IsBalanced (suc g))) placed all in
        let rest = all-right (IsBalanced (suc g)) left (two ++ right) old in
        let a = rest.0 in let b = rest.1.0 in
        all-append (IsBalanced (suc g)) left (new ++ right) (all-left (IsBalanced (suc g)) left (two ++ right) old)
        (all-append (IsBalanced (suc g)) new right
        (share-balanced m g p cs siblings moves.at moves.left moves.right moves.is_left moves.is_right n moves.shares
        (all-append (IsBalanced g) (map (tree_at m g) (kids m moves.left)) (map (tree_at m g) (kids m moves.right)) a.2
        b.2))
        (all-right (IsBalanced (suc g)) two right rest))

    long-now : length us ≡ length ts
    long-now = sym (length-map us (λ (t : Tree (suc g)). t.0)) ∙ ap length tops-same
        ∙ sym (length-map cs (tree_at m (suc g)))

    wide-now : (least : ℕ) → IsWide least (suc (suc g)) (p, ts) → IsWide least (suc (suc g)) (p, us)
    wide-now least w = let e = long-now in let low = w.0 in let high = w.1 in
        (omega arith, omega arith, balanced-now w.2)

    pub moved : Respreads m n (suc (suc g)) p
    moved = record {
      turns = subst (λ t. Turns m n (suc (suc g)) ((p, ts) ∷ []) (t ∷ [])) (sym tree-now) turns-node;
      inside = λ q a. subst (λ t. Among q (names (suc (suc g)) t)) (sym tree-now)
          (elim a [ inl e ↦ inl e | inr i ↦ inr (inside-now q i) ]);
      kept = share-named m g p cs siblings moves.at moves.left moves.right moves.is_left moves.is_right n moves.shares;
      old = named-share m g p cs siblings moves.at moves.left moves.right moves.is_left moves.is_right n moves.shares;
      wide = λ least w. subst (IsWide least (suc (suc g))) (sym tree-now) (wide-now least w);
      same = node-same;
    }

-- ---- a full child and a neighbour
pub room-some : (cs : List NodePtr) (o : Option NodePtr) (room : ℕ) → o ≡ slice_get cs (12 - room) → room ≤ 12 →
    is_some o ≡ false → length cs + room ≤ 12
room-some cs None room e small n = let few = past cs (12 - room) (sym e) in omega arith
room-some cs (Some c) room e small n = absurd (false≢true (sym n))

pub room-none : (cs : List NodePtr) (o : Option NodePtr) (room : ℕ) → o ≡ slice_get cs (12 - room) → room ≤ 12 →
    is_some o ≡ true → 12 < length cs + room
room-none cs None room e small n = absurd (false≢true n)
room-none cs (Some c) room e small n = let more = slice_get_within cs (12 - room) c (sym e) in omega arith

module _ (m : Records) (p : NodePtr) (can : CanSpread m p) (slot : ℕ) (child : NodePtr)
    (at_child : slice_get (kids m p) slot ≡ Some child) (full : 12 < length (kids m child) + 1) (at : ℕ)
    (pair : IsPair m p slot at) (left right : NodePtr) (at_left : slice_get (kids m p) at ≡ Some left)
    (at_right : slice_get (kids m p) (suc at) ≡ Some right) where
  pub enough : 18 ≤ length (kids m left) + length (kids m right)
  enough = let a = can.each at left at_left in let b = can.each (suc at) right at_right in
      let la = a.1 in let lb = b.1 in
      elim pair.near [
        | inl near ↦ let same = ap (λ c. length (kids m c))
            (same_Some right child (sym at_right ∙ ap (slice_get (kids m p)) near.0 ∙ at_child)) in omega arith
        | inr near ↦ let same = ap (λ c. length (kids m c))
            (same_Some left child (sym at_left ∙ ap (slice_get (kids m p)) near.0 ∙ at_child)) in omega arith
      ]

  pub not-more : length (kids m left) + length (kids m right) ≤ 24
  not-more = let a = (can.each at left at_left).0.few in let b = (can.each (suc at) right at_right).0.few in omega arith

-- neither gets too few or too many
pub halves-first : (count : ℕ) (filled : Bool) → 18 ≤ count → count ≤ 24 → Halves count (first_part count filled)
halves-first count true low high =
    record { low = omega arith; high = omega arith; rest_low = omega arith; rest_high = omega arith }
halves-first count false low high =
    record { low = omega arith; high = omega arith; rest_low = omega arith; rest_high = omega arith }

-- nothing is changed
pub unmoved : (m : Records) (h : ℕ) (p : NodePtr) (k : ℕ) (x : NodePtr) → CanInsert m h p k x → Respreads m m h p
unmoved m h p k x can = record {
  turns = turns-none m h (tree_at m h p ∷ []) (can.tree, tt)
      (subst Distinct (sym (append-nil (names h (tree_at m h p)))) can.distinct);
  inside = λ q a. a;
  kept = λ q s. s;
  old = λ q s. s;
  wide = λ least w. w;
  same = λ _. finite.get m p;
}

-- ---- the line can go in yet
module _ (m n : Records) (h : ℕ) (p : NodePtr) (k : ℕ) (x : NodePtr) (can : CanInsert m h p k x)
    (r : Respreads m n h p) where
  line-same : finite.get n x ≡ finite.get m x
  line-same = r.turns.other x (λ a. can.new (of-one x (names h (tree_at m h p)) a))

  pub sum-yet : sum_at m x ≡ sum_at n x
  sum-yet = sym (ap sum_of line-same)

  line-tree : tree_at n 0 x ≡ tree_at m 0 x
  line-tree = λ i. (x, line_of (line-same i))

  lines-same : lines_in n h p ≡ lines_in m h p
  lines-same = sym (append-nil (lines_in n h p)) ∙ r.turns.line ∙ append-nil (lines_in m h p)

  line-holds : IsTree n 0 x
  line-holds = subst (Holds n 0) (sym line-tree) (holds-same m n 0 (tree_at m 0 x) can.line (λ q a. elim a [
    | inl e ↦ ap (finite.get n) e ∙ line-same ∙ ap (finite.get m) (sym e)
    | inr b ↦ absurd b
  ]))

  pub can-yet : CanInsert n h p k x
  can-yet = record {
    tree = r.turns.holds.0;
    wide = r.wide 1 can.wide;
    distinct = subst Distinct (append-nil (names h (tree_at n h p))) r.turns.distinct;
    place = subst (λ ls. k ≤ length ls) (sym lines-same) can.place;
    line = line-holds;
    new = λ a. can.new (of-one x (names h (tree_at m h p)) (r.turns.within x (to-one x (names h (tree_at n h p)) a)));
    fits = subst FitsSum (sym (λ i. plus (total (lines-same i)) (sum_of (line-same i)))) can.fits;
  }

  -- and once it is in, it went in
  grows-yet : (u : Records) (vs : List (Tree h)) → Grows n u h (tree_at n h p ∷ []) k (tree_at n 0 x) vs →
      Grows m u h (tree_at m h p ∷ []) k (tree_at m 0 x) vs
  grows-yet u vs g =
      let first = tree_at m h p ∷ [] in let e = r.turns.line in record {
        holds = g.holds;
        line = g.line ∙ (λ i. with_line (e i) k (line-tree i));
        distinct = g.distinct;
        within = λ q a. elim (g.within q a) [
          | inl b ↦ inl (r.turns.within q b)
          | inr b ↦ elim b [
            | inl is ↦ inr (inl is)
            | inr none ↦ elim (among-or q (names_of h first)) [
              | inl c ↦ inl c
              | inr off ↦ inr (inr (sym (r.turns.other q off) ∙ none))
            ]
          ]
        ];
        other = λ q s off d. g.other q (r.kept q s) (λ a. off (r.turns.within q a)) d ∙ r.turns.other q off;
        kept = λ q s. g.kept q (r.kept q s);
        inside = λ q a. g.inside q
            (to-one q (names h (tree_at n h p)) (r.inside q (of-one q (names h (tree_at m h p)) a)));
        added = g.added;
        old = λ q s off. r.old q (g.old q s off);
      }

  pub inserts-yet : (u : Records) (o : Option NodePtr) → Inserts n u h p k x o → Inserts m u h p k x o
  inserts-yet u o ins = record {
    grows = grows-yet u (trees u h p o) ins.grows;
    wide = record {
      wide = λ least small w. ins.wide.wide least small (r.wide least w);
      split = λ s w. ins.wide.split s (r.wide 1 w);
    };
    link = keeps-after m n u p r.same ins.link;
  }

pub len-moves : (m n : Records) (p : NodePtr) (f : Found) (in_order : Bool) → Moves m n p f in_order → finite.len n ≡ finite.len m
len-moves m n p f in_order moves = let a = moves.left in let b = moves.right in let all = kids m a ++ kids m b in
    let half = moves.shares.half in
    ap finite.len moves.shares.same
    ∙ len-refilled (refilled m a (row (take half all))) b (row (drop half all))
    ∙ len-refilled m a (row (take half all))
