-- A removal at a node whose child shares with a neighbour.
use Rattle.line_tree.proofs.Common.{◌≡◌, ℕ, suc, ◌+◌, ◌<◌, ◌≤◌, ◌⊎◌, inl, inr, List, [], ◌∷◌, ◌++◌, length, take, drop}
use Rattle.line_tree.proofs.Common.{map, refl, sym, ap, ◌∙◌, subst, arith, length-append, ◌≢◌, IsSome, slice_get}
use Rattle.line_tree.proofs.Common.{Option, None, Some, AllByRecursion, remove, cases_eq, length-map, length-remove}
use Rattle.line_tree.proofs.Common.{none-some, same_Some, slice_get_within, Among, CanFill, Distinct, Mends, Merges}
use Rattle.line_tree.proofs.Common.{Shares, refilled, sum_all, Holds, Links, lines_in, sum_at, sum_of, tree_at}
use Rattle.line_tree.proofs.Common.{IsBalanced, Tree, names, tops, total, NodePtr, Records, kids, kids_of, row, plus}
use Rattle.line_tree.proofs.Common.{get_removed, get_unmoved, same_or_other, Finds, HasRow, IsWide, lines_of, names_of}
use Rattle.line_tree.proofs.Common.{CanMend, CanRemove, Cleans, Removes, Settles, Shrinks, Turns, Found}
use Rattle.line_tree.proofs.AmongLaws.{among-or, get-among}
use Rattle.line_tree.proofs.BuildLaws.{built, sum-trees, tree-is}
use Rattle.line_tree.proofs.DistinctLaws.{distinct-apart}
use Rattle.line_tree.proofs.FillLaws.{refilled-other}
use Rattle.line_tree.proofs.FrameLaws.{tops-among}
use Rattle.line_tree.proofs.GrowLaws.{all-append, in-cases, in-left, in-right, names-append, of-one}
use Rattle.line_tree.proofs.InsertLaws.{has-kept}
use Rattle.line_tree.proofs.PairLaws.{merge-inside, share-inside, two-right}
use Rattle.line_tree.proofs.NeighbourLaws.{Siblings, can-even, hold-left, hold-right, merge-links, merge-turns}
use Rattle.line_tree.proofs.NeighbourLaws.{pair-apart, pair-facts, pair-long, pair-placed, pair-right-apart}
use Rattle.line_tree.proofs.NeighbourLaws.{pair-two-apart, share-balanced, share-links, share-named, share-turns}
use Rattle.line_tree.proofs.NeighbourLaws.{tops-among-two, turns-among}
use Rattle.line_tree.proofs.RemoveLaws.{can-fill, drop-tree, finish, removes-drop}
use Rattle.line_tree.proofs.RemoveSteps.{all-from, balanced-but, balanced-child, fits-now, gone-same, has-now, in-drop}
use Rattle.line_tree.proofs.RemoveSteps.{in-take, kids-same, links-now, node-same, now-lost, pair-remove, pair-same}
use Rattle.line_tree.proofs.RemoveSteps.{shrinks-now}
use Rattle.line_tree.proofs.ShrinkLaws.{shrinks-turns}
use Rattle.line_tree.proofs.LessLaws.{total-gone}
use Rattle.line_tree.proofs.TreeLaws.{child-tree, row-tree, sum-tree, tops-tree_at}
use Rattle.line_tree.proofs.UpdateLaws.{InnerIn, inner-refilled, inner-row, named-refilled}
use Rattle.std.specs.FinMap as finite

-- the children that are left
abbrev pub without : List NodePtr → Option ℕ → List NodePtr
without cs None = cs
without cs (Some s) = remove cs s

module _ (m : Records) (g : ℕ) (p : NodePtr) (k : ℕ) (can : CanRemove m (suc (suc g)) p k) (f : Found)
    (finds : Finds m p k f) (l : Records) (h : ℕ) (x : NodePtr) (rem : Removes m l (suc g) f.child f.rest h x) where
  abbrev cs : List NodePtr
  cs = kids m p

  abbrev now : List (Tree (suc g))
  now = map (tree_at l (suc g)) (kids m p)

  abbrev ts : List (Tree (suc g))
  ts = map (tree_at m (suc g)) (kids m p)

  shrinks : Shrinks m l (suc g) ts k h x now
  shrinks = shrinks-now m (suc g) p k can f finds l h x rem

  siblings : Siblings l g p cs
  siblings = record {
    holds = shrinks.holds;
    distinct = shrinks.distinct;
    fits = fits-now m (suc g) p k can f finds l h x rem;
    links = links-now m (suc g) p k can f finds l h x rem;
  }

  -- q is the child that o tells
  pub record IsGone (o : Option ℕ) (q : NodePtr) : Type 0 where
    pub slot : ℕ
    pub is : o ≡ Some slot
    pub at : slice_get cs slot ≡ Some q

  -- what is there before the node's own children are told
  pub record Ready (n : Records) (o : Option ℕ) : Type 0 where
    pub trees : List (Tree (suc g))
    pub shrinks : Shrinks m n (suc g) ts k h x trees
    pub tops : Rattle.line_tree.specs.Trees.tops (suc g) trees ≡ without cs o
    pub balanced : AllByRecursion (IsBalanced (suc g)) trees
    pub same : finite.get n p ≡ finite.get m p
    pub named : (q : NodePtr) → IsSome (finite.get l q) → IsSome (finite.get n q)
    pub still_inner : (q : NodePtr) → InnerIn l q → InnerIn n q
    pub links : Links n p 0 cs
    pub slot : (s : ℕ) → o ≡ Some s → s < length cs
    pub gone : (s : ℕ) (q : NodePtr) → o ≡ Some s → slice_get cs s ≡ Some q → Among q (names_of (suc g) trees) → ⊥
    pub lost : Cleans m l (suc g) f.child h x → (q : NodePtr) → Among q (names_of (suc g) ts) →
        (Among q (names_of (suc g) trees) → ⊥) → (Among q (names h (tree_at m h x)) → ⊥) →
        (finite.get n q ≡ None) ⊎ IsGone o q

  -- ---- two neighbours
  module _ (j : ℕ) (a b : NodePtr) (at_a : slice_get (kids m p) j ≡ Some a) (at_b : slice_get (kids m p) (suc j)
      ≡ Some b) where
    abbrev left : List (Tree (suc g))
    left = map (tree_at l (suc g)) (take j cs)

    abbrev right : List (Tree (suc g))
    right = map (tree_at l (suc g)) (drop (suc (suc j)) cs)

    abbrev two : List (Tree (suc g))
    two = tree_at l (suc g) a ∷ tree_at l (suc g) b ∷ []

    abbrev xs : List (Tree g)
    xs = map (tree_at l g) (kids l a)

    abbrev ys : List (Tree g)
    ys = map (tree_at l g) (kids l b)

    abbrev below : List (Tree g)
    below = xs ++ ys

    placed : now ≡ left ++ (two ++ right)
    placed = pair-placed l g p cs siblings j a b at_a at_b

    -- what stands in their place
    turned : (n : Records) (new : List (Tree (suc g))) → Turns l n (suc g) two new →
        Shrinks m n (suc g) ts k h x (left ++ (new ++ right))
    turned n new turn = shrinks-turns m l n (suc g) ts k h x now (left ++ (new ++ right)) shrinks
        (turns-among l g p cs siblings j a b at_a at_b n new turn)

    turn-same : (n : Records) (new : List (Tree (suc g))) → Turns l n (suc g) two new → finite.get n p ≡ finite.get l p
    turn-same n new turn =
        (turns-among l g p cs siblings j a b at_a at_b n new turn).other p (λ s. can.distinct.0 (shrinks.within p s))

    off-two : (n : Records) (new : List (Tree (suc g))) → Turns l n (suc g) two new → Cleans m l (suc g) f.child h x →
        (q : NodePtr) → Among q (names_of (suc g) ts) → (Among q (names_of (suc g) (left ++ (new ++ right))) → ⊥)
        → (Among q (names_of (suc g) two) → ⊥) → (Among q (names h (tree_at m h x)) → ⊥) → finite.get n q ≡ None
    off-two n new turn clean q s out off n2 =
        let not_now : Among q (names_of (suc g) now) →
        ⊥ = λ i. elim (in-cases (suc g) left (two ++ right) q
        (subst (λ zs. Among q (names_of (suc g) zs)) placed i)) [
          | inl c ↦ out (in-left (suc g) left (new ++ right) q c)
          | inr c ↦ elim (in-cases (suc g) two right q c)
              [ inl e ↦ off e | inr e ↦ out (in-right (suc g) left (new ++ right) q (in-right (suc g) new right q e)) ]
        ] in
        turn.other q off ∙ now-lost m (suc g) p k can f finds l h x rem clean q s not_now n2

    module _ (near : (j ≡ f.slot) ⊎ (suc j ≡ f.slot)) where
      before-slot : (i : ℕ) → i < j → i ≢ f.slot
      before-slot i less e = elim near [ inl o ↦ clash (omega arith) | inr o ↦ clash (omega arith) ] where
        clash : 0 < 0 → ⊥
        clash h = omega arith

      after-slot : (i : ℕ) → suc (suc j) + i ≢ f.slot
      after-slot i e = elim near [ inl o ↦ clash (omega arith) | inr o ↦ clash (omega arith) ] where
        clash : 0 < 0 → ⊥
        clash h = omega arith

      sides : (new : List (Tree (suc g))) → AllByRecursion (IsBalanced (suc g)) new →
          AllByRecursion (IsBalanced (suc g)) (left ++ (new ++ right))
      sides new balanced =
          all-append (IsBalanced (suc g)) left (new ++ right)
          (all-from (IsBalanced (suc g)) (tree_at l (suc g)) (take j cs) (λ i d at. let r = in-take j cs i d at in
          balanced-but m (suc g) p k can f finds l h x rem i d r.1 (before-slot i r.0)))
          (all-append (IsBalanced (suc g)) new right balanced
          (all-from (IsBalanced (suc g)) (tree_at l (suc g)) (drop (suc (suc j)) cs) (λ i d at.
          balanced-but m (suc g) p k can f finds l h x rem (suc (suc j) + i) d (in-drop (suc (suc j)) cs i d at)
          (after-slot i))))

      wide-child : (d : NodePtr) (i : ℕ) → slice_get cs i ≡ Some d → i ≡ f.slot → IsWide 5 (suc g) (tree_at l (suc g) d)
      wide-child d i at e = subst (λ z. IsWide 5 (suc g) (tree_at l (suc g) z))
          (same_Some f.child d (sym finds.child ∙ ap (slice_get cs) (sym e) ∙ at))
          (rem.wide 5 (balanced-child m (suc g) p k can f finds))

      -- together they have eleven at least, and below them all is balanced
      many : (11 ≤ length below) × AllByRecursion (IsBalanced g) below
      many = elim near [
        | inl e ↦
            let wa = wide-child a j at_a e in
            let wb = balanced-but m (suc g) p k can f finds l h x rem (suc j) b at_b (λ o. next-not j (e ∙ sym o)) in
            let n = length-append xs ys in let la = wa.0 in let lb = wb.0 in
            (omega arith, all-append (IsBalanced g) xs ys wa.2 wb.2)
        | inr e ↦
            let wb = wide-child b (suc j) at_b e in
            let wa = balanced-but m (suc g) p k can f finds l h x rem j a at_a (λ o. next-not j (o ∙ sym e)) in
            let n = length-append xs ys in let la = wa.0 in let lb = wb.0 in
            (omega arith, all-append (IsBalanced g) xs ys wa.2 wb.2)
      ] where
        next-not : (j : ℕ) → j ≡ suc j → ⊥
        next-not j e = omega arith

      -- ---- after the sharing
      pub share : (n : Records) → Shares l n a b → Ready n None
      share n shares =
          let new = (a, take shares.half below) ∷ (b, drop shares.half below) ∷ [] in
          let turn = share-turns l g p cs siblings j a b at_a at_b n shares in
          record {
            trees = left ++ (new ++ right);
            shrinks = turned n new turn;
            tops = tops-among-two l g p cs siblings j a b at_a at_b new ∙ sym (pair-same cs j a b at_a at_b);
            balanced = sides new (share-balanced l g p cs siblings j a b at_a at_b n shares many.1);
            same = turn-same n new turn ∙ node-same m (suc g) p k can f finds l h x rem;
            named = share-named l g p cs siblings j a b at_a at_b n shares;
            still_inner = λ q s. subst (λ z. InnerIn z q) (sym shares.same)
                (inner-refilled (refilled l a (row (take shares.half (kids l a ++ kids l b)))) b
                (row (drop shares.half (kids l a ++ kids l b))) q
                (inner-refilled l a (row (take shares.half (kids l a ++ kids l b))) q s));
            links = share-links l g p cs siblings j a b at_a at_b n shares;
            slot = λ s e. absurd (none-some s e);
            gone = λ s q e at. absurd (none-some s e);
            lost = λ clean q s out n2.
                inl (off-two n new turn clean q s out (λ i.
                out (in-right (suc g) left (new ++ right) q
                (in-left (suc g) new right q (share-inside l g a b xs ys (hold-left l g p cs siblings j a b at_a at_b)
                (hold-right l g p cs siblings j a b at_a at_b) (pair-two-apart l g p cs siblings j a b at_a at_b)
                shares.half
                q i)))) n2);
          }

      -- the node without children is in the tree no more
      pub merged-out : Among b (names_of (suc g) (left ++ (((a, below) ∷ []) ++ right))) → ⊥
      merged-out s =
          let facts = pair-facts l g p cs siblings j a b at_a at_b in
          let left-apart = distinct-apart (names_of (suc g) left) (names_of (suc g) (two ++ right))
          (subst Distinct (names-append (suc g) left (two ++ right)) (pair-apart l g p cs siblings j a b at_a at_b)) in
          let right-apart = distinct-apart (names_of (suc g) two) (names_of (suc g) right)
          (pair-right-apart l g p cs siblings j a b at_a at_b) in
          let b_two = two-right g a b xs ys in
          elim (in-cases (suc g) left (((a, below) ∷ []) ++ right) b s) [
            | inl c ↦ left-apart b c (in-left (suc g) two right b b_two)
            | inr c ↦ elim (in-cases (suc g) ((a, below) ∷ []) right b c) [
              | inl e ↦ elim (of-one b (a ∷ names_of g below) e)
                  [ inl i ↦ facts.two (sym i) | inr i ↦ facts.off_right i ]
              | inr e ↦ right-apart b b_two e
            ]
          ]

      pub merge : (n : Records) → Merges l n a b → Ready n (Some (suc j))
      merge n merges =
          let new = (a, below) ∷ [] in let turn = merge-turns l g p cs siblings j a b at_a at_b n merges in
          let all = pair-long l g p cs siblings j a b at_a at_b in let few = merges.few in let low = many.0 in
          let balanced : AllByRecursion (IsBalanced (suc g)) new = ((omega arith, omega arith, many.1), tt) in
          record {
            trees = left ++ (new ++ right);
            shrinks = turned n new turn;
            tops = tops-among-two l g p cs siblings j a b at_a at_b new ∙ sym (pair-remove cs j a b at_a at_b);
            balanced = sides new balanced;
            same = turn-same n new turn ∙ node-same m (suc g) p k can f finds l h x rem;
            named = λ q s. subst (λ z. IsSome (finite.get z q)) (sym merges.same)
                (named-refilled l a (row (kids l a ++ kids l b)) q s);
            still_inner =
                λ q s. subst (λ z. InnerIn z q) (sym merges.same) (inner-refilled l a (row (kids l a ++ kids l b)) q s);
            links = merge-links l g p cs siblings j a b at_a at_b n merges;
            slot = λ s e. let w = slice_get_within cs (suc j) b at_b in let i = same_Some (suc j) s e in omega arith;
            gone = λ s q e at r.
                merged-out (subst (λ z. Among z (names_of (suc g) (left ++ (new ++ right))))
                (same_Some q b (sym at ∙ ap (slice_get cs) (sym (same_Some (suc j) s e)) ∙ at_b)) r);
            lost = λ clean q s out n2. elim (among-or q (names_of (suc g) two)) [
              | inl i ↦ elim (merge-inside l g a b xs ys (hold-left l g p cs siblings j a b at_a at_b)
                  (hold-right l g p cs siblings j a b at_a at_b)
                  (pair-two-apart l g p cs siblings j a b at_a at_b) q i) [
                    | inl c ↦ absurd (out (in-right (suc g) left (new ++ right) q (in-left (suc g) new right q c)))
                    | inr e ↦ inr (record { slot = suc j; is = refl; at = at_b ∙ ap (λ z. Some z) (sym e) })
                  ]
              | inr off ↦ inl (off-two n new turn clean q s out off n2)
            ];
          }

  -- ---- whichever way
  stays : (n : Records) (o : Option ℕ) → n ≡ l → o ≡ None → 6 ≤ length (kids l f.child) → Ready n o
  stays n o same none six = subst (λ z. Ready n z) (sym none) (subst (λ z. Ready z None) (sym same) (record {
    trees = now;
    shrinks = shrinks;
    tops = tops-tree_at l (suc g) cs;
    balanced = all-from (IsBalanced (suc g)) (tree_at l (suc g)) cs (λ j d at. elim (cases_eq j f.slot) [
      | inl e ↦
          let c = same_Some f.child d (sym finds.child ∙ ap (slice_get cs) (sym e) ∙ at) in
          let w = rem.wide 5 (balanced-child m (suc g) p k can f finds) in
          let n = length-map (kids l f.child) (tree_at l g) in
          subst (λ z. IsBalanced (suc g) (tree_at l (suc g) z)) c (omega arith, w.1, w.2)
      | inr e ↦ balanced-but m (suc g) p k can f finds l h x rem j d at e
    ]);
    same = node-same m (suc g) p k can f finds l h x rem;
    named = λ q s. s;
    still_inner = λ q s. s;
    links = links-now m (suc g) p k can f finds l h x rem;
    slot = λ s e. absurd (none-some s e);
    gone = λ s q e at. absurd (none-some s e);
    lost = λ clean q s out n2. inl (now-lost m (suc g) p k can f finds l h x rem clean q s out n2);
  }))

  shared : (n : Records) (o : Option ℕ) → Mends l n p f.slot o → Ready n o
  shared n None mends =
      let ks = kids-same m (suc g) p k can f finds l h x rem in
      let at_a = ap (λ zs. slice_get zs mends.at) (sym ks) ∙ mends.is_left in
      let at_b = ap (λ zs. slice_get zs (suc mends.at)) (sym ks) ∙ mends.is_right in
      share mends.at mends.left mends.right at_a at_b mends.near n mends.evens
  shared n (Some s) mends =
      let ks = kids-same m (suc g) p k can f finds l h x rem in
      let at_a = ap (λ zs. slice_get zs mends.at) (sym ks) ∙ mends.is_left in
      let at_b = ap (λ zs. slice_get zs (suc mends.at)) (sym ks) ∙ mends.is_right in
      subst (λ z. Ready n (Some z)) (sym mends.gap)
      (merge mends.at mends.left mends.right at_a at_b mends.near n mends.evens)

  pub ready : (n : Records) (o : Option ℕ) → Settles l n p f.slot f.child o → Ready n o
  ready n o settles = elim settles.ways [ inl kept ↦ stays n o kept.0 kept.1 kept.2 | inr mends ↦ shared n o mends ]

  pub can-mend : CanMend l p
  can-mend i a b at_a at_b = let ks = kids-same m (suc g) p k can f finds l h x rem in
      can-even l g p cs siblings i a b (ap (λ zs. slice_get zs i) (sym ks) ∙ at_a)
      (ap (λ zs. slice_get zs (suc i)) (sym ks) ∙ at_b)

  pub below-now : HasRow l f.child
  below-now = row-tree l g f.child (child-tree l (suc g) cs f.slot f.child shrinks.holds finds.child)

  -- ---- the node itself
  module _ (n : Records) (o : Option ℕ) (settles : Settles l n p f.slot f.child o) where
    is-ready : Ready n o
    is-ready = ready n o settles

    pub kids-ready : kids n p ≡ cs
    kids-ready = ap kids_of is-ready.same

    pub has-ready : HasRow n p
    has-ready = has-kept l n p (has-now m (suc g) p k can f finds l h x rem) (is-ready.same
        ∙ sym (node-same m (suc g) p k can f finds l h x rem)) is-ready.named

    pub links-ready : Links n p 0 (kids n p)
    links-ready = subst (Links n p 0) (sym kids-ready) is-ready.links

    few-without : (o : Option ℕ) → ((s : ℕ) → o ≡ Some s → s < length cs) →
        (length (without cs o) ≤ 12) × (length cs ≤ length (without cs o) + 1)
    few-without None within = let few = (row-tree m (suc g) p can.tree).few in (omega arith, omega arith)
    few-without (Some s) within = let few = (row-tree m (suc g) p can.tree).few in
        let e = length-remove cs s (within s refl) in (omega arith, omega arith)

    long-ready : (length is-ready.trees ≤ 12) × (length cs ≤ length is-ready.trees + 1)
    long-ready = let w = few-without o is-ready.slot in let a = w.0 in let b = w.1 in let e = ap length is-ready.tops in
        let d = length-map is-ready.trees (λ (t : Tree (suc g)). t.0) in (omega arith, omega arith)

    fill-trees : CanFill n p (tops (suc g) is-ready.trees)
    fill-trees = can-fill m n (suc g) p ts k h x is-ready.trees is-ready.shrinks can.distinct.0 has-ready
        long-ready.0 can.fits

    pub fill-ready : CanFill n p (without (kids n p) o)
    fill-ready =
        subst (λ zs. CanFill n p (without zs o)) (sym kids-ready) (subst (CanFill n p) is-ready.tops fill-trees)

    pub slot-ready : (s : ℕ) → o ≡ Some s → s < length (kids n p)
    slot-ready s e = let w = is-ready.slot s e in let q = ap length kids-ready in omega arith

    pub removes-ready : (u : Records) → u ≡ refilled n p (row (without (kids n p) o)) →
        Removes m u (suc (suc g)) p k h x
    removes-ready u is = finish m n u (suc g) p k h x is-ready.trees can is-ready.shrinks is-ready.same fill-trees
        is-ready.balanced long-ready.1
        (is ∙ ap (λ zs. refilled n p (row (without zs o))) kids-ready
        ∙ ap (λ zs. refilled n p (row zs)) (sym is-ready.tops))

    -- so much less stands below the node
    pub sum-ready : plus (sum_all n (without (kids n p) o)) (sum_at l x) ≡ sum_at n p
    sum-ready =
        let left = ap (λ zs. sum_all n (without zs o)) kids-ready ∙ ap (sum_all n) (sym is-ready.tops)
        ∙ sum-trees n (suc g) is-ready.trees is-ready.shrinks.holds ∙ ap total is-ready.shrinks.line in
        let gone = ap sum_of (gone-same m (suc g) p k can f finds l h x rem) ∙ sum-tree m h x shrinks.tree
        ∙ ap total (sym shrinks.gone) in
        (λ i. plus (left i) (gone i)) ∙ total-gone (lines_of (suc g) ts) k (k + length (lines_in m h x)) (omega arith)
        ∙ sym (ap sum_of is-ready.same ∙ sum-tree m (suc (suc g)) p can.tree)

    -- a child is no line
    pub inner-ready : (s : ℕ) (b : NodePtr) → slice_get (kids n p) s ≡ Some b → InnerIn n b
    inner-ready s b at = is-ready.still_inner b
        (inner-row l b (row-tree l g b (child-tree l (suc g) cs s b shrinks.holds
        (ap (λ zs. slice_get zs s) (sym kids-ready) ∙ at))))

    -- the child without children is given back
    pub removes-gone : (u : Records) (s : ℕ) (b : NodePtr) → o ≡ Some s → slice_get (kids n p) s ≡ Some b →
        u ≡ refilled n p (row (without (kids n p) o)) → Removes m (finite.remove u b) (suc (suc g)) p k h x
    removes-gone u s b e at is =
        let r = removes-ready u is in
        let at_cs = ap (λ zs. slice_get zs s) (sym kids-ready) ∙ at in
        let top : Among b (tops (suc g) ts) = subst (Among b) (sym (tops-tree_at m (suc g) cs)) (get-among cs s b at_cs)
        in
        let inside = tops-among (suc g) ts b top in
        let p_b : p ≢ b = λ i. can.distinct.0 (subst (λ z. Among z (names_of (suc g) ts)) (sym i) inside) in
        let b_x : Among b (names h (tree_at m h x)) → ⊥ = λ i.
        shrinks.out b i
        (tops-among (suc g) now b (subst (Among b) (sym (tops-tree_at l (suc g) cs)) (get-among cs s b at_cs))) in
        let tree : tree_at u (suc (suc g)) p ≡ (p, is-ready.trees) = tree-is u (suc (suc g)) (
          p,
          is-ready.trees,
        ) (subst (λ z. Holds z (suc (suc g)) (p, is-ready.trees))
        (sym (is ∙ ap (λ zs. refilled n p (row (without zs o))) kids-ready
        ∙ ap (λ zs. refilled n p (row zs)) (sym is-ready.tops)))
        (built n (suc g) p is-ready.trees fill-trees is-ready.shrinks.holds
        ((λ i. can.distinct.0 (is-ready.shrinks.within p i)), is-ready.shrinks.distinct))) in
        removes-drop m u (suc (suc g)) p k h x b r
        (λ i. elim (subst (λ t. Among b (names (suc (suc g)) t)) tree i)
        [ inl q ↦ p_b (sym q) | inr q ↦ is-ready.gone s b e at_cs q ])
        (inr inside) b_x p_b

    tree-ready : (u : Records) → u ≡ refilled n p (row (without (kids n p) o)) →
        tree_at u (suc (suc g)) p ≡ (p, is-ready.trees)
    tree-ready u is = tree-is u (suc (suc g)) (p, is-ready.trees)
        (subst (λ z. Holds z (suc (suc g)) (p, is-ready.trees))
        (sym (is ∙ ap (λ zs. refilled n p (row (without zs o))) kids-ready
        ∙ ap (λ zs. refilled n p (row zs)) (sym is-ready.tops)))
        (built n (suc g) p is-ready.trees fill-trees is-ready.shrinks.holds
        ((λ i. can.distinct.0 (is-ready.shrinks.within p i)), is-ready.shrinks.distinct)))

    lost-ready : Cleans m l (suc g) f.child h x → (u : Records) → u ≡ refilled n p (row (without (kids n p) o)) →
        (q : NodePtr) → Among q (names (suc (suc g)) (tree_at m (suc (suc g)) p)) →
        (Among q (names (suc (suc g)) (tree_at u (suc (suc g)) p)) → ⊥) → (Among q (names h (tree_at m h x)) → ⊥)
        → (finite.get u q ≡ None) ⊎ IsGone o q
    lost-ready clean u is q a out n2 =
        let off : Among q (p ∷ names_of (suc g) is-ready.trees) →
        ⊥ = λ b. out (subst (λ t. Among q (names (suc (suc g)) t)) (sym (tree-ready u is)) b) in
        let same = is ∙ ap (λ zs. refilled n p (row (without zs o))) kids-ready
        ∙ ap (λ zs. refilled n p (row zs)) (sym is-ready.tops) in
        elim a [
          | inl e ↦ absurd (off (inl e))
          | inr b ↦ elim (is-ready.lost clean q b (λ i. off (inr i)) n2) [
            | inl none ↦ inl (ap (λ z. finite.get z q) same
                ∙ refilled-other n p (tops (suc g) is-ready.trees) q (λ e. off (inl e)) (λ i.
                off (inr (tops-among (suc g) is-ready.trees q i))) ∙ none)
            | inr gone ↦ inr gone
          ]
        ]

    pub cleans-ready : Cleans m l (suc g) f.child h x → (u : Records) → u ≡ refilled n p (row (without (kids n p) o)) →
        o ≡ None → Cleans m u (suc (suc g)) p h x
    cleans-ready clean u is none q a out n2 = elim (lost-ready clean u is q a out n2)
        [ inl e ↦ e | inr gone ↦ absurd (none-some gone.slot (sym none ∙ gone.is)) ]

    pub cleans-gone : Cleans m l (suc g) f.child h x → (u : Records) (s : ℕ) (b : NodePtr) → o ≡ Some s →
        slice_get (kids n p) s ≡ Some b → u ≡ refilled n p (row (without (kids n p) o)) →
        Cleans m (finite.remove u b) (suc (suc g)) p h x
    cleans-gone clean u s b e at is q a out n2 =
        let at_cs = ap (λ zs. slice_get zs s) (sym kids-ready) ∙ at in
        let top : Among b (tops (suc g) ts) = subst (Among b) (sym (tops-tree_at m (suc g) cs)) (get-among cs s b at_cs)
        in
        let p_b : p ≢ b = λ i.
        can.distinct.0 (subst (λ z. Among z (names_of (suc g) ts)) (sym i) (tops-among (suc g) ts b top)) in
        let off : Among b (names (suc (suc g)) (tree_at u (suc (suc g)) p)) →
        ⊥ = λ i. elim (subst (λ t. Among b (names (suc (suc g)) t)) (tree-ready u is) i)
        [ inl r ↦ p_b (sym r) | inr r ↦ is-ready.gone s b e at_cs r ] in
        let tree = drop-tree m u (suc (suc g)) p k h x b (removes-ready u is) off in
        elim (same_or_other q b) [
          | inl same ↦ ap (finite.get (finite.remove u b)) same ∙ get_removed u b
          | inr other ↦ get_unmoved u b q other
              ∙ elim (lost-ready clean u is q a (λ i. out (subst (λ t. Among q (names (suc (suc g)) t)) (sym tree) i))
              n2) [
                | inl none ↦ none
                | inr gone ↦ absurd (other (same_Some q b (sym gone.at
                    ∙ ap (slice_get cs) (same_Some gone.slot s (sym gone.is ∙ e)) ∙ at_cs)))
              ]
        ]
