-- Trees without one subtree.
use Rattle.line_tree.proofs.Common.{◌≡◌, ℕ, suc, ◌+◌, ◌-◌, ◌≤◌, inl, inr, List, [], ◌∷◌, ◌++◌, length, take, drop, refl}
use Rattle.line_tree.proofs.Common.{sym, ap, ◌∙◌, subst, arith, length-drop, length-take, ◌≢◌, slice_range}
use Rattle.line_tree.proofs.Common.{AllByRecursion, append-nil, drop-append-le, drop_all, drop_at, take-append-le}
use Rattle.line_tree.proofs.Common.{flat_map-append, removed, Among, CanFill, Distinct, refilled, Holds, IsTree}
use Rattle.line_tree.proofs.Common.{lines_in, tree_at, NodePtr, Records, Tree, lines, names, tops, row, lines_of}
use Rattle.line_tree.proofs.Common.{names_of, Shrinks, Turns, drop-drop, take_all}
use Rattle.text_model.proofs.SpliceLaws.{removed-append_left, removed-append_right}
use Rattle.line_tree.proofs.AmongLaws.{among-left, among-right}
use Rattle.line_tree.proofs.BuildLaws.{built}
use Rattle.line_tree.proofs.DistinctLaws.{distinct-apart, distinct-replace, distinct-right}
use Rattle.line_tree.proofs.FillLaws.{refilled-other}
use Rattle.line_tree.proofs.FrameLaws.{all-same, tops-among}
use Rattle.line_tree.proofs.GrowLaws.{all-append, all-left, all-right, in-cases, in-left, in-right, names-append}
use Rattle.line_tree.proofs.GrowLaws.{of-one, to-one}

-- ---- lines out of the middle
removed-middle : {X : Type 0} (xs cs ys : List X) (r k n : ℕ) → k ≡ length xs + r → r + n ≤ length cs →
    removed k (k + n) (xs ++ (cs ++ ys)) ≡ xs ++ (removed r (r + n) cs ++ ys)
removed-middle xs cs ys r k n at fits =
    let end : k + n ≡ length xs + (r + n) = omega arith in
    (λ i. removed (at i) (end i) (xs ++ (cs ++ ys))) ∙ removed-append_right r (r + n) xs (cs ++ ys)
    ∙ ap (λ zs. xs ++ zs) (removed-append_left r (r + n) cs ys (omega arith) fits)

range-is : {X : Type 0} (xs : List X) (k n : ℕ) → slice_range xs k (k + n) ≡ take n (drop k xs)
range-is xs k n = let e : (k + n) - k ≡ n = omega arith in ap (λ c. take c (drop k xs)) e

range-middle : {X : Type 0} (xs cs ys : List X) (r k n : ℕ) → k ≡ length xs + r → r + n ≤ length cs →
    slice_range (xs ++ (cs ++ ys)) k (k + n) ≡ slice_range cs r (r + n)
range-middle xs cs ys r k n at fits =
    let d = length-drop r cs in
    range-is (xs ++ (cs ++ ys)) k n
    ∙ ap (take n) (ap (λ c. drop c (xs ++ (cs ++ ys))) at ∙ sym (drop-drop r (length xs) (xs ++ (cs ++ ys)))
    ∙ ap (drop r) (drop_at xs (cs ++ ys) (length xs) refl) ∙ drop-append-le r cs ys (omega arith))
    ∙ take-append-le n (drop r cs) ys (omega arith) ∙ sym (range-is cs r n)

-- the lines of a range are there
range-within : {X : Type 0} (xs part : List X) (r : ℕ) → slice_range xs r (r + length part) ≡ part → r ≤ length xs →
    r + length part ≤ length xs
range-within xs part r is low =
    let e = ap length (sym (range-is xs r (length part)) ∙ is) in let t = length-take (length part) (drop r xs) in
    let d = length-drop r xs in omega arith

-- ---- one of several trees
pub shrinks-wide : (m n : Records) (h : ℕ) (ls : List (Tree h)) (t : Tree h) (rs : List (Tree h)) (r k j : ℕ)
    (x : NodePtr) (us : List (Tree h)) → Shrinks m n h (t ∷ []) r j x us
    → AllByRecursion (Holds m h) (ls ++ (t ∷ rs)) → Distinct (names_of h (ls ++ (t ∷ rs))) →
    k ≡ length (lines_of h ls) + r → r ≤ length (lines h t) → Shrinks m n h (ls ++ (t ∷ rs)) k j x (ls ++ (us ++ rs))
shrinks-wide m n h ls t rs r k j x us g all d at low =
    let split = names-append h ls (t ∷ rs) in let apart = subst Distinct split d in
    let all_left = all-left (Holds m h) ls (t ∷ rs) all in let all_right = (all-right (Holds m h) ls (t ∷ rs) all).1 in
    let no_left : (q : NodePtr) → Among q (names_of h ls) → Among q (names_of h (t ∷ [])) →
    ⊥ = λ q a b. distinct-apart (names_of h ls) (names_of h (t ∷ rs)) apart q a
    (among-left q (names h t) (names_of h rs) (of-one q (names h t) b)) in
    let no_right : (q : NodePtr) → Among q (names_of h rs) → Among q (names_of h (t ∷ [])) →
    ⊥ = λ q a b. distinct-apart (names h t) (names_of h rs)
    (distinct-right (names_of h ls) (names_of h (t ∷ rs)) apart) q (of-one q (names h t) b) a in
    let count = length (lines_in m j x) in let lines_one = append-nil (lines h t) in
    let own = ap (λ zs. slice_range zs r (r + count)) (sym lines_one) ∙ g.gone in
    let fits = range-within (lines h t) (lines_in m j x) r own low in
    record {
      holds = all-append (Holds n h) ls (us ++ rs) (all-same m n h ls all_left (λ q a. g.other q (no_left q a)))
          (all-append (Holds n h) us rs g.holds (all-same m n h rs all_right (λ q a. g.other q (no_right q a))));
      line = flat_map-append (lines h) ls (us ++ rs) ∙ ap (λ zs. lines_of h ls ++ zs) (flat_map-append (lines h) us rs)
          ∙ ap (λ zs. lines_of h ls ++ (zs ++ lines_of h rs)) (g.line ∙ ap (removed r (r + count)) lines_one)
          ∙ sym (removed-middle (lines_of h ls) (lines h t) (lines_of h rs) r k count at fits)
          ∙ ap (removed k (k + count)) (sym (flat_map-append (lines h) ls (t ∷ rs)));
      gone = ap (λ zs. slice_range zs k (k + count)) (flat_map-append (lines h) ls (t ∷ rs))
          ∙ range-middle (lines_of h ls) (lines h t) (lines_of h rs) r k count at fits ∙ own;
      tree = g.tree;
      distinct =
          subst Distinct (sym (names-append h ls (us ++ rs) ∙ ap (λ zs. names_of h ls ++ zs) (names-append h us rs)))
          (distinct-replace (names_of h ls) (names h t) (names_of h us) (names_of h rs) apart g.distinct (λ q a b.
          no_left q b (g.within q a)) (λ q a b. no_right q b (g.within q a)));
      within = λ q a. elim (in-cases h ls (us ++ rs) q a) [
        | inl b ↦ in-left h ls (t ∷ rs) q b
        | inr b ↦ elim (in-cases h us rs q b) [
          | inl c ↦ in-right h ls (t ∷ rs) q
              (among-left q (names h t) (names_of h rs) (of-one q (names h t) (g.within q c)))
          | inr c ↦ in-right h ls (t ∷ rs) q (among-right q (names h t) (names_of h rs) c)
        ]
      ];
      inside = λ q a.
          in-right h ls (t ∷ rs) q (among-left q (names h t) (names_of h rs) (of-one q (names h t) (g.inside q a)));
      out = λ q i a. elim (in-cases h ls (us ++ rs) q a) [
        | inl b ↦ no_left q b (g.inside q i)
        | inr b ↦ elim (in-cases h us rs q b) [ inl c ↦ g.out q i c | inr c ↦ no_right q c (g.inside q i) ]
      ];
      other = λ q off.
          g.other q (λ a.
          off (in-right h ls (t ∷ rs) q (among-left q (names h t) (names_of h rs) (of-one q (names h t) a))));
      left = g.left;
    }

-- the whole of one tree
shrinks-whole : (m : Records) (h : ℕ) (x : NodePtr) → IsTree m h x → Shrinks m m h (tree_at m h x ∷ []) 0 h x []
shrinks-whole m h x tree =
    let own = lines_in m h x in let one = append-nil own in let all : length own ≤ length own = omega arith in
    let none : 0 + length own ≡ length own = omega arith in
    record {
      holds = tt;
      line = sym ((λ i. drop (none i) (one i)) ∙ drop_all (length own) own all);
      gone = range-is (own ++ []) 0 (length own) ∙ ap (take (length own)) one ∙ take_all (length own) own all;
      tree = tree;
      distinct = tt;
      within = λ q a. absurd a;
      inside = λ q a. to-one q (names h (tree_at m h x)) a;
      out = λ q i a. a;
      other = λ q off. refl;
      left = λ q a. refl;
    }

pub shrinks-one : (m : Records) (h : ℕ) (ls : List (Tree h)) (x : NodePtr) (rs : List (Tree h)) (k : ℕ) →
    AllByRecursion (Holds m h) (ls ++ (tree_at m h x ∷ rs)) → Distinct (names_of h (ls ++ (tree_at m h x ∷ rs))) →
    k ≡ length (lines_of h ls) → Shrinks m m h (ls ++ (tree_at m h x ∷ rs)) k h x (ls ++ rs)
shrinks-one m h ls x rs k all d at =
    shrinks-wide m m h ls (tree_at m h x) rs 0 k h x []
    (shrinks-whole m h x (all-right (Holds m h) ls (tree_at m h x ∷ rs) all).0) all d (omega arith) (omega arith)

-- ---- the node above them
pub shrinks-up : (m l n : Records) (h : ℕ) (p : NodePtr) (ts : List (Tree h)) (k j : ℕ) (x : NodePtr)
    (us : List (Tree h)) → Shrinks m l h ts k j x us → (Among p (names_of h ts) → ⊥) → CanFill l p (tops h us) →
    n ≡ refilled l p (row (tops h us))
    → Shrinks m n (suc h) ((p, ts) ∷ []) k j x ((p, us) ∷ [])
shrinks-up m l n h p ts k j x us g off_tree can is =
    let p_out : Among p (names_of h us) → ⊥ = λ a. off_tree (g.within p a) in
    let x_p : (q : NodePtr) → Among q (names j (tree_at m j x)) →
    q ≢ p = λ q a e. off_tree (subst (λ z. Among z (names_of h ts)) e (g.inside q a)) in
    let count = length (lines_in m j x) in
    subst (λ z. Shrinks m z (suc h) ((p, ts) ∷ []) k j x ((p, us) ∷ [])) (sym is) (record {
      holds = (built l h p us can g.holds (p_out, g.distinct), tt);
      line = append-nil (lines_of h us) ∙ g.line ∙ ap (removed k (k + count)) (sym (append-nil (lines_of h ts)));
      gone = ap (λ ls. slice_range ls k (k + count)) (append-nil (lines_of h ts)) ∙ g.gone;
      tree = g.tree;
      distinct = subst Distinct (sym (append-nil (p ∷ names_of h us))) (p_out, g.distinct);
      within = λ q a. to-one q (p ∷ names_of h ts)
          (elim (of-one q (p ∷ names_of h us) a) [ inl e ↦ inl e | inr b ↦ inr (g.within q b) ]);
      inside = λ q a. to-one q (p ∷ names_of h ts) (inr (g.inside q a));
      out = λ q i a. elim (of-one q (p ∷ names_of h us) a) [ inl e ↦ x_p q i e | inr b ↦ g.out q i b ];
      other = λ q off. let not_p : q ≢ p = λ e. off (to-one q (p ∷ names_of h ts) (inl e)) in
          let not_ts : Among q (names_of h ts) → ⊥ = λ a. off (to-one q (p ∷ names_of h ts) (inr a)) in
          refilled-other l p (tops h us) q not_p (λ a. not_ts (g.within q (tops-among h us q a))) ∙ g.other q not_ts;
      left = λ q a. refilled-other l p (tops h us) q (x_p q a) (λ i. g.out q a (tops-among h us q i)) ∙ g.left q a;
    })

-- ---- turns
pub shrinks-turns : (m l n : Records) (h : ℕ) (ts : List (Tree h)) (k j : ℕ) (x : NodePtr) (us vs : List (Tree h)) →
    Shrinks m l h ts k j x us → Turns l n h us vs → Shrinks m n h ts k j x vs
shrinks-turns m l n h ts k j x us vs g t = record {
  holds = t.holds;
  line = t.line ∙ g.line;
  gone = g.gone;
  tree = g.tree;
  distinct = t.distinct;
  within = λ q a. g.within q (t.within q a);
  inside = g.inside;
  out = λ q i a. g.out q i (t.within q a);
  other = λ q off. t.other q (λ a. off (g.within q a)) ∙ g.other q off;
  left = λ q a. t.other q (g.out q a) ∙ g.left q a;
}

pub turns-none : (m : Records) (h : ℕ) (ts : List (Tree h)) → AllByRecursion (Holds m h) ts → Distinct (names_of h ts) →
    Turns m m h ts ts
turns-none m h ts all d = record { holds = all; line = refl; distinct = d; within = λ q a. a; other = λ q off. refl }

pub turns-wide : (m n : Records) (h : ℕ) (ls ts rs us : List (Tree h)) → Turns m n h ts us →
    AllByRecursion (Holds m h) (ls ++ (ts ++ rs)) → Distinct (names_of h (ls ++ (ts ++ rs))) →
    Turns m n h (ls ++ (ts ++ rs)) (ls ++ (us ++ rs))
turns-wide m n h ls ts rs us g all d =
    let split = names-append h ls (ts ++ rs) ∙ ap (λ zs. names_of h ls ++ zs) (names-append h ts rs) in
    let apart = subst Distinct split d in
    let all_left = all-left (Holds m h) ls (ts ++ rs) all in
    let all_right = all-right (Holds m h) ts rs (all-right (Holds m h) ls (ts ++ rs) all) in
    let no_left : (q : NodePtr) → Among q (names_of h ls) → Among q (names_of h ts) →
    ⊥ = λ q a b. distinct-apart (names_of h ls) (names_of h ts ++ names_of h rs) apart q a
    (among-left q (names_of h ts) (names_of h rs) b) in
    let no_right : (q : NodePtr) → Among q (names_of h rs) → Among q (names_of h ts) →
    ⊥ = λ q a b. distinct-apart (names_of h ts) (names_of h rs)
    (distinct-right (names_of h ls) (names_of h ts ++ names_of h rs) apart) q b a in
    record {
      holds = all-append (Holds n h) ls (us ++ rs) (all-same m n h ls all_left (λ q a. g.other q (no_left q a)))
          (all-append (Holds n h) us rs g.holds (all-same m n h rs all_right (λ q a. g.other q (no_right q a))));
      line = flat_map-append (lines h) ls (us ++ rs)
          ∙ ap (λ zs. lines_of h ls ++ zs) (flat_map-append (lines h) us rs ∙ ap (λ zs. zs ++ lines_of h rs) g.line
          ∙ sym (flat_map-append (lines h) ts rs)) ∙ sym (flat_map-append (lines h) ls (ts ++ rs));
      distinct =
          subst Distinct (sym (names-append h ls (us ++ rs) ∙ ap (λ zs. names_of h ls ++ zs) (names-append h us rs)))
          (distinct-replace (names_of h ls) (names_of h ts) (names_of h us) (names_of h rs) apart g.distinct (λ q a b.
          no_left q b (g.within q a)) (λ q a b. no_right q b (g.within q a)));
      within = λ q a. elim (in-cases h ls (us ++ rs) q a) [
        | inl b ↦ in-left h ls (ts ++ rs) q b
        | inr b ↦ in-right h ls (ts ++ rs) q
            (elim (in-cases h us rs q b) [ inl c ↦ in-left h ts rs q (g.within q c) | inr c ↦ in-right h ts rs q c ])
      ];
      other = λ q off. g.other q (λ a. off (in-right h ls (ts ++ rs) q (in-left h ts rs q a)));
    }
