-- A node with one more child, with room and without.
use Rattle.line_tree.proofs.Common.{◌≡◌, ℕ, suc, ◌+◌, ◌≤◌, ◌⊎◌, inl, inr, List, [], ◌∷◌, ◌++◌, length, take, drop, refl}
use Rattle.line_tree.proofs.Common.{sym, ap, ◌∙◌, subst, arith, ◌≢◌, IsSome, Option, None, Some, AllByRecursion, insert}
use Rattle.line_tree.proofs.Common.{append-nil, take-append-drop, take-map, drop-map, flat_map-append, Among, CanFill}
use Rattle.line_tree.proofs.Common.{CanPut, Distinct, Puts, refilled, resummed, sums, Holds, Links, NodePtr, Records}
use Rattle.line_tree.proofs.Common.{blank, with_sum, Tree, lines, tops, kids, row, get_other, kept_insert}
use Rattle.line_tree.proofs.Common.{get-update-other, insert-named, named-update, update-named, HasRow, Grows, lines_of}
use Rattle.line_tree.proofs.Common.{names_of, parted, trees, with_line}
use Rattle.line_tree.proofs.AmongLaws.{among-cases, among-left, among-right}
use Rattle.line_tree.proofs.BuildLaws.{built, sum-trees, tree-is}
use Rattle.line_tree.proofs.DistinctLaws.{distinct-apart, distinct-append, distinct-left, distinct-right}
use Rattle.line_tree.proofs.FillLaws.{at-update, refilled-other, sums-row}
use Rattle.line_tree.proofs.FrameLaws.{all-same, holds-same, links-same, names-all-held, tops-among}
use Rattle.line_tree.proofs.GrowLaws.{all-left, all-right, grows-up, in-cases, in-left, in-right, names-append, of-one}
use Rattle.line_tree.proofs.GrowLaws.{to-one, unnamed}
use Rattle.line_tree.proofs.PutLaws.{fill-left, fill-right, fill-room, split_at}
use Rattle.line_tree.proofs.UpdateLaws.{named-refilled, refilled-named}
use Rattle.std.specs.FinMap as finite

-- ---- with room
pub grows-room : (m l n : Records) (h : ℕ) (p : NodePtr) (ts : List (Tree h)) (k : ℕ) (x : Tree 0) (us : List (Tree h))
    → Grows m l h ts k x us → IsSome (finite.get m p) → (Among p (names_of h ts) → ⊥) → p ≢ x.0
    → CanFill l p (tops h us) → n ≡ refilled l p (row (tops h us)) → Grows m n (suc h) ((p, ts) ∷ []) k x ((p, us) ∷ [])
grows-room m l n h p ts k x us g named out other_name can is =
    let p_out : Among p (names_of h us) → ⊥ = λ a.
    elim (g.within p a) [ inl b ↦ out b | inr b ↦ elim b [ inl e ↦ other_name e | inr e ↦ unnamed m p named e ] ] in
    subst (λ z. Grows m z (suc h) ((p, ts) ∷ []) k x ((p, us) ∷ [])) (sym is)
    (grows-up m l (refilled l p (row (tops h us))) h p ts k x us g named out other_name
    (built l h p us can g.holds (p_out, g.distinct)) (refilled-other l p (tops h us))
    (named-refilled l p (row (tops h us))) (refilled-named l p (row (tops h us))))

-- ---- without
pub grows-split : (m l n : Records) (h : ℕ) (p : NodePtr) (ts : List (Tree h)) (k : ℕ) (x : Tree 0)
    (cs1 ds1 : List (Tree h)) (s : NodePtr) → Grows m l h ts k x (cs1 ++ ds1) → IsSome (finite.get m p) →
    (Among p (names_of h ts) → ⊥) → p ≢ x.0
    → finite.get l s ≡ None → CanFill (finite.insert l s (blank None)) p (tops h cs1) →
    CanFill (refilled (finite.insert l s (blank None)) p (row (tops h cs1))) s (tops h ds1)
    → n ≡ refilled (refilled (finite.insert l s (blank None)) p (row (tops h cs1))) s (row (tops h ds1)) →
    Grows m n (suc h) ((p, ts) ∷ []) k x ((p, cs1) ∷ (s, ds1) ∷ [])
grows-split m l n h p ts k x cs1 ds1 s g named out other_name fresh can_left can_right is =
    let made = finite.insert l s (blank None) in let left = refilled made p (row (tops h cs1)) in
    let last = refilled left s (row (tops h ds1)) in
    let us = cs1 ++ ds1 in
    let p_out : Among p (names_of h us) → ⊥ = λ a.
    elim (g.within p a) [ inl b ↦ out b | inr b ↦ elim b [ inl e ↦ other_name e | inr e ↦ unnamed m p named e ] ] in
    let us_named = names-all-held l h us g.holds in
    let not_s : (q : NodePtr) → IsSome (finite.get l q) →
    q ≢ s = λ q c e. unnamed l q c (ap (finite.get l) e ∙ fresh) in
    let p_s : p ≢ s = not_s p (g.kept p named) in
    let s_out : Among s (names_of h us) → ⊥ = λ a. not_s s (us_named s a) refl in
    let d = subst Distinct (names-append h cs1 ds1) g.distinct in
    let apart = distinct-apart (names_of h cs1) (names_of h ds1) d in
    let at_made = all-same l made h us g.holds (λ q a. get_other l s (blank None) q (not_s q (us_named q a))) in
    let as_made = all-left (Holds made h) cs1 ds1 at_made in let bs_made = all-right (Holds made h) cs1 ds1 at_made in
    let p_as : Among p (names_of h cs1) → ⊥ = λ a. p_out (in-left h cs1 ds1 p a) in
    let p_bs : Among p (names_of h ds1) → ⊥ = λ a. p_out (in-right h cs1 ds1 p a) in
    let s_as : Among s (names_of h cs1) → ⊥ = λ a. s_out (in-left h cs1 ds1 s a) in
    let s_bs : Among s (names_of h ds1) → ⊥ = λ a. s_out (in-right h cs1 ds1 s a) in
    let first : Holds left (suc h) (p, cs1) = built made h p cs1 can_left as_made (
      p_as,
      distinct-left (names_of h cs1) (names_of h ds1) d,
    ) in
    let bs_left = all-same made left h ds1 bs_made (λ q a.
    refilled-other made p (tops h cs1) q (λ e. p_bs (subst (λ z. Among z (names_of h ds1)) e a)) (λ b.
    apart q (tops-among h cs1 q b) a)) in
    let second : Holds last (suc h) (s, ds1) = built left h s ds1 can_right bs_left (
      s_bs,
      distinct-right (names_of h cs1) (names_of h ds1) d,
    ) in
    let first_last : Holds last (suc h) (p, cs1) = holds-same left last (suc h) (p, cs1) first (λ q a. elim a [
      | inl e ↦ refilled-other left s (tops h ds1) q (λ f. p_s (sym e ∙ f)) (λ b.
          p_bs (tops-among h ds1 p (subst (λ z. Among z (tops h ds1)) e b)))
      | inr b ↦ refilled-other left s (tops h ds1) q (λ f. s_as (subst (λ z. Among z (names_of h cs1)) f b)) (λ c.
          apart q b (tops-among h ds1 q c))
    ]) in
    let lines_us = ap (λ zs. lines_of h cs1 ++ zs) (append-nil (lines_of h ds1))
    ∙ sym (flat_map-append (lines h) cs1 ds1) in
    let unfresh : finite.get m s ≡ None = absent (finite.get m s) (λ c. not_s s (g.kept s c) refl) in
    let below-two : (q : NodePtr) → Among q (names_of h us) →
    Among q ((p ∷ names_of h cs1) ++ ((s ∷ names_of h ds1) ++ [])) = λ q a. elim (in-cases h cs1 ds1 q a) [
      | inl b ↦ among-left q (p ∷ names_of h cs1) ((s ∷ names_of h ds1) ++ []) (inr b)
      | inr b ↦ among-right q (p ∷ names_of h cs1) ((s ∷ names_of h ds1) ++ []) (to-one q (s ∷ names_of h ds1) (inr b))
    ] in
    subst (λ z. Grows m z (suc h) ((p, ts) ∷ []) k x ((p, cs1) ∷ (s, ds1) ∷ [])) (sym is) (record {
      holds = (first_last, (second, tt));
      line = lines_us ∙ g.line ∙ ap (λ ls. with_line ls k x) (sym (append-nil (lines_of h ts)));
      distinct = subst Distinct (ap (λ zs. (p ∷ names_of h cs1) ++ (s ∷ zs)) (sym (append-nil (names_of h ds1))))
          (distinct-append (p ∷ names_of h cs1) (s ∷ names_of h ds1) (
            p_as,
            distinct-left (names_of h cs1) (names_of h ds1) d,
          ) (
            s_bs,
            distinct-right (names_of h cs1) (names_of h ds1) d,
          ) (λ q a b. elim a [
            | inl e ↦ elim b [ inl f ↦ p_s (sym e ∙ f) | inr c ↦ p_bs (subst (λ z. Among z (names_of h ds1)) e c) ]
            | inr c ↦ elim b [ inl f ↦ s_as (subst (λ z. Among z (names_of h cs1)) f c) | inr f ↦ apart q c f ]
          ]));
      within = λ q a. elim (cases-two h p s cs1 ds1 q a) [
        | inl e ↦ inl (to-one q (p ∷ names_of h ts) (inl e))
        | inr b ↦ elim b [
          | inl e ↦ inr (inr (ap (finite.get m) e ∙ unfresh))
          | inr c ↦ elim (g.within q c) [ inl f ↦ inl (to-one q (p ∷ names_of h ts) (inr f)) | inr f ↦ inr f ]
        ]
      ];
      other = λ q c off_tree e.
          let not_p : q ≢ p = λ f. off_tree (to-one q (p ∷ names_of h ts) (inl f)) in
          let not_ts : Among q (names_of h ts) → ⊥ = λ a. off_tree (to-one q (p ∷ names_of h ts) (inr a)) in
          let not_us : Among q (names_of h us) → ⊥ = λ a.
          elim (g.within q a) [ inl f ↦ not_ts f | inr f ↦ elim f [ inl i ↦ e i | inr i ↦ unnamed m q c i ] ] in
          let q_s = not_s q (g.kept q c) in
          refilled-other left s (tops h ds1) q q_s (λ a. not_us (in-right h cs1 ds1 q (tops-among h ds1 q a)))
          ∙ refilled-other made p (tops h cs1) q not_p (λ a. not_us (in-left h cs1 ds1 q (tops-among h cs1 q a)))
          ∙ get_other l s (blank None) q q_s ∙ g.other q c not_ts e;
      kept = λ q c. named-refilled left s (row (tops h ds1)) q
          (named-refilled made p (row (tops h cs1)) q (kept_insert l s (blank None) q (g.kept q c)));
      inside = λ q a. elim (of-one q (p ∷ names_of h ts) a) [ inl e ↦ inl e | inr b ↦ below-two q (g.inside q b) ];
      added = below-two x.0 g.added;
      old = λ q c off. g.old q
          (elim (insert-named l s (blank None) q
          (refilled-named made p (row (tops h cs1)) q (refilled-named left s (row (tops h ds1)) q c))) [
            | inl e ↦ absurd
                (off (subst (λ z. Among z ((p ∷ names_of h cs1) ++ ((s ∷ names_of h ds1) ++ []))) (sym e)
                (among-right s (p ∷ names_of h cs1) ((s ∷ names_of h ds1) ++ []) (inl refl))))
            | inr d ↦ d
          ]) (λ a. off (below-two q a));
    })
  where
    absent : {X : Type 0} (o : Option X) → (IsSome o → ⊥) → o ≡ None
    absent None out = refl
    absent (Some y) out = absurd (out refl)

    cases-two : (h : ℕ) (p s : NodePtr) (cs1 ds1 : List (Tree h)) (q : NodePtr) →
        Among q ((p ∷ names_of h cs1) ++ ((s ∷ names_of h ds1) ++ [])) →
        (q ≡ p) ⊎ ((q ≡ s) ⊎ Among q (names_of h (cs1 ++ ds1)))
    cases-two h p s cs1 ds1 q a = elim (among-cases q (p ∷ names_of h cs1) ((s ∷ names_of h ds1) ++ []) a) [
      | inl b ↦ elim b [ inl e ↦ inl e | inr c ↦ inr (inr (in-left h cs1 ds1 q c)) ]
      | inr b ↦ elim (of-one q (s ∷ names_of h ds1) b)
          [ inl e ↦ inr (inl e) | inr c ↦ inr (inr (in-right h cs1 ds1 q c)) ]
    ]

-- ---- by the number of children
pub grows-put : (m l n : Records) (h : ℕ) (p : NodePtr) (ts : List (Tree h)) (k : ℕ) (x : Tree 0) (us : List (Tree h))
    (at : ℕ) (y : NodePtr) (o : Option NodePtr) → Grows m l h ts k x us → IsSome (finite.get m p) →
    (Among p (names_of h ts) → ⊥) → p ≢ x.0
    → CanPut l p at y → insert (kids l p) at y ≡ tops h us → (puts : Puts l n p (insert (kids l p) at y) o) →
    Grows m n (suc h) ((p, ts) ∷ []) k x (parted h p us (split_at l n p (insert (kids l p) at y) o puts) o)
grows-put m l n h p ts k x us at y None g named out other_name can same puts =
    grows-room m l n h p ts k x us g named out other_name (subst (CanFill l p) same (fill-room l p at y can puts.few))
    (puts.same ∙ ap (λ cs. refilled l p (row cs)) same)
grows-put m l n h p ts k x us at y (Some s) g named out other_name can same puts =
    let all = insert (kids l p) at y in let made = finite.insert l s (blank None) in let many = puts.many in
    let half = puts.half in let low = puts.low in let high = puts.high in
    let few : length all ≤ half + 12 = omega arith in
    let e1 : take half all ≡ tops h (take half us) = ap (take half) same ∙ take-map (λ (t : Tree h). t.0) half us in
    let e2 : drop half all ≡ tops h (drop half us) = ap (drop half) same ∙ drop-map (λ (t : Tree h). t.0) half us in
    grows-split m l n h p ts k x (take half us) (drop half us) s
    (subst (λ zs. Grows m l h ts k x zs) (sym (take-append-drop half us)) g) named out other_name puts.fresh
    (subst (CanFill made p) e1 (fill-left l p at y can s puts.fresh half (omega arith)))
    (subst (λ cs. CanFill (refilled made p (row cs)) s (tops h (drop half us))) e1
    (subst (CanFill (refilled made p (row (take half all))) s) e2 (fill-right l p at y can s puts.fresh half few)))
    (puts.same ∙ ap (λ cs. refilled (refilled made p (row cs)) s (row (drop half all))) e1
    ∙ ap (λ cs. refilled (refilled made p (row (tops h (take half us)))) s (row cs)) e2)

-- ---- the sum alone
pub grows-resum : (m l n : Records) (h : ℕ) (p : NodePtr) (ts : List (Tree h)) (k : ℕ) (x : Tree 0) (us : List (Tree h))
    → Grows m l h ts k x us → IsSome (finite.get m p) → (Among p (names_of h ts) → ⊥) → p ≢ x.0
    → HasRow l p → kids l p ≡ tops h us → Links l p 0 (tops h us) → n ≡ resummed l p (row (kids l p)) →
    Grows m n (suc h) ((p, ts) ∷ []) k x ((p, us) ∷ [])
grows-resum m l n h p ts k x us g named out other_name has same links is =
    let cs = tops h us in let s = sums l (row (kids l p)) in let last = resummed l p (row (kids l p)) in
    let p_out : Among p (names_of h us) → ⊥ = λ a.
    elim (g.within p a) [ inl b ↦ out b | inr b ↦ elim b [ inl e ↦ other_name e | inr e ↦ unnamed m p named e ] ] in
    let frame : (q : NodePtr) → q ≢ p → finite.get last q ≡ finite.get l q = get-update-other l p (λ r. with_sum r s) in
    let off : (q : NodePtr) → Among q (names_of h us) → finite.get last q
    ≡ finite.get l q = λ q a. frame q (λ e. p_out (subst (λ z. Among z (names_of h us)) e a)) in
    let holds : Holds last (suc h) (p, us) = (
      record {
        found = with_sum has.found s;
        is = at-update l p (λ r. with_sum r s) has.found has.is;
        children = has.children ∙ ap row same;
        few = subst (λ ds. length ds ≤ 12) same has.few;
        inner = has.inner;
        sum = ap (λ ds. sums l (row ds)) same ∙ sums-row l cs ∙ sum-trees l h us g.holds;
      },
      links-same l last p 0 cs links (λ q a. off q (tops-among h us q a)),
      all-same l last h us g.holds off,
    ) in
    subst (λ z. Grows m z (suc h) ((p, ts) ∷ []) k x ((p, us) ∷ [])) (sym is)
    (grows-up m l last h p ts k x us g named out other_name holds (λ q a b. frame q a)
    (named-update l p (λ r. with_sum r s)) (update-named l p (λ r. with_sum r s)))

-- ---- the tree at each name
pub parted-is : (n : Records) (h : ℕ) (p : NodePtr) (us : List (Tree h)) (half : ℕ) (o : Option NodePtr) →
    AllByRecursion (Holds n (suc h)) (parted h p us half o) → trees n (suc h) p o ≡ parted h p us half o
parted-is n h p us half None all = let e = tree-is n (suc h) (p, us) all.0 in λ i. e i ∷ []
parted-is n h p us half (Some s) all = let e = tree-is n (suc h) (p, take half us) all.0 in
    let f = tree-is n (suc h) (s, drop half us) all.1.0 in λ i. e i ∷ f i ∷ []
