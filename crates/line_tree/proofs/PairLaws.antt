-- Two neighbours that share their children anew.
use Rattle.line_tree.proofs.Common.{◌≡◌, ℕ, suc, ◌⊎◌, inl, inr, List, [], ◌∷◌, ◌++◌, take, drop, refl, sym, ap, ◌∙◌}
use Rattle.line_tree.proofs.Common.{subst, AllByRecursion, append-nil, drop-map, map-append, take-append-drop, take-map}
use Rattle.line_tree.proofs.Common.{flat_map-append, Among, CanEven, CanFill, Distinct, Merges, Shares, refilled, Holds}
use Rattle.line_tree.proofs.Common.{NodePtr, Records, Tree, lines, tops, kids, row, lines_of, names_of, Turns, ◌≢◌}
use Rattle.line_tree.proofs.AmongLaws.{among-cases, among-left, among-right}
use Rattle.line_tree.proofs.BuildLaws.{built, kids-held}
use Rattle.line_tree.proofs.DistinctLaws.{distinct-apart, distinct-append, distinct-left, distinct-right}
use Rattle.line_tree.proofs.EvenLaws.{fill-back, fill-front, fill-whole}
use Rattle.line_tree.proofs.FillLaws.{refilled-other}
use Rattle.line_tree.proofs.FrameLaws.{all-same, holds-same, tops-among}
use Rattle.line_tree.proofs.GrowLaws.{all-append, all-left, all-right, in-cases, in-left, in-right, names-append}
use Rattle.line_tree.proofs.GrowLaws.{of-one, to-one}

-- ---- the names of two nodes
pub two-cases : (h : ℕ) (a b : NodePtr) (xs ys : List (Tree h)) (q : NodePtr) →
    Among q (names_of (suc h) ((a, xs) ∷ (b, ys) ∷ [])) → (q ≡ a) ⊎ ((q ≡ b) ⊎ Among q (names_of h (xs ++ ys)))
two-cases h a b xs ys q s = elim (among-cases q (a ∷ names_of h xs) ((b ∷ names_of h ys) ++ []) s) [
  | inl c ↦ elim c [ inl e ↦ inl e | inr d ↦ inr (inr (in-left h xs ys q d)) ]
  | inr c ↦ elim (of-one q (b ∷ names_of h ys) c) [ inl e ↦ inr (inl e) | inr d ↦ inr (inr (in-right h xs ys q d)) ]
]

pub two-right : (h : ℕ) (a b : NodePtr) (xs ys : List (Tree h)) → Among b (names_of (suc h) ((a, xs) ∷ (b, ys) ∷ []))
two-right h a b xs ys = among-right b (a ∷ names_of h xs) ((b ∷ names_of h ys) ++ []) (inl refl)

pub two-below : (h : ℕ) (a b : NodePtr) (xs ys : List (Tree h)) (q : NodePtr) → Among q (names_of h (xs ++ ys)) →
    Among q (names_of (suc h) ((a, xs) ∷ (b, ys) ∷ []))
two-below h a b xs ys q s = elim (in-cases h xs ys q s) [
  | inl c ↦ among-left q (a ∷ names_of h xs) ((b ∷ names_of h ys) ++ []) (inr c)
  | inr c ↦ among-right q (a ∷ names_of h xs) ((b ∷ names_of h ys) ++ []) (to-one q (b ∷ names_of h ys) (inr c))
]

pub record Pair (h : ℕ) (a b : NodePtr) (xs ys : List (Tree h)) : Type 0 where
  pub two : a ≢ b
  pub off_left : Among a (names_of h (xs ++ ys)) → ⊥
  pub off_right : Among b (names_of h (xs ++ ys)) → ⊥
  pub apart : Distinct (names_of h (xs ++ ys))

pub pair-of : (h : ℕ) (a b : NodePtr) (xs ys : List (Tree h)) → Distinct (names_of (suc h) ((a, xs) ∷ (b, ys) ∷ [])) →
    Pair h a b xs ys
pair-of h a b xs ys d =
    let left = distinct-left (a ∷ names_of h xs) ((b ∷ names_of h ys) ++ []) d in
    let right = subst Distinct (append-nil (b ∷ names_of h ys))
    (distinct-right (a ∷ names_of h xs) ((b ∷ names_of h ys) ++ []) d) in
    let cross = distinct-apart (a ∷ names_of h xs) ((b ∷ names_of h ys) ++ []) d in
    record {
      two = λ e. cross a (inl refl) (inl e);
      off_left = λ s. elim (in-cases h xs ys a s)
          [ inl c ↦ left.0 c | inr c ↦ cross a (inl refl) (to-one a (b ∷ names_of h ys) (inr c)) ];
      off_right = λ s. elim (in-cases h xs ys b s) [ inl c ↦ cross b (inr c) (inl refl) | inr c ↦ right.0 c ];
      apart = subst Distinct (sym (names-append h xs ys))
          (distinct-append (names_of h xs) (names_of h ys) left.1 right.1 (λ q c e.
          cross q (inr c) (to-one q (b ∷ names_of h ys) (inr e))));
    }

pub two-distinct : (h : ℕ) (a b : NodePtr) (xs ys : List (Tree h)) → Pair h a b xs ys →
    Distinct (names_of (suc h) ((a, xs) ∷ (b, ys) ∷ []))
two-distinct h a b xs ys p =
    let d = subst Distinct (names-append h xs ys) p.apart in
    let cross = distinct-apart (names_of h xs) (names_of h ys) d in
    subst Distinct (ap (λ zs. (a ∷ names_of h xs) ++ (b ∷ zs)) (sym (append-nil (names_of h ys))))
    (distinct-append (a ∷ names_of h xs) (b ∷ names_of h ys) (
      (λ s. p.off_left (in-left h xs ys a s)),
      distinct-left (names_of h xs) (names_of h ys) d,
    )
    ((λ s. p.off_right (in-right h xs ys b s)), distinct-right (names_of h xs) (names_of h ys) d)
    (λ q s t. elim s [
      | inl e ↦ elim t [
        | inl f ↦ p.two (sym e ∙ f)
        | inr c ↦ p.off_left
            (in-right h xs ys a (subst (λ z. Among z (names_of h ys)) e c))
      ]
      | inr c ↦ elim t [
        | inl f ↦ p.off_right (in-left h xs ys b (subst (λ z. Among z (names_of h xs)) f c))
        | inr e ↦
            cross q c e
      ]
    ]))

pub two-lines : (h : ℕ) (a b : NodePtr) (xs ys : List (Tree h)) →
    lines_of (suc h) ((a, xs) ∷ (b, ys) ∷ []) ≡ lines_of h (xs ++ ys)
two-lines h a b xs ys =
    ap (λ zs. lines_of h xs ++ zs) (append-nil (lines_of h ys)) ∙ sym (flat_map-append (lines h) xs ys)

module _ (m : Records) (h : ℕ) (a b : NodePtr) (xs ys : List (Tree h)) (left : Holds m (suc h) (a, xs))
    (right : Holds m (suc h) (b, ys)) (d : Distinct (names_of (suc h) ((a, xs) ∷ (b, ys) ∷ []))) where
  pub kids-both : kids m a ++ kids m b ≡ tops h (xs ++ ys)
  kids-both = (λ i. kids-held m h (a, xs) left i ++ kids-held m h (b, ys) right i)
      ∙ sym (map-append (λ (t : Tree h). t.0) xs ys)

  held-both : AllByRecursion (Holds m h) (xs ++ ys)
  held-both = all-append (Holds m h) xs ys left.2 right.2

  pub turns-merge : CanEven m a b → (n : Records) → Merges m n a b →
      Turns m n (suc h) ((a, xs) ∷ (b, ys) ∷ []) ((a, xs ++ ys) ∷ [])
  turns-merge can n merges =
      let p = pair-of h a b xs ys d in let cs = xs ++ ys in let last = refilled m a (row (tops h cs)) in
      let fill = subst (CanFill m a) kids-both (fill-whole m a b can merges.few) in
      subst (λ z. Turns m z (suc h) ((a, xs) ∷ (b, ys) ∷ []) ((a, cs) ∷ []))
      (sym (merges.same ∙ ap (λ ds. refilled m a (row ds)) kids-both)) (record {
        holds = (built m h a cs fill held-both (p.off_left, p.apart), tt);
        line = append-nil (lines_of h cs) ∙ sym (two-lines h a b xs ys);
        distinct = subst Distinct (sym (append-nil (a ∷ names_of h cs))) (p.off_left, p.apart);
        within = λ q s. elim (of-one q (a ∷ names_of h cs) s) [ inl e ↦ inl e | inr c ↦ two-below h a b xs ys q c ];
        other = λ q off. refilled-other m a (tops h cs) q (λ e. off (inl e)) (λ s.
            off (two-below h a b xs ys q (tops-among h cs q s)));
      })

  pub turns-share : CanEven m a b → (n : Records) → (shares : Shares m n a b) →
      Turns m n (suc h) ((a, xs) ∷ (b, ys) ∷ []) ((a, take shares.half (xs ++ ys)) ∷ (b, drop shares.half (xs ++ ys))
      ∷ [])
  turns-share can n shares =
      let p = pair-of h a b xs ys d in let cs = xs ++ ys in let half = shares.half in
      let front = take half cs in let back = drop half cs in let parts = take-append-drop half cs in
      let q2 : Pair h a b front back = record {
        two = p.two;
        off_left = λ s. p.off_left (subst (λ zs. Among a (names_of h zs)) parts s);
        off_right = λ s. p.off_right (subst (λ zs. Among b (names_of h zs)) parts s);
        apart = subst (λ zs. Distinct (names_of h zs)) (sym parts) p.apart;
      } in
      let mid = refilled m a (row (tops h front)) in let last = refilled mid b (row (tops h back)) in
      let e1 : take half (kids m a ++ kids m b) ≡ tops h front = ap (take half) kids-both
      ∙ take-map (λ (t : Tree h). t.0) half cs in
      let e2 : drop half (kids m a ++ kids m b) ≡ tops h back = ap (drop half) kids-both
      ∙ drop-map (λ (t : Tree h). t.0) half cs in
      let can1 : CanFill m a (tops h front) = subst (CanFill m a) e1 (fill-front m a b can half shares.parts.high) in
      let can2 : CanFill mid b (tops h back) = subst (λ zs. CanFill (refilled m a (row zs)) b (tops h back)) e1
      (subst (CanFill (refilled m a (row (take half (kids m a ++ kids m b)))) b) e2
      (fill-back m a b can half shares.parts.rest_high)) in
      let held = subst (AllByRecursion (Holds m h)) (sym parts) held-both in
      let split = subst Distinct (names-append h front back) q2.apart in
      let cross = distinct-apart (names_of h front) (names_of h back) split in
      let a_front : Among a (names_of h front) → ⊥ = λ s. q2.off_left (in-left h front back a s) in
      let a_back : Among a (names_of h back) → ⊥ = λ s. q2.off_left (in-right h front back a s) in
      let b_front : Among b (names_of h front) → ⊥ = λ s. q2.off_right (in-left h front back b s) in
      let b_back : Among b (names_of h back) → ⊥ = λ s. q2.off_right (in-right h front back b s) in
      let first : Holds mid (suc h) (a, front) = built m h a front can1 (all-left (Holds m h) front back held) (
        a_front,
        distinct-left (names_of h front) (names_of h back) split,
      ) in
      let back_mid = all-same m mid h back (all-right (Holds m h) front back held) (λ q s.
      refilled-other m a (tops h front) q (λ e. a_back (subst (λ z. Among z (names_of h back)) e s)) (λ t.
      cross q (tops-among h front q t) s)) in
      let second : Holds last (suc h) (b, back) = built mid h b back can2 back_mid (
        b_back,
        distinct-right (names_of h front) (names_of h back) split,
      ) in
      let first_last : Holds last (suc h) (a, front) = holds-same mid last (suc h) (a, front) first (λ q s. elim s [
        | inl e ↦ refilled-other mid b (tops h back) q (λ f. p.two (sym e ∙ f)) (λ t.
            a_back (tops-among h back a (subst (λ z. Among z (tops h back)) e t)))
        | inr c ↦ refilled-other mid b (tops h back) q (λ f. b_front (subst (λ z. Among z (names_of h front)) f c))
            (λ t. cross q c (tops-among h back q t))
      ]) in
      let below : (q : NodePtr) → Among q (names_of h (front ++ back)) →
      Among q (names_of h cs) = λ q s. subst (λ zs. Among q (names_of h zs)) parts s in
      subst (λ z. Turns m z (suc h) ((a, xs) ∷ (b, ys) ∷ []) ((a, front) ∷ (b, back) ∷ []))
      (sym (shares.same ∙ ap (λ zs. refilled (refilled m a (row zs)) b (row (drop half (kids m a ++ kids m b)))) e1
      ∙ ap (λ zs. refilled mid b (row zs)) e2)) (record {
        holds = (first_last, (second, tt));
        line = two-lines h a b front back ∙ ap (lines_of h) parts ∙ sym (two-lines h a b xs ys);
        distinct = two-distinct h a b front back q2;
        within = λ q s. elim (two-cases h a b front back q s) [
          | inl e ↦ inl e
          | inr c ↦ elim c [
            | inl e ↦ subst (λ z. Among z (names_of (suc h) ((a, xs) ∷ (b, ys) ∷ []))) (sym e)
                (two-right h a b xs ys)
            | inr f ↦ two-below h a b xs ys q (below q f)
          ]
        ];
        other = λ q off.
            let not_a : q ≢ a = λ e. off (inl e) in let not_b : q
            ≢ b = λ e. off (subst (λ z. Among z (names_of (suc h) ((a, xs) ∷ (b, ys) ∷ []))) (sym e)
            (two-right h a b xs ys)) in
            refilled-other mid b (tops h back) q not_b (λ s.
            off (two-below h a b xs ys q (below q (in-right h front back q (tops-among h back q s)))))
            ∙ refilled-other m a (tops h front) q not_a (λ s.
            off (two-below h a b xs ys q (below q (in-left h front back q (tops-among h front q s)))));
      })

  pub share-inside : (half : ℕ) (q : NodePtr) → Among q (names_of (suc h) ((a, xs) ∷ (b, ys) ∷ [])) →
      Among q (names_of (suc h) ((a, take half (xs ++ ys)) ∷ (b, drop half (xs ++ ys)) ∷ []))
  share-inside half q s = let front = take half (xs ++ ys) in let back = drop half (xs ++ ys) in
      elim (two-cases h a b xs ys q s) [
        | inl e ↦ inl e
        | inr c ↦ elim c [
          | inl e ↦ subst (λ z. Among z (names_of (suc h) ((a, front) ∷ (b, back) ∷ []))) (sym e)
              (two-right h a b front back)
          | inr f ↦ two-below h a b front back q
              (subst (λ zs. Among q (names_of h zs)) (sym (take-append-drop half (xs ++ ys))) f)
        ]
      ]

  pub merge-inside : (q : NodePtr) → Among q (names_of (suc h) ((a, xs) ∷ (b, ys) ∷ [])) →
      Among q (names_of (suc h) ((a, xs ++ ys) ∷ [])) ⊎ (q ≡ b)
  merge-inside q s = elim (two-cases h a b xs ys q s) [
    | inl e ↦ inl (inl e)
    | inr c ↦ elim c [ inl e ↦ inr e | inr f ↦ inl (inr (to-one q (names_of h (xs ++ ys)) f)) ]
  ]
