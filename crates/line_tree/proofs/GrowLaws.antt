-- Trees with one more line.
use Rattle.line_tree.proofs.Common.{◌≡◌, ℕ, zero, suc, ◌+◌, ◌≤◌, ◌⊎◌, inl, inr, List, [], ◌∷◌, ◌++◌, length, take, drop}
use Rattle.line_tree.proofs.Common.{refl, sym, ap, ◌∙◌, subst, arith, append_assoc, ◌≢◌, IsSome, Option, None, Some}
use Rattle.line_tree.proofs.Common.{AllByRecursion, insert, append-nil, drop-append-le, take-append-drop}
use Rattle.line_tree.proofs.Common.{take-append-le, flat_map-append, none-some, Among, Distinct, Holds, LineContent}
use Rattle.line_tree.proofs.Common.{NodePtr, Records, Tree, lines, names, tops, some_of, Grows, lines_of, names_of}
use Rattle.line_tree.proofs.Common.{with_line}
use mathlib.Core.Bool.{false≢true}
use Rattle.line_tree.proofs.AmongLaws.{among-cases, among-left, among-right}
use Rattle.line_tree.proofs.DistinctLaws.{distinct-apart, distinct-more, distinct-replace, distinct-right}
use Rattle.line_tree.proofs.FrameLaws.{all-same, names-all-held, tops-among}
use Rattle.std.specs.FinMap as finite

-- ---- all of several lists
pub all-append : {X : Type 0} (P : X → Type 0) (xs ys : List X) → AllByRecursion P xs → AllByRecursion P ys →
    AllByRecursion P (xs ++ ys)
all-append P [] ys a b = b
all-append P (x ∷ xs) ys a b = (a.0, all-append P xs ys a.1 b)

pub all-left : {X : Type 0} (P : X → Type 0) (xs ys : List X) → AllByRecursion P (xs ++ ys) → AllByRecursion P xs
all-left P [] ys a = tt
all-left P (x ∷ xs) ys a = (a.0, all-left P xs ys a.1)

pub all-right : {X : Type 0} (P : X → Type 0) (xs ys : List X) → AllByRecursion P (xs ++ ys) → AllByRecursion P ys
all-right P [] ys a = a
all-right P (x ∷ xs) ys a = all-right P xs ys a.1

-- ---- lines in the middle
pub edit-middle : {X : Type 0} (xs cs ys es : List X) (r k : ℕ) → k ≡ length xs + r → r ≤ length cs
    → take k (xs ++ (cs ++ ys)) ++ (es ++ drop k (xs ++ (cs ++ ys))) ≡ xs ++ ((take r cs ++ (es ++ drop r cs)) ++ ys)
edit-middle [] cs ys es r k e h = let f : k ≡ r = omega arith in
    ap (λ j. take j (cs ++ ys) ++ (es ++ drop j (cs ++ ys))) f
    ∙ (λ i. take-append-le r cs ys h i ++ (es ++ drop-append-le r cs ys h i))
    ∙ ap (λ zs. take r cs ++ zs) (sym (append_assoc es (drop r cs) ys))
    ∙ sym (append_assoc (take r cs) (es ++ drop r cs) ys)
edit-middle (x ∷ xs) cs ys es r zero e h = absurd (omega arith)
edit-middle (x ∷ xs) cs ys es r (suc k) e h = ap (λ zs. x ∷ zs) (edit-middle xs cs ys es r k (omega arith) h)

-- ---- names of several trees
pub names-append : (h : ℕ) (ts us : List (Tree h)) → names_of h (ts ++ us) ≡ names_of h ts ++ names_of h us
names-append h ts us = flat_map-append (names h) ts us

pub in-left : (h : ℕ) (ts us : List (Tree h)) (q : NodePtr) → Among q (names_of h ts) → Among q (names_of h (ts ++ us))
in-left h ts us q a = subst (Among q) (sym (names-append h ts us)) (among-left q (names_of h ts) (names_of h us) a)

pub in-right : (h : ℕ) (ts us : List (Tree h)) (q : NodePtr) → Among q (names_of h us) → Among q (names_of h (ts ++ us))
in-right h ts us q a = subst (Among q) (sym (names-append h ts us)) (among-right q (names_of h ts) (names_of h us) a)

pub in-cases : (h : ℕ) (ts us : List (Tree h)) (q : NodePtr) → Among q (names_of h (ts ++ us)) →
    Among q (names_of h ts) ⊎ Among q (names_of h us)
in-cases h ts us q a = among-cases q (names_of h ts) (names_of h us) (subst (Among q) (names-append h ts us) a)

pub of-one : (q : NodePtr) (xs : List NodePtr) → Among q (xs ++ []) → Among q xs
of-one q xs a = subst (Among q) (append-nil xs) a

pub to-one : (q : NodePtr) (xs : List NodePtr) → Among q xs → Among q (xs ++ [])
to-one q xs a = subst (Among q) (sym (append-nil xs)) a

pub unnamed : (m : Records) (q : NodePtr) → IsSome (finite.get m q) → finite.get m q ≡ None → ⊥
unnamed m q s e = let r = some_of (finite.get m q) s in none-some r.0 (sym e ∙ r.1)

-- ---- a line among lines
pub take-lines : (m : Records) (ts : List (Tree 0)) (k : ℕ) → AllByRecursion (Holds m 0) ts →
    take k (lines_of 0 ts) ≡ lines_of 0 (take k ts)
take-lines m ts zero all = refl
take-lines m [] (suc k) all = refl
take-lines m (t ∷ ts) (suc k) all = one t.1 all.0.some (take-lines m ts k all.1) where
  one : (o : Option LineContent) → IsSome o → take k (lines_of 0 ts) ≡ lines_of 0 (take k ts) →
      take (suc k) (lines zero (t.0, o) ++ lines_of 0 ts) ≡ lines zero (t.0, o) ++ lines_of 0 (take k ts)
  one None s e = absurd (false≢true s)
  one (Some l) s e = ap (λ ls. (t.0, l) ∷ ls) e

pub drop-lines : (m : Records) (ts : List (Tree 0)) (k : ℕ) → AllByRecursion (Holds m 0) ts →
    drop k (lines_of 0 ts) ≡ lines_of 0 (drop k ts)
drop-lines m ts zero all = refl
drop-lines m [] (suc k) all = refl
drop-lines m (t ∷ ts) (suc k) all = one t.1 all.0.some (drop-lines m ts k all.1) where
  one : (o : Option LineContent) → IsSome o → drop k (lines_of 0 ts) ≡ lines_of 0 (drop k ts) →
      drop (suc k) (lines zero (t.0, o) ++ lines_of 0 ts) ≡ lines_of 0 (drop k ts)
  one None s e = absurd (false≢true s)
  one (Some l) s e = e

pub grows-line : (m : Records) (ts : List (Tree 0)) (k : ℕ) (x : Tree 0) → AllByRecursion (Holds m 0) ts → Holds m 0 x →
    Distinct (names_of 0 ts) → (Among x.0 (names_of 0 ts) → ⊥) → Grows m m 0 ts k x (insert ts k x)
grows-line m ts k x all line d new =
    let parts = take-append-drop k ts in let split = ap (names_of 0) (sym parts)
    ∙ names-append 0 (take k ts) (drop k ts) in
    let whole = subst (AllByRecursion (Holds m 0)) (sym parts) all in
    record {
      holds = all-append (Holds m 0) (take k ts) (x ∷ drop k ts) (all-left (Holds m 0) (take k ts) (drop k ts) whole)
          (line, all-right (Holds m 0) (take k ts) (drop k ts) whole);
      line = flat_map-append (lines 0) (take k ts) (x ∷ drop k ts)
          ∙ sym (λ i. take-lines m ts k all i ++ (lines zero x ++ drop-lines m ts k all i));
      distinct = subst Distinct (sym (names-append 0 (take k ts) (x ∷ drop k ts)))
          (distinct-more (names_of 0 (take k ts)) (x.0 ∷ []) (names_of 0 (drop k ts)) (subst Distinct split d)
          ((λ a. a), tt)
          (λ q a b.
          elim a [
            | inl e ↦ new (subst (λ xs. Among x.0 xs) (sym split)
                (subst (λ z. Among z (names_of 0 (take k ts) ++ names_of 0 (drop k ts))) e b))
            | inr c ↦ c
          ]));
      within = λ q a. elim (in-cases 0 (take k ts) (x ∷ drop k ts) q a) [
        | inl b ↦ inl (subst (λ zs. Among q (names_of 0 zs)) parts (in-left 0 (take k ts) (drop k ts) q b))
        | inr b ↦ elim b [
          | inl e ↦ inr (inl e)
          | inr c ↦ inl
              (subst (λ zs. Among q (names_of 0 zs)) parts (in-right 0 (take k ts) (drop k ts) q c))
        ]
      ];
      other = λ q s out n. refl;
      kept = λ q s. s;
      inside =
          λ q a. elim (in-cases 0 (take k ts) (drop k ts) q (subst (λ zs. Among q (names_of 0 zs)) (sym parts) a)) [
            | inl b ↦ in-left 0 (take k ts) (x ∷ drop k ts) q b
            | inr b ↦ in-right 0 (take k ts) (x ∷ drop k ts) q (inr b)
          ];
      added = in-right 0 (take k ts) (x ∷ drop k ts) x.0 (inl refl);
      old = λ q s out. s;
    }

-- ---- one of several trees grows
pub grows-wide : (m n : Records) (h : ℕ) (ls : List (Tree h)) (t : Tree h) (rs : List (Tree h)) (r k : ℕ) (x : Tree 0)
    (us : List (Tree h)) → Grows m n h (t ∷ []) r x us
    → AllByRecursion (Holds m h) (ls ++ (t ∷ rs)) → Distinct (names_of h (ls ++ (t ∷ rs))) →
    (Among x.0 (names_of h (ls ++ (t ∷ rs))) → ⊥) → k ≡ length (lines_of h ls) + r → r ≤ length (lines h t)
    → Grows m n h (ls ++ (t ∷ rs)) k x (ls ++ (us ++ rs))
grows-wide m n h ls t rs r k x us g all d new at fits =
    let ts = ls ++ (t ∷ rs) in let split = names-append h ls (t ∷ rs) in let apart = subst Distinct split d in
    let all_left = all-left (Holds m h) ls (t ∷ rs) all in let all_right = (all-right (Holds m h) ls (t ∷ rs) all).1 in
    let left_named = names-all-held m h ls all_left in let right_named = names-all-held m h rs all_right in
    let no_left : (q : NodePtr) → Among q (names_of h ls) → Among q (names_of h (t ∷ [])) →
    ⊥ = λ q a b. distinct-apart (names_of h ls) (names_of h (t ∷ rs)) apart q a
    (among-left q (names h t) (names_of h rs) (of-one q (names h t) b)) in
    let no_right : (q : NodePtr) → Among q (names_of h rs) → Among q (names_of h (t ∷ [])) →
    ⊥ = λ q a b. distinct-apart (names h t) (names_of h rs)
    (distinct-right (names_of h ls) (names_of h (t ∷ rs)) apart) q (of-one q (names h t) b) a in
    let new_left : (q : NodePtr) → Among q (names_of h ls) →
    q ≢ x.0 = λ q a e. new (in-left h ls (t ∷ rs) x.0 (subst (λ z. Among z (names_of h ls)) e a)) in
    let new_right : (q : NodePtr) → Among q (names_of h rs) →
    q ≢ x.0 = λ q a e.
    new (in-right h ls (t ∷ rs) x.0 (among-right x.0 (names h t) (names_of h rs)
    (subst (λ z. Among z (names_of h rs)) e a))) in
    let not_left : (q : NodePtr) → Among q (names_of h us) → Among q (names_of h ls) →
    ⊥ = λ q a b. elim (g.within q a) [
      | inl c ↦ no_left q b c
      | inr c ↦ elim c
          [ inl e ↦ new_left q b e | inr e ↦ unnamed m q (left_named q b) e ]
    ] in
    let not_right : (q : NodePtr) → Among q (names_of h us) → Among q (names_of h rs) →
    ⊥ = λ q a b. elim (g.within q a) [
      | inl c ↦ no_right q b c
      | inr c ↦ elim c
          [ inl e ↦ new_right q b e | inr e ↦ unnamed m q (right_named q b) e ]
    ] in
    record {
      holds = all-append (Holds n h) ls (us ++ rs)
          (all-same m n h ls all_left (λ q a. g.other q (left_named q a) (no_left q a) (new_left q a)))
          (all-append (Holds n h) us rs g.holds
          (all-same m n h rs all_right (λ q a. g.other q (right_named q a) (no_right q a) (new_right q a))));
      line = flat_map-append (lines h) ls (us ++ rs) ∙ ap (λ zs. lines_of h ls ++ zs) (flat_map-append (lines h) us rs)
          ∙ ap (λ zs. lines_of h ls ++ (zs ++ lines_of h rs)) (g.line
          ∙ ap (λ zs. with_line zs r x) (append-nil (lines h t)))
          ∙ sym (edit-middle (lines_of h ls) (lines h t) (lines_of h rs) (lines zero x) r k at fits)
          ∙ ap (λ zs. with_line zs k x) (sym (flat_map-append (lines h) ls (t ∷ rs)));
      distinct =
          subst Distinct (sym (names-append h ls (us ++ rs) ∙ ap (λ zs. names_of h ls ++ zs) (names-append h us rs)))
          (distinct-replace (names_of h ls) (names h t) (names_of h us) (names_of h rs) apart g.distinct not_left
          not_right);
      within = λ q a. elim (in-cases h ls (us ++ rs) q a) [
        | inl b ↦ inl (in-left h ls (t ∷ rs) q b)
        | inr b ↦ elim (in-cases h us rs q b) [
          | inl c ↦ elim (g.within q c) [
            | inl e ↦ inl (in-right h ls (t ∷ rs) q
                (among-left q (names h t) (names_of h rs) (of-one q (names h t) e)))
            | inr e ↦ inr e
          ]
          | inr c ↦ inl (in-right h ls (t ∷ rs) q (among-right q (names h t) (names_of h rs) c))
        ]
      ];
      other = λ q s out e. g.other q s (λ a.
          out (in-right h ls (t ∷ rs) q (among-left q (names h t) (names_of h rs) (of-one q (names h t) a)))) e;
      kept = g.kept;
      inside = λ q a. elim (in-cases h ls (t ∷ rs) q a) [
        | inl b ↦ in-left h ls (us ++ rs) q b
        | inr b ↦ in-right h ls (us ++ rs) q
            (elim (among-cases q (names h t) (names_of h rs) b)
            [ inl c ↦ in-left h us rs q (g.inside q (to-one q (names h t) c)) | inr c ↦ in-right h us rs q c ])
      ];
      added = in-right h ls (us ++ rs) x.0 (in-left h us rs x.0 g.added);
      old = λ q s off. g.old q s (λ a. off (in-right h ls (us ++ rs) q (in-left h us rs q a)));
    }

-- ---- the node above them
pub grows-up : (m l n : Records) (h : ℕ) (p : NodePtr) (ts : List (Tree h)) (k : ℕ) (x : Tree 0) (us : List (Tree h)) →
    Grows m l h ts k x us → IsSome (finite.get m p) → (Among p (names_of h ts) → ⊥) → p ≢ x.0
    → Holds n (suc h) (p, us) → ((q : NodePtr) → q ≢ p → (Among q (tops h us) → ⊥) → finite.get n q ≡ finite.get l q) →
    ((q : NodePtr) → IsSome (finite.get l q) → IsSome (finite.get n q))
    → ((q : NodePtr) → IsSome (finite.get n q) → IsSome (finite.get l q)) →
    Grows m n (suc h) ((p, ts) ∷ []) k x ((p, us) ∷ [])
grows-up m l n h p ts k x us g named out other_name holds same kept old =
    let p_out : Among p (names_of h us) → ⊥ = λ a.
    elim (g.within p a) [ inl b ↦ out b | inr b ↦ elim b [ inl e ↦ other_name e | inr e ↦ unnamed m p named e ] ] in
    record {
      holds = (holds, tt);
      line = append-nil (lines_of h us) ∙ g.line ∙ ap (λ ls. with_line ls k x) (sym (append-nil (lines_of h ts)));
      distinct = subst Distinct (sym (append-nil (p ∷ names_of h us))) (p_out, g.distinct);
      within = λ q a. elim (of-one q (p ∷ names_of h us) a) [
        | inl e ↦ inl (to-one q (p ∷ names_of h ts) (inl e))
        | inr b ↦ elim (g.within q b) [ inl c ↦ inl (to-one q (p ∷ names_of h ts) (inr c)) | inr c ↦ inr c ]
      ];
      other = λ q s no e.
          let not_p : q ≢ p = λ f. no (to-one q (p ∷ names_of h ts) (inl f)) in let not_ts : Among q (names_of h ts) →
          ⊥ = λ a. no (to-one q (p ∷ names_of h ts) (inr a)) in
          same q not_p (λ a. elim (g.within q (tops-among h us q a))
          [ inl c ↦ not_ts c | inr c ↦ elim c [ inl f ↦ e f | inr f ↦ unnamed m q s f ] ]) ∙ g.other q s not_ts e;
      kept = λ q s. kept q (g.kept q s);
      inside = λ q a. to-one q (p ∷ names_of h us)
          (elim (of-one q (p ∷ names_of h ts) a) [ inl e ↦ inl e | inr b ↦ inr (g.inside q b) ]);
      added = to-one x.0 (p ∷ names_of h us) (inr g.added);
      old = λ q s off. g.old q (old q s) (λ a. off (to-one q (p ∷ names_of h us) (inr a)));
    }
