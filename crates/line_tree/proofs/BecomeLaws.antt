-- Trees in the place of records.
use Rattle.line_tree.proofs.Common.{◌≡◌, ℕ, suc, ◌≤◌, inl, inr, List, [], ◌∷◌, ◌++◌, length, refl, sym, ap, ◌∙◌, subst}
use Rattle.line_tree.proofs.Common.{◌≢◌, IsSome, Option, None, Some, AllByRecursion, append-nil, Among, Distinct}
use Rattle.line_tree.proofs.Common.{FitsSum, relinked, sum_all, sums, Holds, tree_at, LineContent, NodePtr, Records}
use Rattle.line_tree.proofs.Common.{blank, with_sum, Tree, tops, row, get_inserted, get_other, get_unmoved}
use Rattle.line_tree.proofs.Common.{insert-named, remove-named, HasNoParent, NewLine, NewRoot, names_of, Becomes}
use Rattle.line_tree.proofs.AmongLaws.{among-cases, among-left, among-right}
use Rattle.line_tree.proofs.BuildLaws.{built}
use Rattle.line_tree.proofs.DistinctLaws.{distinct-append, distinct-apart, distinct-left, distinct-right}
use Rattle.line_tree.proofs.FillLaws.{at-update, refilled-other, relinked-row}
use Rattle.line_tree.proofs.FrameLaws.{all-same, names-all-held, tops-among}
use Rattle.line_tree.proofs.GrowLaws.{all-append, all-left, all-right, in-cases, in-left, in-right, names-append}
use Rattle.line_tree.proofs.GrowLaws.{of-one, to-one, unnamed}
use Rattle.line_tree.proofs.RootLaws.{can-top, new-line, new-named, new-other}
use Rattle.line_tree.proofs.UpdateLaws.{refilled-named}
use Rattle.std.specs.FinMap as finite

pub absent : {X : Type 0} (o : Option X) → (IsSome o → ⊥) → o ≡ None
absent None out = refl
absent (Some y) out = absurd (out refl)

-- ---- trees that stay
pub stays : (m : Records) (h : ℕ) (ts : List (Tree h)) → AllByRecursion (Holds m h) ts → Distinct (names_of h ts) →
    Becomes m m (names_of h ts) h ts
stays m h ts all d = record {
  holds = all;
  distinct = d;
  within = λ q a out. absurd (out a);
  other = λ q s out. refl;
  old = λ q s out. (s, out);
}

-- ---- the same names in another list
pub renamed : (m n : Records) (ps qs : List NodePtr) (h : ℕ) (us : List (Tree h)) → Becomes m n ps h us →
    ((q : NodePtr) → Among q ps → Among q qs) → ((q : NodePtr) → Among q qs → Among q ps) → Becomes m n qs h us
renamed m n ps qs h us b to from = record {
  holds = b.holds;
  distinct = b.distinct;
  within = λ q a out. b.within q a (λ c. out (to q c));
  other = λ q s out. b.other q s (λ c. out (to q c));
  old = λ q s out. let d = b.old q s out in (d.0, λ c. d.1 (from q c));
}

-- ---- side by side
pub both : (m l n : Records) (ps qs : List NodePtr) (h : ℕ) (us vs : List (Tree h)) → Becomes m l ps h us →
    Becomes l n qs h vs → ((q : NodePtr) → Among q qs → Among q ps → ⊥)
    → ((q : NodePtr) → Among q qs → IsSome (finite.get m q)) → Becomes m n (ps ++ qs) h (us ++ vs)
both m l n ps qs h us vs a b apart named =
    let us_named = names-all-held l h us a.holds in
    let us_off : (q : NodePtr) → Among q (names_of h us) → Among q qs →
    ⊥ = λ q c d. unnamed m q (named q d) (a.within q c (λ e. apart q d e)) in
    let vs_off : (q : NodePtr) → Among q (names_of h vs) → Among q (names_of h us) →
    ⊥ = λ q c d. unnamed l q (us_named q d) (b.within q c (λ e. us_off q d e)) in
    record {
      holds = all-append (Holds n h) us vs
          (all-same l n h us a.holds (λ q c. b.other q (us_named q c) (us_off q c))) b.holds;
      distinct = subst Distinct (sym (names-append h us vs))
          (distinct-append (names_of h us) (names_of h vs) a.distinct b.distinct (λ q c d. vs_off q d c));
      within = λ q c out.
          let off_ps : Among q ps → ⊥ = λ d. out (among-left q ps qs d) in
          let off_qs : Among q qs → ⊥ = λ d. out (among-right q ps qs d) in
          elim (in-cases h us vs q c) [
            | inl d ↦ a.within q d off_ps
            | inr d ↦ absent (finite.get m q) (λ s.
                unnamed l q (subst (λ o. IsSome o) (sym (a.other q s off_ps)) s) (b.within q d off_qs))
          ];
      other = λ q s out. let e = a.other q s (λ d. out (among-left q ps qs d)) in
          b.other q (subst (λ o. IsSome o) (sym e) s) (λ d. out (among-right q ps qs d)) ∙ e;
      old = λ q s out. let d = b.old q s (λ c. out (in-right h us vs q c)) in
          let e = a.old q d.0 (λ c. out (in-left h us vs q c)) in (
            e.0,
            λ c. elim (among-cases q ps qs c) [ inl f ↦ e.1 f | inr f ↦ d.1 f ],
          );
    }

-- in another order
pub swapped : (m n : Records) (ps : List NodePtr) (h : ℕ) (us vs : List (Tree h)) → Becomes m n ps h (us ++ vs) →
    Becomes m n ps h (vs ++ us)
swapped m n ps h us vs b =
    let d = subst Distinct (names-append h us vs) b.distinct in
    let flip : (q : NodePtr) → Among q (names_of h (vs ++ us)) → Among q (names_of h (us ++ vs)) = λ q a.
    elim (in-cases h vs us q a) [ inl c ↦ in-right h us vs q c | inr c ↦ in-left h us vs q c ] in
    let back : (q : NodePtr) → Among q (names_of h (us ++ vs)) → Among q (names_of h (vs ++ us)) = λ q a.
    elim (in-cases h us vs q a) [ inl c ↦ in-right h vs us q c | inr c ↦ in-left h vs us q c ] in
    record {
      holds = all-append (Holds n h) vs us (all-right (Holds n h) us vs b.holds) (all-left (Holds n h) us vs b.holds);
      distinct = subst Distinct (sym (names-append h vs us))
          (distinct-append (names_of h vs) (names_of h us) (distinct-right (names_of h us) (names_of h vs) d)
          (distinct-left (names_of h us) (names_of h vs) d)
          (λ q c e. distinct-apart (names_of h us) (names_of h vs) d q e c));
      within = λ q a out. b.within q (flip q a) out;
      other = b.other;
      old = λ q s out. b.old q s (λ a. out (back q a));
    }

-- ---- one after the other
pub and-then : (m l n : Records) (ps : List NodePtr) (h j : ℕ) (us : List (Tree h)) (vs : List (Tree j)) →
    Becomes m l ps h us → Becomes l n (names_of h us) j vs → Becomes m n ps j vs
and-then m l n ps h j us vs a b = record {
  holds = b.holds;
  distinct = b.distinct;
  within = λ q c out. absent (finite.get m q) (λ s.
      unnamed l q (subst (λ o. IsSome o) (sym (a.other q s out)) s) (b.within q c (λ d.
      unnamed m q s (a.within q d out))));
  other = λ q s out. let e = a.other q s out in
      b.other q (subst (λ o. IsSome o) (sym e) s) (λ d. unnamed m q s (a.within q d out)) ∙ e;
  old = λ q s out. let d = b.old q s out in a.old q d.0 d.1;
}

-- ---- a record goes
pub gone : (m l : Records) (p : NodePtr) (ps : List NodePtr) (h : ℕ) (us : List (Tree h)) → Becomes m l ps h us →
    IsSome (finite.get m p) → (Among p ps → ⊥) → Becomes m (finite.remove l p) (p ∷ ps) h us
gone m l p ps h us a named out_ps =
    let p_out : Among p (names_of h us) → ⊥ = λ c. unnamed m p named (a.within p c out_ps) in
    record {
      holds = all-same l (finite.remove l p) h us a.holds (λ q c.
          get_unmoved l p q (λ e. p_out (subst (λ z. Among z (names_of h us)) e c)));
      distinct = a.distinct;
      within = λ q c out. a.within q c (λ d. out (inr d));
      other = λ q s out. get_unmoved l p q (λ e. out (inl e)) ∙ a.other q s (λ d. out (inr d));
      old = λ q s out. let r = remove-named l p q s in let d = a.old q r.1 out in (
        d.0,
        λ c. elim c [ inl e ↦ r.0 e | inr f ↦ d.1 f ],
      );
    }

-- ---- a new line
pub new-becomes : (m n : Records) (x : NodePtr) (l : LineContent) → NewLine m n x l →
    Becomes m n [] 0 (tree_at n 0 x ∷ [])
new-becomes m n x l new = record {
  holds = (new-line m n x l new, tt);
  distinct = ((λ a. a), tt);
  within = λ q a out. elim a [ inl e ↦ ap (finite.get m) e ∙ new.fresh | inr b ↦ absurd b ];
  other = λ q s out. new-other m n x l new q s;
  old = λ q s out. elim (new-named m n x l new q s) [ inl e ↦ absurd (out (inl e)) | inr b ↦ (b, λ c. c) ];
}

-- ---- a new node
module _ (m n : Records) (h : ℕ) (a : NodePtr) (ts : List (Tree h)) (new : NewRoot m n a (tops h ts))
    (all : AllByRecursion (Holds m h) ts) (d : Distinct (names_of h ts)) (few : length (tops h ts) ≤ 12)
    (fits : FitsSum (sum_all m (tops h ts))) where
  ts-named : (q : NodePtr) → Among q (names_of h ts) → IsSome (finite.get m q)
  ts-named = names-all-held m h ts all

  tops-named : (q : NodePtr) → Among q (tops h ts) → IsSome (finite.get m q)
  tops-named q b = ts-named q (tops-among h ts q b)

  not-new : (q : NodePtr) → IsSome (finite.get m q) → q ≢ a
  not-new q s e = unnamed m q s (ap (finite.get m) e ∙ new.fresh)

  new-out : Among a (names_of h ts) → ⊥
  new-out b = not-new a (ts-named a b) refl

  pub node-becomes : Becomes m n (names_of h ts) (suc h) ((a, ts) ∷ [])
  node-becomes =
      let made = finite.insert m a (blank None) in
      let can = can-top m a (tops h ts) new.fresh few tops-named fits in
      let all_made = all-same m made h ts all (λ q b. get_other m a (blank None) q (not-new q (ts-named q b))) in
      record {
        holds = (
          subst (λ z. Holds z (suc h) (a, ts)) (sym new.same) (built made h a ts can all_made (new-out, d)),
          tt,
        );
        distinct = subst Distinct (sym (append-nil (a ∷ names_of h ts))) (new-out, d);
        within = λ q b out. elim (of-one q (a ∷ names_of h ts) b) [
          | inl e ↦ ap (finite.get m) e ∙ new.fresh
          | inr c ↦ absurd (out c)
        ];
        other = λ q s out. ap (λ z. finite.get z q) new.same
            ∙ refilled-other made a (tops h ts) q (not-new q s) (λ b. out (tops-among h ts q b))
            ∙ get_other m a (blank None) q (not-new q s);
        old = λ q s out. elim (insert-named m a (blank None) q
            (refilled-named made a (row (tops h ts)) q (subst (λ z. IsSome (finite.get z q)) new.same s))) [
              | inl e ↦ absurd (out (to-one q (a ∷ names_of h ts) (inl e)))
              | inr b ↦ (b, λ c. out (to-one q (a ∷ names_of h ts) (inr c)))
            ];
      }

  pub node-loose : HasNoParent n a
  node-loose =
      let made = finite.insert m a (blank None) in let cs = tops h ts in
      let links = relinked made a 0 (row cs) in let sum = sums links (row cs) in
      let at = at-update links a (λ y. with_sum y sum) (record (blank None) { children = row cs })
      (relinked-row made a cs (blank None) (get_inserted m a (blank None)) refl few (λ b.
      new-out (tops-among h ts a b))) in
      record {
        found = with_sum (record (blank None) { children = row cs }) sum;
        is = ap (λ z. finite.get z a) new.same ∙ at;
        parent = refl;
      }
