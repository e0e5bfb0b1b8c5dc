-- Lines put in one after the other, and taken out.
use Rattle.line_tree.proofs.Common.{◌≡◌, ℕ, zero, suc, ◌+◌, ◌-◌, ◌^◌, ◌<◌, ◌≤◌, List, [], ◌∷◌, ◌++◌, length, map, take}
use Rattle.line_tree.proofs.Common.{drop, min, inl, inr, refl, sym, ap, ◌∙◌, subst, arith, append_assoc, length-append}
use Rattle.line_tree.proofs.Common.{slice_get, Option, Some, insert, remove, cases_lt, drop-append-add}
use Rattle.line_tree.proofs.Common.{take-append_seam, append-nil, drop-drop, length-map, length-take-le, map-append}
use Rattle.line_tree.proofs.Common.{take-append-drop, take-append-le, take-take, insert-append_left, insert_end}
use Rattle.line_tree.proofs.Common.{remove-append_right, no_text-plus, Count, no_text, plus, FitsSum, LineContent}
use Rattle.line_tree.proofs.Common.{line_count, Named, total, NodePtr, count_of, count-append, count-lines, option_map}
use Rattle.line_tree.proofs.Common.{IsLineAt, PutsRoom, changed, TreeState, length-drop}
use Rattle.line_tree.proofs.ChangingLaws.{changed-at}
use Rattle.line_tree.proofs.PlaceLaws.{named_line}
use Rattle.line_tree.proofs.SumLaws.{total-append}
use Rattle.line_tree.proofs.TreeLaws.{total-lines}
use Rattle.line_tree.proofs.PrefixLaws.{count-contents}

-- these stand in the lines from number k on, with names, where so many went
pub record StandsIn (old : List Named) (k went : ℕ) (contents : List LineContent) (now : List Named) : Type 0 where
  pub added : List Named
  pub contents_of : map (λ l. l.1) added ≡ contents
  pub is : now ≡ take k old ++ added ++ drop (k + went) old

pub none-in : (old : List Named) (k gone : ℕ) → StandsIn old k (min gone 0) [] old
none-in old k gone = let none : k + min gone 0 ≡ k = omega arith in record {
  added = [];
  contents_of = refl;
  is = sym (ap (λ n. (take k old ++ []) ++ drop n old) none
      ∙ ap (λ ls. ls ++ drop k old) (append-nil (take k old)) ∙ take-append-drop k old);
}

pub in-length : (old now : List Named) (k went : ℕ) (cs : List LineContent) → k + went ≤ length old →
    StandsIn old k went cs now → length now + went ≡ length old + length cs
in-length old now k went cs within s =
    let a = ap length s.is in let b = length-append (take k old ++ s.added) (drop (k + went) old) in
    let c = length-append (take k old) s.added in
    let d = length-take-le k old (omega arith) in let e = length-drop (k + went) old in
    let f = ap length s.contents_of in let h = length-map s.added (λ l. l.1) in omega arith

one-more : (added : List Named) (cs : List LineContent) (l : Named) →
    map (λ (n : Named). n.1) added ≡ cs → map (λ (n : Named). n.1) (added ++ l ∷ []) ≡ cs ++ l.1 ∷ []
one-more added cs l is = map-append (λ (n : Named). n.1) added (l ∷ []) ∙ ap (λ ls. ls ++ l.1 ∷ []) is

-- where the next one is put in
put-place : (old : List Named) (k at : ℕ) (added : List Named) (cs : List LineContent) → k ≤ length old →
    map (λ (n : Named). n.1) added ≡ cs → at ≡ k + length cs → at ≡ length (take k old ++ added)
put-place old k at added cs within is place =
    let a = length-append (take k old) added in let b = length-take-le k old within in
    let f = ap length is in let h = length-map added (λ l. l.1) in omega arith

pub went-within : (long k gone : ℕ) (cs : List LineContent) → k + gone ≤ long → k + min gone (length cs) ≤ long
went-within long k gone cs within = omega (arith, within)

-- the next one is put in
more-in : (old now after : List Named) (k went at : ℕ) (cs : List LineContent) (p : NodePtr) (c : LineContent) →
    k ≤ length old → StandsIn old k went cs now → at ≡ k + length cs → after ≡ insert now at (p, c) →
    StandsIn old k went (cs ++ c ∷ []) after
more-in old now after k went at cs p c within s place is =
    let front = take k old ++ s.added in let back = drop (k + went) old in
    let e = put-place old k at s.added cs within s.contents_of place in
    let low : length front ≤ length front = omega arith in
    record {
      added = s.added ++ (p, c) ∷ [];
      contents_of = one-more s.added cs (p, c) s.contents_of;
      is =
          is ∙ ap (λ ls. insert ls at (p, c)) s.is ∙ ap (λ i. insert (front ++ back) i (p, c)) e
          ∙ insert-append_left front back (length front) (p, c) low
          ∙ ap (λ ls. ls ++ back) (insert_end front (p, c) ∙ append_assoc (take k old) s.added ((p, c) ∷ []));
    }

-- the next one has the place of an old one
first-over : (ls : List Named) (n : ℕ) (c : LineContent) → n < length ls →
    (p : NodePtr) × (changed 0 (λ _. c) (drop n ls) ≡ (p, c) ∷ drop (suc n) ls)
first-over [] n c h = absurd (omega arith)
first-over (l ∷ ls) zero c h = (l.0, refl)
first-over (l ∷ ls) (suc n) c h = first-over ls n c (omega arith)

changed-behind : (xs ys : List Named) (c : LineContent) → changed (length xs) (λ _. c) (xs ++ ys)
    ≡ xs ++ changed 0 (λ _. c) ys
changed-behind [] ys c = refl
changed-behind (x ∷ xs) ys c = ap (λ zs. x ∷ zs) (changed-behind xs ys c)

over-in : (old now after : List Named) (k went at : ℕ) (cs : List LineContent) (c : LineContent) →
    k + went < length old → StandsIn old k went cs now → at ≡ k + length cs → after ≡ changed at (λ _. c) now →
    StandsIn old k (suc went) (cs ++ c ∷ []) after
over-in old now after k went at cs c within s place is =
    let front = take k old ++ s.added in let back = drop (k + went) old in
    let e = put-place old k at s.added cs (omega arith) s.contents_of place in
    let o = first-over old (k + went) c within in let next : suc (k + went) ≡ k + suc went = omega arith in
    record {
      added = s.added ++ (o.0, c) ∷ [];
      contents_of = one-more s.added cs (o.0, c) s.contents_of;
      is =
          is ∙ ap (changed at (λ _. c)) s.is ∙ ap (λ i. changed i (λ _. c) (front ++ back)) e
          ∙ changed-behind front back c ∙ ap (λ ls. front ++ ls) (o.1 ∙ ap (λ n. (o.0, c) ∷ drop n old) next)
          ∙ sym (append_assoc front ((o.0, c) ∷ []) (drop (k + suc went) old))
          ∙ ap (λ ls. ls ++ drop (k + suc went) old) (append_assoc (take k old) s.added ((o.0, c) ∷ []));
    }

-- the one or the other
pub next-in : (old now after : List Named) (k gone at : ℕ) (cs : List LineContent) (c : LineContent) →
    k + gone ≤ length old → StandsIn old k (min gone (length cs)) cs now → at ≡ k + length cs →
    (at < k + gone → after ≡ changed at (λ _. c) now) →
    (k + gone ≤ at → (p : NodePtr) × (after ≡ insert now at (p, c)))
    → StandsIn old k (min gone (length (cs ++ c ∷ []))) (cs ++ c ∷ []) after
next-in old now after k gone at cs c within s place over more = let long = length-append cs (c ∷ []) in
    elim (cases_lt (length cs) gone) [
      | inr few ↦
          let m = more (omega (arith, few, place)) in
          let e : min gone (length cs) ≡ min gone (length (cs ++ c ∷ [])) = omega (arith, few, long) in
          subst (λ w. StandsIn old k w (cs ++ c ∷ []) after) e
          (more-in old now after k (min gone (length cs)) at cs m.0 c (omega (arith, within)) s place m.1)
      | inl many ↦
          let e : suc (min gone (length cs)) ≡ min gone (length (cs ++ c ∷ [])) = omega (arith, many, long) in
          subst (λ w. StandsIn old k w (cs ++ c ∷ []) after) e
          (over-in old now after k (min gone (length cs)) at cs c (omega (arith, many, within)) s place
          (over (omega (arith, many, place))))
    ]

-- ---- what is counted of them
in-total : (old now : List Named) (k went : ℕ) (cs : List LineContent) → StandsIn old k went cs now →
    (f : Count → ℕ) → ((a b : Count) → f (plus a b) ≡ f a + f b) → f (total now) ≤ f (total old) + f (count_of cs)
in-total old now k went cs s f adds =
    let back = drop (k + went) old in
    let a = ap (λ ls. f (total ls)) s.is in let b = ap f (total-append (take k old ++ s.added) back) in
    let c = ap f (total-append (take k old) s.added) in
    let d = ap (λ ls. f (total ls)) (take-append-drop k old) in let e = ap f (total-append (take k old) (drop k old)) in
    let x = ap (λ ls. f (total ls)) (take-append-drop went (drop k old)) in
    let y = ap f (total-append (take went (drop k old)) (drop went (drop k old))) in
    let z = ap (λ ls. f (total ls)) (drop-drop went k old) in
    let g = ap f (sym (count-contents s.added) ∙ ap count_of s.contents_of) in
    let t = adds (total (take went (drop k old))) (total (drop went (drop k old))) in
    let u = adds (total (take k old ++ s.added)) (total back) in
    let v = adds (total (take k old)) (total s.added) in let w = adds (total (take k old)) (total (drop k old)) in
    omega arith

content-part : (cs rest : List LineContent) (c : LineContent) (f : Count → ℕ) →
    ((a b : Count) → f (plus a b) ≡ f a + f b) → f (count_of cs) + f (line_count c) ≤ f (count_of (cs ++ c ∷ rest))
content-part [] rest c f adds = let a = adds (line_count c) (count_of rest) in let b = adds no_text (line_count c) in
    let e = ap f (no_text-plus (line_count c)) in omega arith
content-part (x ∷ cs) rest c f adds = let r = content-part cs rest c f adds in
    let a = adds (line_count x) (count_of cs) in let b = adds (line_count x) (count_of (cs ++ c ∷ rest)) in omega arith

pub next-fits : (old now : List Named) (k went : ℕ) (cs rest : List LineContent) (c : LineContent) →
    StandsIn old k went cs now → FitsSum (plus (total old) (count_of (cs ++ c ∷ rest))) → FitsSum (plus (total now) (line_count c))
next-fits old now k went cs rest c s fits =
    let a = fits.lines in let b = fits.characters in let d = fits.marks in
    record {
      lines = let f : Count → ℕ = λ z. z.lines in let m = in-total old now k went cs s f (λ u v. refl) in
          let p = content-part cs rest c f (λ u v. refl) in omega arith;
      characters = let f : Count → ℕ = λ z. z.characters in let m = in-total old now k went cs s f (λ u v. refl) in
          let p = content-part cs rest c f (λ u v. refl) in omega arith;
      marks = let f : Count → ℕ = λ z. z.marks in let m = in-total old now k went cs s f (λ u v. refl) in
          let p = content-part cs rest c f (λ u v. refl) in omega arith;
    }

-- fewer than 64 bits count
pub few-lines : (old : List Named) (cs : List LineContent) → FitsSum (plus (total old) (count_of cs)) →
    length old + length cs < 2 ^ 64
few-lines old cs fits = let a = total-lines old in let b = count-lines cs in let d = fits.lines in omega arith

-- ---- after some of them
pub record PutsIn (old : TreeState) (k gone : ℕ) (all done rest : List LineContent) (at : ℕ) (now : TreeState)
    (behind : Option NodePtr) : Type 0
  where
    pub whole : all ≡ done ++ rest
    pub place : at ≡ k + length done
    pub lines : StandsIn old.lines k (min gone (length done)) done now.lines
    pub room : PutsRoom old now (length done - gone)
    pub named : (p : NodePtr) → behind ≡ Some p → (0 < at) × IsLineAt now.lines (at - 1) p

-- ---- a line that was put in is named
inserted-at : (ls : List Named) (k : ℕ) (l : Named) → k ≤ length ls → slice_get (insert ls k l) k ≡ Some l
inserted-at ls zero l h = refl
inserted-at [] (suc k) l h = absurd (omega arith)
inserted-at (n ∷ ls) (suc k) l h = inserted-at ls k l (omega arith)

pub put-named : (old now : List Named) (k : ℕ) (p : NodePtr) (c : LineContent) → k ≤ length old →
    now ≡ insert old k (p, c) → (q : NodePtr) → Some p ≡ Some q → IsLineAt now k q
put-named old now k p c within is q same =
    ap (λ ls. option_map (λ (l : Named). l.0) (slice_get ls k)) is
    ∙ ap (option_map (λ (l : Named). l.0)) (inserted-at old k (p, c) within) ∙ same

-- and so is a changed one
pub still-named : (old now : List Named) (k : ℕ) (p q : NodePtr) (f : LineContent → LineContent) → IsLineAt old k p →
    now ≡ changed k f old → Some p ≡ Some q → IsLineAt now k q
still-named old now k p q f at is same =
    let l = named_line old k p at in
    ap (λ ls. option_map (λ (x : Named). x.0) (slice_get ls k)) is
    ∙ ap (option_map (λ (x : Named). x.0)) (changed-at old k l.0 f l.1) ∙ ap (λ x. Some x) l.2 ∙ same

-- ---- the first is taken out
first-out : (ls : List Named) (n : ℕ) → n < length ls → remove (drop n ls) 0 ≡ drop (suc n) ls
first-out [] n h = absurd (omega arith)
first-out (l ∷ ls) zero h = refl
first-out (l ∷ ls) (suc n) h = first-out ls n (omega arith)

pub next-out : (old now after : List Named) (k j : ℕ) → k + j < length old → now ≡ take k old ++ drop (k + j) old →
    after ≡ remove now k → after ≡ take k old ++ drop (k + (j + 1)) old
next-out old now after k j within is gone =
    let e : k - k ≡ 0 = omega arith in let f : suc (k + j) ≡ k + (j + 1) = omega arith in
    let low : k ≤ k = omega arith in
    gone ∙ ap (λ ls. remove ls k) is ∙ remove-append_right (take k old) (drop (k + j) old) k k
    (length-take-le k old (omega arith)) low
    ∙ ap (λ ls. take k old ++ ls) (ap (remove (drop (k + j) old)) e ∙ first-out old (k + j) within
    ∙ ap (λ n. drop n old) f)

-- ---- both
pub taken-behind : (old now : List Named) (k went rest : ℕ) (added : List Named) → k ≤ length old →
    now ≡ take k old ++ added ++ drop (k + went) old
    → take (k + length added) now ++ drop (k + length added + rest) now
    ≡ take k old ++ added ++ drop (k + (went + rest)) old
taken-behind old now k went rest added within is =
    let front = take k old ++ added in let back = drop (k + went) old in
    let a = length-append (take k old) added in let b = length-take-le k old within in
    let e : k + length added ≡ length front = omega arith in
    let all : k + went + rest ≡ k + (went + rest) = omega arith in
    ap (λ ls. take (k + length added) ls ++ drop (k + length added + rest) ls) is
    ∙ ap (λ n. take n (front ++ back) ++ drop (n + rest) (front ++ back)) e
    ∙ ap (λ ls. ls ++ drop (length front + rest) (front ++ back)) (take-append_seam front back)
    ∙ ap (λ ls. front ++ ls) (drop-append-add front back rest ∙ drop-drop rest (k + went) old
    ∙ ap (λ n. drop n old) all)

-- ---- many at once, and then those that have the places of others
-- what these and those are counted fits
parts-fit : (now : Count) (new : List LineContent) (gone : ℕ) → FitsSum (plus now (count_of new)) →
    FitsSum (plus (plus now (count_of (drop gone new))) (count_of (take gone new)))
parts-fit now new gone fits =
    let whole = ap count_of (sym (take-append-drop gone new)) ∙ count-append (take gone new) (drop gone new) in
    let l = fits.lines in let ch = fits.characters in let m = fits.marks in
    record {
      lines = let e = ap (λ (z : Count). z.lines) whole in omega arith;
      characters = let e = ap (λ (z : Count). z.characters) whole in omega arith;
      marks = let e = ap (λ (z : Count). z.marks) whole in omega arith;
    }

pub rest-fits : (now : Count) (new : List LineContent) (gone : ℕ) → FitsSum (plus now (count_of new)) →
    FitsSum (plus now (count_of (drop gone new)))
rest-fits now new gone fits = let both = parts-fit now new gone fits in
    let l = both.lines in let ch = both.characters in let m = both.marks in
    record { lines = omega arith; characters = omega arith; marks = omega arith }

pub then-fits : (old now : List Named) (k gone : ℕ) (new : List LineContent) (added : List Named) →
    FitsSum (plus (total old) (count_of new)) → map (λ (n : Named). n.1) added ≡ drop gone new →
    now ≡ take k old ++ added ++ drop k old → FitsSum (plus (total now) (count_of (take gone new)))
then-fits old now k gone new added fits contents is =
    let none : k ≡ k + 0 = omega arith in
    let s : StandsIn old k 0 (drop gone new) now = record {
      added = added;
      contents_of = contents;
      is = is ∙ ap (λ n. take k old ++ added ++ drop n old) none;
    } in
    let both = parts-fit (total old) new gone fits in
    let l = both.lines in let ch = both.characters in let m = both.marks in
    record {
      lines = let p = in-total old now k 0 (drop gone new) s (λ z. z.lines) (λ u v. refl) in omega arith;
      characters = let p = in-total old now k 0 (drop gone new) s (λ z. z.characters) (λ u v. refl) in omega arith;
      marks = let p = in-total old now k 0 (drop gone new) s (λ z. z.marks) (λ u v. refl) in omega arith;
    }

pub no-fewer : (old now added : List Named) (k : ℕ) → now ≡ take k old ++ added ++ drop k old → length old ≤ length now
no-fewer old now added k is =
    let a = ap length is in let b = length-append (take k old ++ added) (drop k old) in
    let c = length-append (take k old) added in
    let d = ap length (take-append-drop k old) in let e = length-append (take k old) (drop k old) in omega arith

-- as many lines as went, and the others behind them
pub all-in : (old mid now : List Named) (k gone : ℕ) (new : List LineContent) (first rest : List Named) →
    k + gone ≤ length old → gone ≤ length new → map (λ (n : Named). n.1) rest ≡ drop gone new →
    mid ≡ take (k + gone) old ++ rest ++ drop (k + gone) old →
    map (λ (n : Named). n.1) first ≡ take gone new →
    now ≡ take k mid ++ first ++ drop (k + min gone (length (take gone new))) mid →
    (map (λ (n : Named). n.1) (first ++ rest) ≡ new)
    × (now ≡ take k old ++ (first ++ rest) ++ drop (k + min gone (length new)) old)
all-in old mid now k gone new first rest within few contents is names made =
    let front = take (k + gone) old in let back = rest ++ drop (k + gone) old in
    let whole : mid ≡ front ++ back = is ∙ append_assoc front rest (drop (k + gone) old) in
    let long = length-take-le (k + gone) old within in let part = length-take-le gone new few in
    let low : k ≤ length front = omega arith in
    let at : k + min gone (length (take gone new)) ≡ length front + 0 = omega arith in
    let end : k + gone ≡ k + min gone (length new) = omega arith in
    let head = ap (take k) whole ∙ take-append-le k front back low ∙ take-take k (k + gone) old (omega arith) in
    let tail = (λ i. drop (at i) (whole i)) ∙ drop-append-add front back 0 in (
      map-append (λ (n : Named). n.1) first rest ∙ (λ i. names i ++ contents i) ∙ take-append-drop gone new,
      made ∙ (λ i. (head i ++ first) ++ tail i) ∙ sym (append_assoc (take k old ++ first) rest (drop (k + gone) old))
          ∙ ap (λ ls. ls ++ drop (k + gone) old) (append_assoc (take k old) first rest)
          ∙ ap (λ n. (take k old ++ (first ++ rest)) ++ drop n old) end,
    )
