-- Places below a node, and ways down to them.
use Rattle.line_tree.proofs.Common.{◌≡◌, ℕ, zero, suc, ◌+◌, ◌-◌, ◌*◌, ◌<◌, ◌≤◌, List, [], ◌∷◌, ◌++◌, length, take, drop}
use Rattle.line_tree.proofs.Common.{map, refl, sym, ap, ◌∙◌, subst, arith, append_assoc, slice_get, Option, None, Some}
use Rattle.line_tree.proofs.Common.{AllByRecursion, flat_map, sum_by, append-nil, take_at, flat_map-append, sum_by-cons}
use Rattle.line_tree.proofs.Common.{plus-no_text, Count, plus, Holds, IsTree, line_of, lines_in, sum_at, tree_at}
use Rattle.line_tree.proofs.Common.{LineContent, line_count, Named, lines, total, NodePtr, Records, kids, sum_all}
use Rattle.line_tree.proofs.Common.{AddsUp, IsLineAt, Arrives}
use Rattle.std.proofs.Common.{option_map}
use Rattle.line_tree.specs.declared.search.Arrived.{Arrived}
use Rattle.line_tree.proofs.FillLaws.{sum_all-append}
use Rattle.line_tree.proofs.GrowLaws.{all-left}
use Rattle.line_tree.proofs.PrefixLaws.{sum-more, summed}
use Rattle.line_tree.proofs.StepLaws.{at-place, split-same}
use Rattle.line_tree.proofs.SumLaws.{total-append}
use Rattle.line_tree.proofs.TreeLaws.{child-tree, get-right, sum-tree, total-lines}
use Rattle.std.specs.FinMap as finite

-- place r of the lines xs is place k of ls, and where old stood before ls, now stands before xs
pub record Passes {A : Type 0} (wide : Count → ℕ) (behind : A → Count → A) (ls xs : List Named) (k r : ℕ) (old now : A) :
    Type 0 where
  pub front : List Named
  pub back : List Named
  pub split : ls ≡ front ++ (xs ++ back)
  pub place : wide (total front) + r ≡ k
  pub rest : r < wide (total xs)
  pub before : now ≡ behind old (total front)

module _ {A : Type 0} {wide : Count → ℕ} {behind : A → Count → A} {fits : A → Count → Type 0}
    (up : AddsUp wide behind fits) where
  -- ---- the children of a node
  pub wide-more : (m : Records) (cs : List NodePtr) (i : ℕ) (c : NodePtr) → slice_get cs i ≡ Some c →
      wide (sum_all m (take (i + 1) cs)) ≡ wide (sum_all m (take i cs)) + wide (sum_at m c)
  wide-more m cs i c is = ap wide (sum-more m cs i c is) ∙ up.wide_plus (sum_all m (take i cs)) (sum_at m c)

  pub wide-all : (m : Records) (cs : List NodePtr) → wide (sum_all m cs) ≡ sum_by (λ c. wide (sum_at m c)) cs
  wide-all m [] = up.wide_none
  wide-all m (c ∷ cs) = let sum = up.wide_plus (sum_at m c) (sum_all m cs) in let rest = wide-all m cs in
      let by = sum_by-cons (λ c. wide (sum_at m c)) c cs in omega arith

  pub behind-more : (m : Records) (cs : List NodePtr) (i : ℕ) (c : NodePtr) (a : A) → slice_get cs i ≡ Some c →
      behind a (sum_all m (take (i + 1) cs)) ≡ behind (behind a (sum_all m (take i cs))) (sum_at m c)
  behind-more m cs i c a is =
      ap (behind a) (sum-more m cs i c is) ∙ up.behind_plus a (sum_all m (take i cs)) (sum_at m c)

  -- what stands before the last of the first n children
  pub behind-last : (m : Records) (cs : List NodePtr) (i n : ℕ) (c : NodePtr) (a now : A) → slice_get cs i ≡ Some c →
      n ≡ i + 1 → now ≡ behind a (sum_all m (take n cs))
      → now ≡ behind (behind a (sum_all m (take i cs))) (sum_at m c)
  behind-last m cs i n c a now is e before =
      before ∙ ap (λ k. behind a (sum_all m (take k cs))) e ∙ behind-more m cs i c a is

  pub fits-child : (m : Records) (cs : List NodePtr) (i : ℕ) (c : NodePtr) (a : A) → slice_get cs i ≡ Some c →
      fits a (sum_all m cs) → fits (behind a (sum_all m (take i cs))) (sum_at m c)
  fits-child m cs i c a is fit =
      up.fits_within a (sum_all m (take i cs)) (sum_at m c) (sum_all m (drop (suc i) cs))
      (subst (fits a) (ap (sum_all m) (split-same cs i c is)
      ∙ sum_all-append m (take i cs) (c ∷ drop (suc i) cs)) fit)

  -- ---- the way down
  pub passes-start : (ls : List Named) (k : ℕ) (a : A) → k < wide (total ls) → Passes wide behind ls ls k k a a
  passes-start ls k a less = let none = up.wide_none in record {
    front = [];
    back = [];
    split = sym (append-nil ls);
    place = omega arith;
    rest = less;
    before = sym (up.behind_none a);
  }

  pub passes-fits : (m : Records) (h : ℕ) (q : NodePtr) (ls : List Named) (k r : ℕ) (old now : A) → IsTree m (suc h) q →
      Passes wide behind ls (lines_in m (suc h) q) k r old now → fits old (total ls) → fits now (sum_all m (kids m q))
  passes-fits m h q ls k r old now is w fit =
      let xs = lines_in m (suc h) q in
      let groups : total ls ≡ plus (total w.front) (plus (total xs) (total w.back)) = ap total w.split
      ∙ total-append w.front (xs ++ w.back) ∙ ap (plus (total w.front)) (total-append xs w.back) in
      let inner = up.fits_within old (total w.front) (total xs) (total w.back) (subst (fits old) groups fit) in
      subst (fits now) (sym (summed m h (kids m q) is.2)) (subst (λ a. fits a (total xs)) (sym w.before) inner)

  pub passes-below : (m : Records) (h : ℕ) (q : NodePtr) (ls : List Named) (k r : ℕ) (old now : A) → IsTree m (suc h) q →
      Passes wide behind ls (lines_in m (suc h) q) k r old now → r < wide (sum_all m (kids m q))
  passes-below m h q ls k r old now is w = subst (λ s. r < wide s) (sym (summed m h (kids m q) is.2)) w.rest

  pub passes-step : (m : Records) (h : ℕ) (q : NodePtr) (ls : List Named) (k r : ℕ) (old now : A) → IsTree m (suc h) q →
      Passes wide behind ls (lines_in m (suc h) q) k r old now → (i : ℕ) (c : NodePtr) (s : ℕ) (new : A) →
      slice_get (kids m q) i ≡ Some c → wide (sum_all m (take i (kids m q))) + s ≡ r → s < wide (sum_at m c) →
      new ≡ behind now (sum_all m (take i (kids m q)))
      → IsTree m h c × Passes wide behind ls (lines_in m h c) k s old new
  passes-step m h q ls k r old now is w i c s new at place rest before =
      let child = child-tree m h (kids m q) i c is.2 at in
      let first = map (tree_at m h) (take i (kids m q)) in let last = map (tree_at m h) (drop (suc i) (kids m q)) in
      let placed = at-place (tree_at m h) (kids m q) i c at in
      let held = all-left (Holds m h) first (tree_at m h c ∷ last) (subst (AllByRecursion (Holds m h)) placed is.2) in
      let a = flat_map (lines h) first in let b = lines_in m h c in let d = flat_map (lines h) last in
      let whole : lines_in m (suc h) q ≡ a ++ (b ++ d) = ap (flat_map (lines h)) placed
      ∙ flat_map-append (lines h) first (tree_at m h c ∷ last) in
      let sum = summed m h (take i (kids m q)) held in let join = total-append w.front a in
      let width : wide (total (w.front ++ a)) ≡ wide (total w.front) + wide (total a) =
      ap wide join ∙ up.wide_plus (total w.front) (total a) in
      let same = ap wide sum in let outer = w.place in (
        child,
        record {
          front = w.front ++ a;
          back = d ++ w.back;
          split = w.split ∙ ap (λ zs. w.front ++ (zs ++ w.back)) whole
              ∙ ap (λ zs. w.front ++ zs) (append_assoc a (b ++ d) w.back
              ∙ ap (λ zs. a ++ zs) (append_assoc b d w.back)) ∙ sym (append_assoc w.front a (b ++ (d ++ w.back)));
          place = omega arith;
          rest = subst (λ t. s < wide t) (sum-tree m h c child) rest;
          before = before ∙ (λ j. behind (w.before j) (sum j)) ∙ sym (up.behind_plus old (total w.front) (total a))
              ∙ ap (behind old) (sym join);
        },
      )

  pub passes-line : (m : Records) (q : NodePtr) (ls : List Named) (k r : ℕ) (old now : A) →
      Passes wide behind ls (lines_in m zero q) k r old now
      → Arrives wide behind ls k old now (record { name = q; rest = r })
  passes-line m q ls k r old now w = one (line_of (finite.get m q)) w where
    one : (o : Option LineContent) → Passes wide behind ls (lines zero (q, o)) k r old now →
        Arrives wide behind ls k old now (record { name = q; rest = r })
    one None w = let none = up.wide_none in let bad = w.rest in absurd (omega arith)
    one (Some l) w = record {
      front = w.front;
      line = (q, l);
      back = w.back;
      split = w.split;
      name = refl;
      place = w.place;
      rest = subst (λ s. r < wide s) (plus-no_text (line_count l)) w.rest;
      before = w.before;
    }

-- ---- at the end of it
module _ {A : Type 0} {wide : Count → ℕ} {behind : A → Count → A} {ls : List Named} {k : ℕ} {old new : A} {a : Arrived}
    (w : Arrives wide behind ls k old new a) where
  here : length w.front ≡ length w.front + 0
  here = omega arith

  pub arrives-line : slice_get ls (length w.front) ≡ Some w.line
  arrives-line = ap (λ zs. slice_get zs (length w.front)) w.split
      ∙ get-right w.front (w.line ∷ w.back) 0 (length w.front) here

  pub arrives-named : IsLineAt ls (length w.front) a.name
  arrives-named = ap (option_map (λ (x : Named). x.0)) arrives-line ∙ ap (λ x. Some x) w.name

  pub arrives-front : take (length w.front) ls ≡ w.front
  arrives-front = ap (take (length w.front)) w.split ∙ take_at w.front (w.line ∷ w.back) (length w.front) refl

-- where lines are counted, place k is line k
pub arrives-at : {A : Type 0} {behind : A → Count → A} {ls : List Named} {k : ℕ} {old new : A} {a : Arrived} →
    (w : Arrives (λ s. s.lines) behind ls k old new a) → length w.front ≡ k
arrives-at w = let count = total-lines w.front in let place = w.place in let rest = w.rest in omega arith

-- and what stands before it is what stands behind the first k lines
pub arrives-before : {A : Type 0} {behind : A → Count → A} {ls : List Named} {k : ℕ} {old new : A} {a : Arrived} →
    Arrives (λ s. s.lines) behind ls k old new a → new ≡ behind old (total (take k ls))
arrives-before {behind = behind} {ls = ls} {old = old} w = w.before
    ∙ ap (λ xs. behind old (total xs)) (sym (arrives-front w) ∙ ap (λ n. take n ls) (arrives-at w))

-- ---- steps
pub steps-more : (i s : ℕ) → (i + 1) * s ≡ i * s + s
steps-more i s = omega arith

pub steps-within : (i s : ℕ) → i < 12 → i * s + s ≤ 12 * s
steps-within i s less = let j = 11 - i in let e : 12 ≡ i + 1 + j = omega arith in let all = ap (λ n. n * s) e in
    let more : (i + 1 + j) * s ≡ i * s + s + j * s = omega arith in omega arith

pub steps-deeper : (s n k start so_far now : ℕ) → k ≡ n + 1 → so_far ≤ start + s * n → now ≤ so_far + s → now ≤ start + s * k
steps-deeper s n k start so_far now deeper before one = let e = ap (λ i. s * i) deeper in omega arith
