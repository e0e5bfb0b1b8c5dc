-- A row of lines below a node, from the row below its child.
use Rattle.line_tree.proofs.Common.{◌≡◌, ℕ, suc, ◌+◌, ◌*◌, ◌<◌, ◌≤◌, List, [], ◌∷◌, ◌++◌, length, take, drop, sym, ap}
use Rattle.line_tree.proofs.Common.{◌∙◌, subst, arith, length-take, AllByRecursion, append-nil, length-map}
use Rattle.line_tree.proofs.Common.{take-append-drop, take-map, flat_map-append, Among, Distinct, FitsSum, Count, plus}
use Rattle.line_tree.proofs.Common.{Holds, IsTree, lines_in, tree_at, IsBalanced, Tree, lines, names, total, NodePtr}
use Rattle.line_tree.proofs.Common.{Records, kids, kids_of, row, HasRow, Leads, lines_below, lines_of, names_of}
use Rattle.line_tree.proofs.Common.{Becomes, CanRaise, CanTakeRow, HasSlots, Raises, TakesRow, trees_at, with_lines}
use Rattle.line_tree.proofs.Common.{Found}
use Rattle.line_tree.proofs.AmongLaws.{among-left, among-right}
use Rattle.line_tree.proofs.BecomeLaws.{stays}
use Rattle.line_tree.proofs.DistinctLaws.{distinct-append, distinct-apart, distinct-left, distinct-right}
use Rattle.line_tree.proofs.GrowLaws.{names-append}
use Rattle.line_tree.proofs.InsertLaws.{all-get, length-lines, lines-balanced}
use Rattle.line_tree.proofs.RemakeLaws.{can-raise, node-stays, takes-row}
use Rattle.line_tree.proofs.StepLaws.{all-balanced, all-take, at-place, split-same, wide-balanced, wide-some}
use Rattle.line_tree.proofs.SumLaws.{total-append}
use Rattle.line_tree.proofs.TreeLaws.{below-tree, child-tree, count-tree, counted, row-tree}
use Rattle.std.specs.FinMap as finite

part-fits : (a c b s : Count) → FitsSum (plus (plus a (plus c b)) s) → FitsSum (plus c s)
part-fits a c b s fits = let l = fits.lines in let n = fits.characters in let m = fits.marks in
    record { lines = omega (arith, l); characters = omega (arith, n); marks = omega (arith, m) }

pub slots-of-row : (m l : Records) (p : NodePtr) → HasRow m p → finite.get l p ≡ finite.get m p → HasSlots l p
slots-of-row m l p has same = let e : kids l p ≡ kids m p = ap kids_of same in record {
  found = has.found;
  is = same ∙ has.is;
  children = has.children ∙ ap row (sym e);
  few = subst (λ cs. length cs ≤ 12) (sym e) has.few;
  inner = has.inner;
}

front-all : (m : Records) (h : ℕ) (cs : List NodePtr) (i : ℕ) → AllByRecursion (Holds m h) (trees_at m h cs) →
    AllByRecursion (Holds m h) (trees_at m h (take i cs))
front-all m h cs i all =
    subst (AllByRecursion (Holds m h)) (take-map (tree_at m h) i cs) (all-take (Holds m h) i (trees_at m h cs) all)

-- ---- at the lowest level
module _ (m : Records) (p : NodePtr) (k : ℕ) (xs : List NodePtr) (can : CanTakeRow m 1 p k xs) where
  low-split : kids m p ≡ take k (kids m p) ++ ([] ++ drop k (kids m p))
  low-split = sym (take-append-drop k (kids m p))

  low-stays : Becomes m m (names_of 0 (trees_at m 0 []) ++ names_of 0 (trees_at m 0 xs)) 0 (trees_at m 0 xs)
  low-stays = stays m 0 (trees_at m 0 xs) can.row
      (distinct-right (names 1 (tree_at m 1 p)) (names_of 0 (trees_at m 0 xs)) can.distinct)

  pub low-within : k ≤ length (kids m p)
  low-within = let a = length-lines m (trees_at m 0 (kids m p)) can.tree.2 in let b = length-map (kids m p) (tree_at m 0) in
      let c = can.place in omega arith

  low-place : k ≡ length (lines_of 0 (trees_at m 0 (take k (kids m p)))) + 0
  low-place =
      let a = length-lines m (trees_at m 0 (take k (kids m p))) (front-all m 0 (kids m p) k can.tree.2) in
      let b = length-map (take k (kids m p)) (tree_at m 0) in let c = length-take k (kids m p) in
      let w = low-within in omega arith

  low-added : lines_of 0 (trees_at m 0 xs)
      ≡ with_lines (lines_of 0 (trees_at m 0 [])) 0 (lines_of 0 (trees_at m 0 xs))
  low-added = sym (append-nil (lines_of 0 (trees_at m 0 xs)))

  pub low-can : CanRaise (finite.remove m p) 0 (take k (kids m p) ++ (xs ++ drop k (kids m p)))
  low-can = can-raise m m 0 p (take k (kids m p)) [] (drop k (kids m p)) xs xs can.tree low-split can.row can.distinct
      low-stays 0 k low-place (omega arith) low-added can.fits

  pub low-takes : (n : Records) (ps : List NodePtr) → Raises (finite.remove m p) n 0
      (take k (kids m p) ++ (xs ++ drop k (kids m p)))
      (length (take k (kids m p) ++ (xs ++ drop k (kids m p)))) ps →
      12 * length ps ≤ length (take k (kids m p) ++ (xs ++ drop k (kids m p))) + 11 → TakesRow m n 1 p k xs ps
  low-takes n ps raises few = takes-row m m 0 p (take k (kids m p)) [] (drop k (kids m p)) xs xs can.tree low-split
      can.row can.distinct low-stays 0 k low-place (omega arith) low-added can.wide can.some (omega arith)
      (lines-balanced (trees_at m 0 xs)) n ps raises few

-- ---- above it
pub some-kids : (m : Records) (h : ℕ) (p : NodePtr) (k : ℕ) (xs : List NodePtr) → CanTakeRow m (suc h) p k xs →
    0 < length (kids m p)
some-kids m h p k xs can = let n = length-map (kids m p) (tree_at m h) in let w = can.wide.0 in omega arith

pub within-kids : (m : Records) (h : ℕ) (p : NodePtr) (k : ℕ) (xs : List NodePtr) → CanTakeRow m (suc h) p k xs →
    k ≤ lines_below m p
within-kids m h p k xs can = let n = below-tree m h p can.tree in let w = can.place in omega arith

module _ (m : Records) (h : ℕ) (p : NodePtr) (k : ℕ) (xs : List NodePtr) (can : CanTakeRow m (suc h) p k xs) (f : Found)
    (leads : Leads m p k f) where
  abbrev child : Tree h
  child = tree_at m h f.child

  abbrev new : List NodePtr
  new = names_of 0 (trees_at m 0 xs)

  abbrev old : List NodePtr
  old = names_of h (trees_at m h (kids m p))

  abbrev front : List NodePtr
  front = take f.slot (kids m p)

  abbrev back : List NodePtr
  back = drop (suc f.slot) (kids m p)

  split : kids m p ≡ front ++ ((f.child ∷ []) ++ back)
  split = split-same (kids m p) f.slot f.child leads.child

  trees-split : trees_at m h (kids m p) ≡ trees_at m h front ++ (child ∷ trees_at m h back)
  trees-split = at-place (tree_at m h) (kids m p) f.slot f.child leads.child

  names-split : old ≡ names_of h (trees_at m h front) ++ (names h child ++ names_of h (trees_at m h back))
  names-split = ap (names_of h) trees-split
      ∙ names-append h (trees_at m h front) (child ∷ trees_at m h back)

  in-child : (q : NodePtr) → Among q (names h child) → Among q old
  in-child q a = subst (Among q) (sym names-split) (among-right q (names_of h (trees_at m h front))
      (names h child ++ names_of h (trees_at m h back))
      (among-left q (names h child) (names_of h (trees_at m h back)) a))

  tree-child : IsTree m h f.child
  tree-child = child-tree m h (kids m p) f.slot f.child can.tree.2 leads.child

  balanced-child : IsBalanced h child
  balanced-child = all-get (IsBalanced h) (tree_at m h) (kids m p) f.slot f.child can.wide.2 leads.child

  rest-within : f.rest ≤ length (lines_in m h f.child)
  rest-within = let n = count-tree m h f.child tree-child in let r = leads.rest in omega arith

  child-distinct : Distinct (names h child ++ new)
  child-distinct = distinct-append (names h child) new
      (distinct-left (names h child) (names_of h (trees_at m h back))
      (distinct-right (names_of h (trees_at m h front)) (names h child ++ names_of h (trees_at m h back))
      (subst Distinct names-split (distinct-left old new can.distinct.1))))
      (distinct-right old new can.distinct.1) (λ q a b. distinct-apart old new can.distinct.1 q (in-child q a) b)

  child-fits : FitsSum (plus (total (lines h child)) (total (lines_of 0 (trees_at m 0 xs))))
  child-fits =
      let e : total (lines_of h (trees_at m h (kids m p)))
      ≡ plus (total (lines_of h (trees_at m h front))) (plus (total (lines h child)) (total (lines_of h (trees_at m h back)))) =
      ap (λ zs. total (lines_of h zs)) trees-split
      ∙ ap total (flat_map-append (lines h) (trees_at m h front) (child ∷ trees_at m h back))
      ∙ total-append (lines_of h (trees_at m h front)) (lines_of h (child ∷ trees_at m h back))
      ∙ ap (plus (total (lines_of h (trees_at m h front)))) (total-append (lines h child) (lines_of h (trees_at m h back)))
      in
      part-fits (total (lines_of h (trees_at m h front))) (total (lines h child)) (total (lines_of h (trees_at m h back)))
      (total (lines_of 0 (trees_at m 0 xs)))
      (subst (λ s. FitsSum (plus s (total (lines_of 0 (trees_at m 0 xs))))) e can.fits)

  pub can-child : CanTakeRow m h f.child f.rest xs
  can-child = record {
    tree = tree-child;
    wide = wide-some h child balanced-child;
    place = rest-within;
    row = can.row;
    some = can.some;
    distinct = child-distinct;
    fits = child-fits;
  }

  module _ (l : Records) (ys : List NodePtr) (b : TakesRow m l h f.child f.rest xs ys) where
    becomes : Becomes m l (names_of h (trees_at m h (f.child ∷ [])) ++ new) h (trees_at l h ys)
    becomes = subst (λ zs. Becomes m l (zs ++ new) h (trees_at l h ys)) (sym (append-nil (names h child))) b.becomes

    pub node-same : finite.get l p ≡ finite.get m p
    node-same = node-stays m l h p front (f.child ∷ []) back ys xs can.tree split can.row can.distinct becomes

    pub slots-now : HasSlots l p
    slots-now = slots-of-row m l p (row-tree m h p can.tree) node-same

    place : k ≡ length (lines_of h (trees_at m h front)) + f.rest
    place = let e = counted m h front (front-all m h (kids m p) f.slot can.tree.2) in let a = leads.place in omega arith

    low : f.rest ≤ length (lines_of h (trees_at m h (f.child ∷ [])))
    low = subst (λ ls. f.rest ≤ length ls) (sym (append-nil (lines h child))) rest-within

    added : lines_of h (trees_at l h ys)
        ≡ with_lines (lines_of h (trees_at m h (f.child ∷ []))) f.rest (lines_of 0 (trees_at m 0 xs))
    added = b.lines ∙ ap (λ ls. with_lines ls f.rest (lines_of 0 (trees_at m 0 xs))) (sym (append-nil (lines h child)))

    pub up-can : CanRaise (finite.remove l p) h (front ++ (ys ++ back))
    up-can = can-raise m l h p front (f.child ∷ []) back ys xs can.tree split can.row can.distinct becomes f.rest k place
        low added can.fits

    pub up-takes : (n : Records) (ps : List NodePtr) →
        Raises (finite.remove l p) n h (front ++ (ys ++ back)) (length (front ++ (ys ++ back))) ps →
        12 * length ps ≤ length (front ++ (ys ++ back)) + 11 → TakesRow m n (suc h) p k xs ps
    up-takes n ps raises few = takes-row m l h p front (f.child ∷ []) back ys xs can.tree split can.row can.distinct
        becomes f.rest k place low added can.wide b.some b.some
        (all-balanced h (trees_at l h ys) (b.wide 6 (omega arith) (wide-balanced h child balanced-child))) n ps raises few
