-- Ways down with the sum of the lines before.
use Rattle.line_tree.proofs.Common.{◌≡◌, ℕ, suc, ◌+◌, ◌<◌, ◌≤◌, List, [], ◌∷◌, ◌++◌, length, take, map, refl, sym, ap}
use Rattle.line_tree.proofs.Common.{◌∙◌, arith, slice_get, None, Some, AllByRecursion, flat_map, take-map, take_all}
use Rattle.line_tree.proofs.Common.{take_more, get_or_from_slice_get, slice_get_within, plus-no_text, Count, plus}
use Rattle.line_tree.proofs.Common.{Holds, IsTree, lines_in, sum_at, tree_at, Named, contents, lines, total, NodePtr}
use Rattle.line_tree.proofs.Common.{Records, kids, line_count, sum_all, count_of}
use Rattle.line_tree.proofs.BuildLaws.{sum-trees}
use Rattle.line_tree.proofs.FillLaws.{sum_all-append}
use Rattle.line_tree.proofs.RowLaws.{past}
use Rattle.line_tree.proofs.TreeLaws.{sum-tree, tops-tree_at, total-lines}

-- ---- lines without names
pub count-contents : (ls : List Named) → count_of (contents ls) ≡ total ls
count-contents [] = refl
count-contents (l ∷ ls) = ap (plus (line_count l.1)) (count-contents ls)

pub count-first : (k : ℕ) (ls : List Named) → count_of (take k (contents ls)) ≡ total (take k ls)
count-first k ls = ap count_of (take-map (λ (l : Named). l.1) k ls) ∙ count-contents (take k ls)

-- ---- sums of children
pub summed : (m : Records) (h : ℕ) (cs : List NodePtr) → AllByRecursion (Holds m h) (map (tree_at m h) cs) →
    sum_all m cs ≡ total (flat_map (lines h) (map (tree_at m h) cs))
summed m h cs all = ap (sum_all m) (sym (tops-tree_at m h cs)) ∙ sum-trees m h (map (tree_at m h) cs) all

-- a tree's sum is that of its children
pub sum-below : (m : Records) (h : ℕ) (p : NodePtr) → IsTree m (suc h) p → sum_at m p ≡ sum_all m (kids m p)
sum-below m h p is = sum-tree m (suc h) p is ∙ sym (summed m h (kids m p) is.2)

pub sum-more : (m : Records) (cs : List NodePtr) (i : ℕ) (c : NodePtr) → slice_get cs i ≡ Some c →
    sum_all m (take (i + 1) cs) ≡ plus (sum_all m (take i cs)) (sum_at m c)
sum-more m cs i c is =
    ap (sum_all m) (take_more cs i c (slice_get_within cs i c is)
    ∙ ap (λ d. take i cs ++ d ∷ []) (get_or_from_slice_get cs i c c is))
    ∙ sum_all-append m (take i cs) (c ∷ []) ∙ ap (plus (sum_all m (take i cs))) (plus-no_text (sum_at m c))

pub sum-none : (m : Records) (cs : List NodePtr) (i : ℕ) → slice_get cs i ≡ None →
    sum_all m (take (i + 1) cs) ≡ sum_all m (take i cs)
sum-none m cs i is = let p = past cs i is in let q : length cs ≤ i + 1 = omega arith in
    ap (sum_all m) (take_all (i + 1) cs q ∙ sym (take_all i cs p))

-- all of them
pub all-lines : (m : Records) (h : ℕ) (p : NodePtr) (k n : ℕ) (s : Count) → IsTree m h p → s ≡ sum_at m p →
    n ≡ s.lines → k ≡ n → s ≡ total (take k (lines_in m h p))
all-lines m h p k n s is sum lines same = let ls = lines_in m h p in let here = sum ∙ sum-tree m h p is in
    let count = lines ∙ ap (λ x. x.lines) here ∙ total-lines ls in let past : length ls ≤ k = omega arith in
    here ∙ ap total (sym (take_all k ls past))

pub some-left : (m : Records) (h : ℕ) (p : NodePtr) (k n : ℕ) (s : Count) → IsTree m h p → s ≡ sum_at m p →
    n ≡ s.lines → (k ≡ n → ⊥) → k ≤ length (lines_in m h p) → k < length (lines_in m h p)
some-left m h p k n s is sum lines differ within = let count = lines ∙ ap (λ x. x.lines) (sum ∙ sum-tree m h p is)
    ∙ total-lines (lines_in m h p) in
    let not : k ≡ length (lines_in m h p) → ⊥ = λ e. differ (e ∙ sym count) in omega arith
