-- Ways down by characters.
use Rattle.line_tree.proofs.Common.{◌≡◌, ℕ, suc, List, [], ◌∷◌, map, refl, sym, ap, ◌∙◌, arith, AllByRecursion}
use Rattle.line_tree.proofs.Common.{flat_map, sum_by, sum_by-cons, Holds, IsTree, lines_at, lines_in, tree_at, NodePtr}
use Rattle.line_tree.proofs.Common.{Records, kids, lines, total, lines_below, characters_at, characters_below}
use Rattle.line_tree.proofs.SumLaws.{total-append}
use Rattle.line_tree.proofs.TreeLaws.{sum-tree, whole-below}

characters-tree : (m : Records) (h : ℕ) (p : NodePtr) → IsTree m h p →
    characters_at m p ≡ (total (lines_in m h p)).characters
characters-tree m h p is = ap (λ s. s.characters) (sum-tree m h p is)

characters-counted : (m : Records) (h : ℕ) (cs : List NodePtr) → AllByRecursion (Holds m h) (map (tree_at m h) cs) →
    sum_by (characters_at m) cs ≡ (total (flat_map (lines h) (map (tree_at m h) cs))).characters
characters-counted m h [] all = refl
characters-counted m h (c ∷ cs) all =
    let here = characters-tree m h c all.0 in let rest = characters-counted m h cs all.1 in
    let s = sum_by-cons (characters_at m) c cs in
    let l = ap (λ z. z.characters) (total-append (lines h (tree_at m h c))
    (flat_map (lines h) (map (tree_at m h) cs))) in omega arith

pub characters-below-tree : (m : Records) (h : ℕ) (p : NodePtr) → IsTree m (suc h) p →
    characters_below m p ≡ (total (lines_in m (suc h) p)).characters
characters-below-tree m h p is = characters-counted m h (kids m p) is.2

-- a tree's size is that of its children
pub size-below : (m : Records) (h : ℕ) (p : NodePtr) → IsTree m (suc h) p →
    ◌≡◌ {A = ℕ × ℕ} (lines_at m p, characters_at m p) (lines_below m p, characters_below m p)
size-below m h p is = let lines = whole-below m h p is in let chars = characters-tree m (suc h) p is
    ∙ sym (characters-below-tree m h p is) in λ i. (lines i, chars i)
