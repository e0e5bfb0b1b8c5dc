-- A row of new lines.
use Rattle.line_tree.proofs.Common.{◌≡◌, List, [], ◌∷◌, ◌++◌, length, take, drop, reverse, refl, sym, ap, ◌∙◌, subst}
use Rattle.line_tree.proofs.Common.{append_assoc, reverse-append, take-append-drop, LineContent, NodePtr, Records}
use Rattle.line_tree.proofs.Common.{contents, tree_at, NewLine, lines_of, Becomes, trees_at}
use Rattle.line_tree.proofs.BecomeLaws.{both, new-becomes, swapped}
use Rattle.line_tree.proofs.BuildLaws.{trees-is}
use Rattle.line_tree.proofs.RootLaws.{new-lines}
use Rattle.line_tree.proofs.TreeLaws.{tops-tree_at}

-- ---- lists
pub take-length : {X : Type 0} (xs ys : List X) → take (length xs) (xs ++ ys) ≡ xs
take-length [] ys = refl
take-length (x ∷ xs) ys = ap (λ zs. x ∷ zs) (take-length xs ys)

pub drop-length : {X : Type 0} (xs ys : List X) → drop (length xs) (xs ++ ys) ≡ ys
drop-length [] ys = refl
drop-length (x ∷ xs) ys = drop-length xs ys

-- the last of the first ones goes
pub last-left : {X : Type 0} (old now popped : List X) (x : X) → now ≡ take (length now) old → now ≡ popped ++ x ∷ [] →
    (popped ≡ take (length popped) old) × (drop (length popped) old ≡ x ∷ drop (length now) old)
last-left old now popped x left is =
    let rest = drop (length now) old in
    let whole : old ≡ popped ++ (x ∷ rest) = sym (take-append-drop (length now) old)
    ∙ ap (λ zs. zs ++ drop (length now) old) (sym left ∙ is) ∙ append_assoc popped (x ∷ []) rest in (
      sym (ap (take (length popped)) whole ∙ take-length popped (x ∷ rest)),
      ap (drop (length popped)) whole ∙ drop-length popped (x ∷ rest),
    )

pub reversed : (xs : List NodePtr) (x : NodePtr) → reverse (xs ++ x ∷ []) ≡ x ∷ reverse xs
reversed xs x = reverse-append xs (x ∷ [])

-- ---- one more line before the others
module _ (m l n : Records) (ys : List NodePtr) (x : NodePtr) (line : LineContent)
    (before : Becomes m l [] 0 (trees_at l 0 ys)) (new : NewLine l n x line) where
  all : Becomes m n [] 0 (tree_at n 0 x ∷ trees_at l 0 ys)
  all = swapped m n [] 0 (trees_at l 0 ys) (tree_at n 0 x ∷ [])
      (both m l n [] [] 0 (trees_at l 0 ys) (tree_at n 0 x ∷ []) before (new-becomes l n x line new) (λ q a c. a) (λ q a.
      absurd a))

  same : trees_at n 0 (x ∷ ys) ≡ tree_at n 0 x ∷ trees_at l 0 ys
  same = ap (λ cs. trees_at n 0 (x ∷ cs)) (sym (tops-tree_at l 0 ys))
      ∙ trees-is n 0 (tree_at n 0 x ∷ trees_at l 0 ys) all.holds

  pub row-more : Becomes m n [] 0 (trees_at n 0 (x ∷ ys))
  row-more = subst (λ zs. Becomes m n [] 0 zs) (sym same) all

  pub row-lines : contents (lines_of 0 (trees_at n 0 (x ∷ ys))) ≡ line ∷ contents (lines_of 0 (trees_at l 0 ys))
  row-lines = ap (λ zs. contents (lines_of 0 zs)) same
      ∙ ap (λ ls. contents (ls ++ lines_of 0 (trees_at l 0 ys))) (new-lines l n x line new)
