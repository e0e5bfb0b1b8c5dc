-- The sums of the first children of two nodes, and of the others, by those that change sides.
use Rattle.line_tree.proofs.Common.{◌≡◌, ℕ, ◌+◌, ◌-◌, ◌≤◌, List, ◌++◌, length, take, drop, sym, ap, ◌∙◌, arith}
use Rattle.line_tree.proofs.Common.{length-drop, drop-append-add, drop-append_seam, take-append-add, take-append_seam}
use Rattle.line_tree.proofs.Common.{drop-append-le, take-append-drop, take-append-le, plus-commutative, NodePtr}
use Rattle.line_tree.proofs.Common.{Records, plus, sum_all}
use Rattle.line_tree.proofs.FillLaws.{sum_all-append}

-- ---- some of the right one's children go to the left one
module _ (m : Records) (xs ys : List NodePtr) (first half : ℕ) (is : first ≡ length xs) (less : first ≤ half) where
  from-right : take (half - first) (drop first (xs ++ ys)) ≡ take (half - first) ys
  from-right = ap (take (half - first)) (ap (λ n. drop n (xs ++ ys)) is ∙ drop-append_seam xs ys)

  at : half ≡ length xs + (half - first)
  at = omega arith

  left-right : drop half (xs ++ ys) ≡ drop (half - first) ys
  left-right = ap (λ n. drop n (xs ++ ys)) at ∙ drop-append-add xs ys (half - first)

  pub right-rest : plus (sum_all m (drop half (xs ++ ys))) (sum_all m (take (half - first) (drop first (xs ++ ys))))
      ≡ sum_all m ys
  right-rest =
      (λ i. plus (sum_all m (left-right i)) (sum_all m (from-right i)))
      ∙ plus-commutative (sum_all m (drop (half - first) ys)) (sum_all m (take (half - first) ys))
      ∙ sym (ap (sum_all m) (sym (take-append-drop (half - first) ys))
      ∙ sum_all-append m (take (half - first) ys) (drop (half - first) ys))

  pub left-more : plus (sum_all m xs) (sum_all m (take (half - first) (drop first (xs ++ ys))))
      ≡ sum_all m (take half (xs ++ ys))
  left-more =
      ap (λ cs. plus (sum_all m xs) (sum_all m cs)) from-right
      ∙ sym (ap (λ n. sum_all m (take n (xs ++ ys))) at ∙ ap (sum_all m) (take-append-add xs ys (half - first))
      ∙ sum_all-append m xs (take (half - first) ys))

-- ---- some of the left one's go to the right one
module _ (m : Records) (xs ys : List NodePtr) (first half : ℕ) (is : first ≡ length xs) (less : half ≤ first) where
  front : take half (xs ++ ys) ≡ take half xs
  front = take-append-le half xs ys (omega arith)

  behind : drop half (xs ++ ys) ≡ drop half xs ++ ys
  behind = drop-append-le half xs ys (omega arith)

  from-left : take (first - half) (drop half (xs ++ ys)) ≡ drop half xs
  from-left = let n = length-drop half xs in let e : first - half ≡ length (drop half xs) = omega arith in
      ap (take (first - half)) behind ∙ ap (λ k. take k (drop half xs ++ ys)) e ∙ take-append_seam (drop half xs) ys

  pub left-rest : plus (sum_all m (take half (xs ++ ys))) (sum_all m (take (first - half) (drop half (xs ++ ys))))
      ≡ sum_all m xs
  left-rest =
      (λ i. plus (sum_all m (front i)) (sum_all m (from-left i)))
      ∙ sym (ap (sum_all m) (sym (take-append-drop half xs)) ∙ sum_all-append m (take half xs) (drop half xs))

  pub right-more : plus (sum_all m (take (first - half) (drop half (xs ++ ys)))) (sum_all m ys)
      ≡ sum_all m (drop half (xs ++ ys))
  right-more = ap (λ cs. plus (sum_all m cs) (sum_all m ys)) from-left
      ∙ sym (ap (sum_all m) behind ∙ sum_all-append m (drop half xs) ys)
