-- Rows that are put in one before the other.
use Rattle.line_tree.proofs.Common.{◌≡◌, ℕ, ◌≤◌, List, ◌++◌, length, take, drop, sym, ap, ◌∙◌, subst, append_assoc}
use Rattle.line_tree.proofs.Common.{arith, length-take, drop-append-le, map-append, take-append-drop, take-append-le}
use Rattle.line_tree.proofs.Common.{Count, plus, FitsSum, LineContent, Named, contents, total, count_of, count-append}
use Rattle.line_tree.proofs.Common.{with_lines}
use Rattle.line_tree.proofs.NewRowLaws.{drop-length, take-length}
use Rattle.line_tree.proofs.PrefixLaws.{count-contents}
use Rattle.line_tree.proofs.RemakeLaws.{total-with_lines}

-- ---- what is left of a list
module _ {X : Type 0} (all now : List X) (at : ℕ) (left : now ≡ take (length now) all) (low : at ≤ length now) where
  whole : all ≡ now ++ drop (length now) all
  whole = sym (take-append-drop (length now) all) ∙ ap (λ zs. zs ++ drop (length now) all) (sym left)

  pub left-first : take at now ≡ take at all
  left-first = sym (ap (take at) whole ∙ take-append-le at now (drop (length now) all) low)

  pub left-last : drop at all ≡ drop at now ++ drop (length now) all
  left-last = ap (drop at) whole ∙ drop-append-le at now (drop (length now) all) low

-- ---- lines put in before those that were put in
pub more-rows : (old now next first added : List Named) (k : ℕ) → k ≤ length old → now ≡ with_lines old k added →
    next ≡ with_lines now k first → next ≡ with_lines old k (first ++ added)
more-rows old now next first added k place is more =
    let a = length-take k old in let e : k ≡ length (take k old) = omega (arith, a, place) in
    let rest = added ++ drop k old in
    let front = ap (take k) is ∙ ap (λ j. take j (take k old ++ rest)) e ∙ take-length (take k old) rest in
    let back = ap (drop k) is ∙ ap (λ j. drop j (take k old ++ rest)) e ∙ drop-length (take k old) rest in
    more ∙ (λ i. front i ++ (first ++ back i))
    ∙ ap (λ zs. take k old ++ zs) (sym (append_assoc first added (drop k old)))

pub more-contents : (first added : List Named) (xs ys : List LineContent) → contents first ≡ xs → contents added ≡ ys →
    contents (first ++ added) ≡ xs ++ ys
more-contents first added xs ys a b = map-append (λ (l : Named). l.1) first added ∙ (λ i. a i ++ b i)

some-fit : (f x y z : Count) → FitsSum (plus f (plus x (plus y z))) → FitsSum (plus (plus f z) y)
some-fit f x y z fits = let l = fits.lines in let n = fits.characters in let m = fits.marks in
    record { lines = omega (arith, l); characters = omega (arith, n); marks = omega (arith, m) }

pub part-fits : (old now added : List Named) (k : ℕ) (all left : List LineContent) (rest at : ℕ) →
    now ≡ with_lines old k added → contents added ≡ drop (length left) all → left ≡ take (length left) all → rest ≤ at
    → at ≤ length left → length left ≤ length all → FitsSum (plus (total old) (count_of (drop rest all))) →
    FitsSum (plus (total now) (count_of (drop at left)))
part-fits old now added k all left rest at is are first low high within fits =
    let x = drop rest (take at all) in let y = drop at left in let z = drop (length left) all in
    let a = length-take at all in
    let split : drop rest all ≡ x ++ (y ++ z) = ap (drop rest) (sym (take-append-drop at all))
    ∙ drop-append-le rest (take at all) (drop at all) (omega (arith, a, low, high, within))
    ∙ ap (λ zs. drop rest (take at all) ++ zs) (left-last all left at first high) in
    let counted = ap count_of split ∙ count-append x (y ++ z) ∙ ap (plus (count_of x)) (count-append y z) in
    let sum : total now ≡ plus (total old) (count_of z) = ap total is ∙ total-with_lines old k added
    ∙ ap (plus (total old)) (sym (count-contents added) ∙ ap count_of are) in
    subst (λ s. FitsSum (plus s (count_of y))) (sym sum)
    (some-fit (total old) (count_of x) (count_of y) (count_of z)
    (subst (λ s. FitsSum (plus (total old) s)) counted fits))
