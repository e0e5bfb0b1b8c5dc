-- Sums.
--     total-append            the sum of two lists of lines
--     fits-left, fits-right   each of two parts fits where the sum does
--     fits-none               the sum with nothing more fits too
--     fits-part               a part and so much more fit where the sum and so much more do
--     fits-both               two parts can be added where the sum fits
use Rattle.line_tree.proofs.Common.{◌≡◌, List, [], ◌∷◌, ◌++◌, sym, ap, ◌∙◌, subst, arith, no_text-plus}
use Rattle.line_tree.proofs.Common.{plus-associative, plus-no_text, Count, CountsFit, no_text, plus, FitsSum, Named}
use Rattle.line_tree.proofs.Common.{total, line_count}

pub total-append : (xs ys : List Named) → total (xs ++ ys) ≡ plus (total xs) (total ys)
total-append [] ys = sym (no_text-plus (total ys))
total-append (x ∷ xs) ys =
    ap (plus (line_count x.1)) (total-append xs ys) ∙ sym (plus-associative (line_count x.1) (total xs) (total ys))

pub fits-left : (a b : Count) → FitsSum (plus a b) → FitsSum a
fits-left a b fits = let l = fits.lines in let c = fits.characters in let m = fits.marks in
    record { lines = omega (arith, l); characters = omega (arith, c); marks = omega (arith, m) }

pub fits-right : (a b : Count) → FitsSum (plus a b) → FitsSum b
fits-right a b fits = let l = fits.lines in let c = fits.characters in let m = fits.marks in
    record { lines = omega (arith, l); characters = omega (arith, c); marks = omega (arith, m) }

pub fits-none : (a : Count) → FitsSum a → FitsSum (plus a no_text)
fits-none a fits = subst FitsSum (sym (plus-no_text a)) fits

pub fits-part : (a b c d : Count) → FitsSum (plus (plus a (plus b c)) d) → FitsSum (plus b d)
fits-part a b c d fits = let l = fits.lines in let h = fits.characters in let m = fits.marks in
    record { lines = omega (arith, l); characters = omega (arith, h); marks = omega (arith, m) }

pub fits-both : (a b : Count) → FitsSum (plus a b) → CountsFit a b
fits-both a b fits = record { lines = fits.lines; characters = fits.characters; marks = fits.marks }
