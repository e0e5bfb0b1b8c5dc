-- What is counted of lines in a row.
use Rattle.line_lists.proofs.Common.{◌≡◌, ◌+◌, List, [], ◌∷◌, ◌++◌, length, refl, sym, ap, ◌∙◌, arith, length-append}
use Rattle.line_lists.proofs.Common.{differing, no_text-plus, plus-associative, Count, CountsFit, plus, presence}
use Rattle.line_lists.proofs.Common.{presence-append, Column, LineContent, line_count, toggles, IsCounted, count_of}
use Rattle.line_lists.proofs.Common.{whole, tags_left_of}
use Rattle.line_lists.proofs.TagLaws.{behind-append}
use Rattle.std.specs.FinSet as set

pub count-append : (xs ys : List LineContent) → count_of (xs ++ ys) ≡ plus (count_of xs) (count_of ys)
count-append [] ys = sym (no_text-plus (count_of ys))
count-append (x ∷ xs) ys =
    ap (plus (line_count x)) (count-append xs ys) ∙ sym (plus-associative (line_count x) (count_of xs) (count_of ys))

pub count-lines : (lines : List LineContent) → (count_of lines).lines ≡ length lines
count-lines [] = refl
count-lines (line ∷ lines) = omega (arith, count-lines lines)

pub count-characters : (lines : List LineContent) → (count_of lines).characters ≡ length (whole lines).columns
count-characters [] = refl
count-characters (line ∷ lines) =
    ap (λ n. length line.columns + n) (count-characters lines) ∙ sym (length-append line.columns (whole lines).columns)

pub count-parity : (lines : List LineContent) → (count_of lines).parity ≡ tags_left_of (whole lines).columns
count-parity [] = refl
count-parity (line ∷ lines) = ap (differing (tags_left_of line.columns)) (count-parity lines)
    ∙ sym (behind-append line.columns (whole lines).columns)

map-row : (xs ys : List Column) → toggles (xs ++ ys) ≡ toggles xs ++ toggles ys
map-row [] ys = refl
map-row (x ∷ xs) ys = ap (λ rest. x.toggled ∷ rest) (map-row xs ys)

pub count-presence : (lines : List LineContent) → (count_of lines).presence ≡ presence (toggles (whole lines).columns)
count-presence [] = refl
count-presence (line ∷ lines) =
    ap (set.union (presence (toggles line.columns))) (count-presence lines)
    ∙ sym (ap presence (map-row line.columns (whole lines).columns)
    ∙ presence-append (toggles line.columns) (toggles (whole lines).columns))

-- a part of lines that are counted is counted, and so is one more line of them
pub counted-part : (xs ys : List LineContent) → IsCounted (count_of (xs ++ ys)) → IsCounted (count_of xs)
counted-part xs ys all =
    let sums = count-append xs ys in record {
      lines = omega (arith, all.lines, ap (λ (c : Count). c.lines) sums);
      characters = omega (arith, all.characters, ap (λ (c : Count). c.characters) sums);
      marks = omega (arith, all.marks, ap (λ (c : Count). c.marks) sums);
    }

pub counted-more : (xs ys : List LineContent) (line : LineContent) → IsCounted (count_of (xs ++ line ∷ ys)) →
    CountsFit (count_of xs) (line_count line)
counted-more xs ys line all =
    let sums = count-append xs (line ∷ ys) in record {
      lines = omega (arith, all.lines, ap (λ (c : Count). c.lines) sums);
      characters = omega (arith, all.characters, ap (λ (c : Count). c.characters) sums);
      marks = omega (arith, all.marks, ap (λ (c : Count). c.marks) sums);
    }
