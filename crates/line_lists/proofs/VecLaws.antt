-- What the list over a `Vec` makes of its lines is what a text may be.
use Rattle.line_lists.proofs.Common.{◌≡◌, ℕ, ◌+◌, ◌-◌, ◌<◌, ◌≤◌, Bool, true, false, cond, List, [], ◌∷◌, ◌++◌, Option}
use Rattle.line_lists.proofs.Common.{None, Some, get_or, length, map, take, drop, refl, set, sym, ap, ap₂, subst, ◌∙◌}
use Rattle.line_lists.proofs.Common.{arith, take-append-drop, nat_cmp_total, eq_by_cmp, nat_cmp, option_map, drop_at}
use Rattle.line_lists.proofs.Common.{length-map, length-take-le, take_at, map_over_more, Place, Marks, inserted}
use Rattle.line_lists.proofs.Common.{removed, same_marks, LineContent, joined, joined_marks, later, plain_line}
use Rattle.line_lists.proofs.Common.{get-joined_marks, or_else, without_mark, AreApart, AreLines, AreRows, GoesBefore}
use Rattle.line_lists.proofs.Common.{IsCounted, count_of, spliced, whole}
use Rattle.std.specs.Str.{chars}
use Rattle.line_lists.proofs.CountRows.{counted-part}
use Rattle.line_lists.proofs.EditLaws.{free_one, take-kept}
use Rattle.std.specs.FinMap as finite

-- the part before an index is counted
pub counted-front : (n : ℕ) (xs : List LineContent) → IsCounted (count_of xs) → IsCounted (count_of (take n xs))
counted-front n xs all =
    counted-part (take n xs) (drop n xs) (subst (λ ys. IsCounted (count_of ys)) (sym (take-append-drop n xs)) all)

-- lines are taken out, and others put in where they stood
pub spliced-made : (from count : ℕ) (new xs : List LineContent) → from ≤ length xs
    → inserted from new (removed from (from + count) xs) ≡ spliced from count new xs
spliced-made from count new xs within =
    let front = take from xs in
    let back = drop (from + count) xs in
    let long = length-take-le from xs within in
    ap₂ (λ ys zs. ys ++ new ++ zs) (take_at front back from long) (drop_at front back from long)

-- one line that has its newline alone
no_mark : (number : ℕ) (place : Place) → finite.get (plain_line (10 ∷ [])).marks number ≡ Some place → ⊥
no_mark number place is = let none : None ≡ Some place = sym (finite.get-empty nat_cmp number) ∙ is in absurd cc

newline : chars (10 ∷ []) ≡ 10 ∷ []
unfolding chars
newline = refl

pub newline-made : (lines made : List LineContent) (line : LineContent) → made ≡ lines ++ line ∷ [] → lines ≡ [] →
    line ≡ plain_line (chars (10 ∷ [])) → made ≡ plain_line (10 ∷ []) ∷ []
newline-made lines made line is none one =
    is ∙ ap₂ (λ front last. front ++ last ∷ []) none (one ∙ ap plain_line newline)

pub new-lines : (lines : List LineContent) → lines ≡ plain_line (10 ∷ []) ∷ [] → AreLines lines
new-lines lines is =
    let none = finite.len-empty nat_cmp Place in
    subst AreLines (sym is) (record {
      some = omega arith;
      rows = (record { ends = refl; once = refl }, (λ number place there. absurd (no_mark number place there)), tt);
      counted = record { lines = omega arith; characters = omega arith; marks = omega (arith, none) };
    })

-- the mark of a number is taken from each line
without_row : (test : Bool) (len : ℕ) (x y : Option Place)
    → or_else (option_map (later len) (cond test None y)) (cond test None x)
    ≡ cond test None (or_else (option_map (later len) y) x)
without_row true len x y = refl
without_row false len x y = refl

without-joined : (number : ℕ) (first second : LineContent) →
    joined (without_mark number first) (without_mark number second) ≡ without_mark number (joined first second)
without-joined number first second =
    let len = length first.columns in
    let marks = same_marks _ _ (λ q.
    get-joined_marks len (finite.remove first.marks number) (finite.remove second.marks number) q
    ∙ ap₂ (λ there here. or_else (option_map (later len) there) here)
    (finite.get-remove nat_cmp_total second.marks number q) (finite.get-remove nat_cmp_total first.marks number q)
    ∙ without_row (eq_by_cmp nat_cmp q number) len (finite.get first.marks q) (finite.get second.marks q)
    ∙ sym (finite.get-remove nat_cmp_total (joined_marks len first.marks second.marks) number q
    ∙ ap (cond (eq_by_cmp nat_cmp q number) None) (get-joined_marks len first.marks second.marks q))) in
    λ i. record { columns = first.columns ++ second.columns; marks = marks i }

without-none : (number : ℕ) → plain_line [] ≡ without_mark number (plain_line [])
without-none number =
    let marks : finite.empty ≡ finite.remove finite.empty number = same_marks _ _ (λ q.
    finite.get-empty nat_cmp q
    ∙ sym (finite.get-remove nat_cmp_total finite.empty number q
    ∙ ap (cond (eq_by_cmp nat_cmp q number) None) (finite.get-empty nat_cmp q)
    ∙ free_one (eq_by_cmp nat_cmp q number) None refl)) in
    λ i. record { columns = []; marks = marks i }

pub whole-without : (number : ℕ) (lines : List LineContent) →
    whole (map (without_mark number) lines) ≡ without_mark number (whole lines)
whole-without number [] = without-none number
whole-without number (line ∷ lines) =
    ap (joined (without_mark number line)) (whole-without number lines) ∙ without-joined number line (whole lines)

apart-without : (number : ℕ) (first second : Marks) → AreApart first second →
    AreApart (finite.remove first number) (finite.remove second number)
apart-without number first second apart = λ q place is.
    finite.get-remove nat_cmp_total second number q
    ∙ free_one (eq_by_cmp nat_cmp q number) (finite.get second q) (apart q place (take-kept number first q place is))

before-without : (number : ℕ) (line : LineContent) (lines : List LineContent) → GoesBefore line lines →
    GoesBefore (without_mark number line) (map (without_mark number) lines)
before-without number line [] goes = λ q place is. goes q place (take-kept number line.marks q place is)
before-without number line (next ∷ lines) goes = (
  (λ q place is. goes.0 q place (take-kept number line.marks q place is)),
  subst (λ (rest : LineContent). AreApart (finite.remove line.marks number) rest.marks)
      (sym (whole-without number (next ∷ lines)))
      (apart-without number line.marks (whole (next ∷ lines)).marks goes.1),
)

rows-without : (number : ℕ) (lines : List LineContent) → AreRows lines → AreRows (map (without_mark number) lines)
rows-without number [] rows = tt
rows-without number (line ∷ lines) rows = (
  record { ends = rows.0.ends; once = rows.0.once },
  before-without number line lines rows.1,
  rows-without number lines rows.2,
)

fewer : (test : Bool) (n m : ℕ) → n ≡ cond test (m - 1) m → n ≤ m
fewer true n m is = omega (arith, is)
fewer false n m is = omega (arith, is)

pub marks-without : (number : ℕ) (lines : List LineContent) →
    (count_of (map (without_mark number) lines)).marks ≤ (count_of lines).marks
marks-without number [] = omega arith
marks-without number (line ∷ lines) =
    omega (
      arith,
      marks-without number lines,
      fewer (finite.contains_key line.marks number) (finite.len (finite.remove line.marks number))
          (finite.len line.marks) (finite.len-remove nat_cmp_total line.marks number),
    )

pub characters-without : (number : ℕ) (lines : List LineContent) →
    (count_of (map (without_mark number) lines)).characters ≡ (count_of lines).characters
characters-without number [] = refl
characters-without number (line ∷ lines) = ap (λ n. length line.columns + n) (characters-without number lines)

pub lines-without : (number : ℕ) (lines : List LineContent) →
    (count_of (map (without_mark number) lines)).lines ≡ (count_of lines).lines
lines-without number [] = refl
lines-without number (line ∷ lines) = ap (λ n. 1 + n) (lines-without number lines)

-- lines are all written over by as many others
pub written-over : (n : ℕ) (new xs : List LineContent) → length new ≡ n → take n (new ++ drop (length new) xs) ≡ new
written-over n new xs long = take_at new (drop (length new) xs) n long

pub lines-are-without : (number : ℕ) (lines : List LineContent) → AreLines lines →
    AreLines (map (without_mark number) lines)
lines-are-without number lines are = record {
  some = omega (arith, are.some, length-map lines (without_mark number));
  rows = rows-without number lines are.rows;
  counted = record {
    lines = omega (arith, are.counted.lines, lines-without number lines);
    characters = omega (arith, are.counted.characters, characters-without number lines);
    marks = omega (arith, are.counted.marks, marks-without number lines);
  };
}

pub without-more : (number : ℕ) (old lines : List LineContent) (i : ℕ) (item new : LineContent) → i < length old →
    lines ≡ map (without_mark number) (take i old) ++ drop i old
    → item ≡ get_or lines i item → new.columns ≡ (get_or lines i item).columns →
    new.marks ≡ finite.remove (get_or lines i item).marks number
    → set lines i new ≡ map (without_mark number) (take (i + 1) old) ++ drop (i + 1) old
without-more number old lines i item new within so_far is columns marks =
    let made : new ≡ without_mark number (get_or lines i item) = λ k. record { columns = columns k; marks = marks k } in
    ap (set lines i) (made ∙ ap (without_mark number) (sym is))
    ∙ map_over_more (without_mark number) old lines i item within so_far is
