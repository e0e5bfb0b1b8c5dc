-- A mark that goes to the end of the text of a draft.
use Rattle.line_lists.proofs.Common.{◌≡◌, ℕ, ◌+◌, ◌-◌, ◌<◌, ◌≤◌, List, [], ◌∷◌, ◌++◌, None, length, take, drop, refl}
use Rattle.line_lists.proofs.Common.{sym, ap, ap₂, subst, ◌∙◌, arith, length-append, Place, LineContent, later, Copied}
use Rattle.line_lists.proofs.Common.{Stop, IsText, covered, drafted, drafted_at, in_order, text_at, with_mark, AreRows}
use Rattle.line_lists.proofs.Common.{GoesBefore, IsLine, whole}
use Rattle.line_lists.proofs.EditLaws.{free-around, mark-stays, mark-whole, put-stands, some-columns}
use Rattle.line_lists.proofs.FreedLaws.{drafted-cons}
use Rattle.line_lists.proofs.RowLaws.{Makes, rows-among, rows-behind, whole-around}
use Rattle.std.specs.FinMap as finite

-- ---- the end of the text
drafted-some : (copies : List Copied) (lines : List LineContent) → 0 < length lines → 0 < length (drafted copies lines)
drafted-some [] lines some = some
drafted-some (copy ∷ copies) lines some =
    omega (
      arith,
      ap length (drafted-cons copy copies lines),
      length-append (take copy.kept lines) (copy.line ∷ drafted copies (drop (covered copy) lines)),
    )

pub rows-some : (lines : List LineContent) → 0 < length lines → AreRows lines → 0 < length (whole lines).columns
rows-some [] some rows = absurd (omega (arith, some))
rows-some (line ∷ lines) some rows =
    omega (arith, some-columns line.columns rows.0.ends, length-append line.columns (whole lines).columns)

pub draft-some : {lines : List LineContent} {front : List Stop} {back : List Copied} → 0 < length lines →
    IsText lines front back → 0 < length (text_at lines front back).columns
draft-some {lines} {front} {back} some is =
    rows-some (drafted_at lines front back) (drafted-some (in_order front back) lines some) is.rows

none-behind : (lines : List LineContent) → AreRows lines → length (whole lines).columns ≡ 0 → lines ≡ []
none-behind [] rows none = refl
none-behind (line ∷ lines) rows none =
    absurd (let some = rows-some (line ∷ lines) (omega arith) rows in omega (arith, some, none))

pub length-around : (before behind : List LineContent) (line : LineContent) →
    length (whole (before ++ line ∷ behind)).columns
    ≡ length (whole before).columns + (length line.columns + length (whole behind).columns)
length-around before behind line =
    ap (λ (x : LineContent). length x.columns) (whole-around before behind line)
    ∙ length-append (whole before).columns (line.columns ++ (whole behind).columns)
    ∙ ap (λ n. length (whole before).columns + n) (length-append line.columns (whole behind).columns)

last-goes : (number : ℕ) (place : Place) (line : LineContent) → place.offset ≤ length line.columns →
    GoesBefore line [] → GoesBefore (with_mark number place line) []
last-goes number place line within goes = λ q here is.
    let stands = put-stands number (length line.columns + 1) place line.marks (omega (arith, within)) (λ p there found.
    omega (arith, goes p there found)) q here is in
    omega (arith, stands)

last-rows : (number : ℕ) (place : Place) (before : List LineContent) (line : LineContent) →
    place.offset ≤ length line.columns
    → finite.get (whole (before ++ line ∷ [])).marks number ≡ None → AreRows (before ++ line ∷ []) →
    AreRows (before ++ with_mark number place line ∷ [])
last-rows number place before line within free rows =
    let rest = rows-behind before (line ∷ []) rows in
    let none = free-around number before [] line free in
    let is : IsLine (with_mark number place line) = record { ends = rest.0.ends; once = rest.0.once } in
    rows-among before (line ∷ []) (with_mark number place line ∷ []) (omega arith) (omega arith) rows (
      is,
      last-goes number place line within rest.1,
      tt,
    )
    (mark-stays number place line before [] none.0)

-- what is made of lines of a text
pub last-makes : (before behind old : List LineContent) (line new : LineContent) (place : Place) (number column : ℕ) →
    before ++ line ∷ behind ≡ old → AreRows old
    → 0 < length (whole old).columns → place.offset ≡ length (whole old).columns →
    place.offset - 1 ≡ length (whole before).columns + column → column < length line.columns
    → finite.get (whole old).marks number ≡ None → new ≡ with_mark number (record place { offset = column + 1 }) line →
    Makes (with_mark number place) old (before ++ new ∷ behind)
last-makes before behind old line new place number column old_is rows some ends stands inside free new_is =
    let here : Place = record place { offset = column + 1 } in
    let long = length-around before behind line in
    let all = ap (λ xs. length (whole xs).columns) old_is in
    let are = subst AreRows (sym old_is) rows in
    let last : behind ≡ [] = none-behind behind (rows-behind before (line ∷ behind) are).2
    (omega (arith, some, long, all, ends, stands, inside)) in
    let none = subst (λ xs. finite.get (whole xs).marks number ≡ None) (sym old_is) free in
    let later_is : later (length (whole before).columns) here ≡ place =
    ap (λ n. record place { offset = n }) (let same : (column + 1) + length (whole before).columns
    ≡ place.offset = omega (arith, some, ends, stands) in same) in
    record {
      rows = λ _.
          subst (λ xs. AreRows (before ++ new ∷ xs)) (sym last) (subst (λ x. AreRows (before ++ x ∷ [])) (sym new_is)
          (last-rows number here before line (omega (arith, inside))
          (subst (λ xs. finite.get (whole (before ++ line ∷ xs)).marks number ≡ None) last none)
          (subst (λ xs. AreRows (before ++ line ∷ xs)) last are)));
      whole =
          ap (λ x. whole (before ++ x ∷ behind)) new_is ∙ mark-whole number here before behind line none
          ∙ ap₂ (λ p xs. with_mark number p (whole xs)) later_is old_is;
    }
