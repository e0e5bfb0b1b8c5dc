-- Lines in a row, and what a change of one of them makes of the row.
use Rattle.line_lists.proofs.Common.{◌≡◌, ℕ, Bool, true, false, ◌+◌, ◌-◌, ◌<◌, ◌≤◌, List, [], ◌∷◌, ◌++◌, Option, None}
use Rattle.line_lists.proofs.Common.{Some, cond, length, take, drop, refl, sym, ap, ap₂, ◌∙◌, arith, append_assoc}
use Rattle.line_lists.proofs.Common.{length-append, length-drop, take-append-drop, nat_cmp_total, eq_by_cmp, nat_cmp}
use Rattle.line_lists.proofs.Common.{option_map, slice_range, append-nil, length-map, length-take-le, drop-append-le}
use Rattle.line_lists.proofs.Common.{take-append-le, drop-append-add, take-append-add, Place, Slots, map_marks, drawn}
use Rattle.line_lists.proofs.Common.{inserted, moved, same_marks, changed-append_left, changed-append_right}
use Rattle.line_lists.proofs.Common.{inserted-append_left, inserted-append_right, length-changed, length-inserted}
use Rattle.line_lists.proofs.Common.{Column, LineContent, after_removal, after_text, joined, joined_marks, later}
use Rattle.line_lists.proofs.Common.{plain_columns, plain_line, toggled_first, toggles, with_toggle, without_columns}
use Rattle.line_lists.proofs.Common.{parity, joined_none, or_else, tied_same, with_cleared, with_mark, with_toggled}
use Rattle.line_lists.proofs.Common.{without_mark, whole, toggled_before}
use Rattle.line_lists.proofs.MarkRows.{StandBefore, StandWithin, drawn-Lifts, get-row, joined_marks-associative}
use Rattle.line_lists.proofs.MarkRows.{map_marks-row, moved-Lifts, none-joined_marks, row}
use Rattle.std.specs.FinMap as finite

pub joined-associative : (a b c : LineContent) → joined a (joined b c) ≡ joined (joined a b) c
joined-associative a b c =
    let marks =
    joined_marks-associative (length a.columns) (length b.columns) a.marks b.marks c.marks
    ∙ ap (λ n. joined_marks n (joined_marks (length a.columns) a.marks b.marks) c.marks)
    (sym (length-append a.columns b.columns)) in
    λ i. record { columns = sym (append_assoc a.columns b.columns c.columns) i; marks = marks i }

pub joined-none : (a : LineContent) → joined a (plain_line []) ≡ a
joined-none a = λ i. record { columns = append-nil a.columns i; marks = joined_none (length a.columns) a.marks i }

pub none-joined : (a : LineContent) → joined (plain_line []) a ≡ a
none-joined a = λ i. record { columns = a.columns; marks = none-joined_marks a.marks i }

pub whole-append : (xs ys : List LineContent) → whole (xs ++ ys) ≡ joined (whole xs) (whole ys)
whole-append [] ys = sym (none-joined (whole ys))
whole-append (x ∷ xs) ys = ap (joined x) (whole-append xs ys) ∙ joined-associative x (whole xs) (whole ys)

pub whole-one : (line : LineContent) → whole (line ∷ []) ≡ line
whole-one line = joined-none line

-- a line, or what lines say, between others
abbrev pub between : LineContent → LineContent → LineContent → LineContent
between front line back = joined front (joined line back)

pub whole-between : (front middle back : List LineContent) →
    whole (front ++ middle ++ back) ≡ between (whole front) (whole middle) (whole back)
whole-between front middle back =
    ap whole (append_assoc front middle back) ∙ whole-append front (middle ++ back)
    ∙ ap (joined (whole front)) (whole-append middle back)

-- ---- a text goes in
pub after_text-between : (at : ℕ) (text : List ℕ) (front line back : LineContent) →
    StandBefore (length front.columns) front.marks → at < length line.columns
    → after_text (length front.columns + at) text (between front line back)
    ≡ between front (after_text at text line) back
after_text-between at text front line back before within =
    let one = length front.columns in
    let two = length line.columns in
    let new = plain_columns text in
    let count : length new ≡ length text = length-map text _ in
    let longer : length (inserted at new line.columns)
    ≡ two + length text = length-inserted at new line.columns (omega arith) ∙ ap (λ n. two + n) count in
    let columns =
    inserted-append_right at new front.columns (line.columns ++ back.columns)
    ∙ ap (λ part. front.columns ++ part) (inserted-append_left at new line.columns back.columns (omega arith)) in
    let marks =
    map_marks-row (moved (one + at) (length text)) (moved at (length text)) one two (two + length text) front.marks
    line.marks back.marks
    (moved-Lifts one two at (length text) front.marks line.marks before within)
    ∙ ap (λ n. row one n front.marks (map_marks (moved at (length text)) line.marks) back.marks) (sym longer) in
    λ i. record { columns = columns i; marks = marks i }

-- ---- characters go out
first-append : (slots : Slots) (xs ys : List Column) → 0 < length xs →
    toggled_first slots (xs ++ ys) ≡ toggled_first slots xs ++ ys
first-append slots [] ys some = absurd (omega arith)
first-append slots (x ∷ xs) ys some = refl

without-append : (from to : ℕ) (xs ys : List Column) → from ≤ to → to < length xs →
    without_columns from to (xs ++ ys) ≡ without_columns from to xs ++ ys
without-append from to xs ys ordered within =
    ap₂ (λ front part. front ++ part) (take-append-le from xs ys (omega arith))
    (ap₂ (λ part rest. toggled_first (parity (toggles part)) rest)
    (ap (take (to - from)) (drop-append-le from xs ys (omega arith))
    ∙ take-append-le (to - from) (drop from xs) ys (omega (arith, length-drop from xs)))
    (drop-append-le to xs ys (omega arith))
    ∙ first-append (parity (toggles (slice_range xs from to))) (drop to xs) ys (omega (arith, length-drop to xs)))
    ∙ sym (append_assoc (take from xs) (toggled_first (parity (toggles (slice_range xs from to))) (drop to xs)) ys)

pub without-behind : (from to : ℕ) (xs ys : List Column) →
    without_columns (length xs + from) (length xs + to) (xs ++ ys) ≡ xs ++ without_columns from to ys
without-behind from to xs ys =
    ap₂ (λ front part. front ++ part) (take-append-add xs ys from)
    (ap₂ (λ part rest. toggled_first (parity (toggles part)) rest)
    (ap₂ take (let same : (length xs + to) - (length xs + from) ≡ to - from = omega arith in
    same) (drop-append-add xs ys from))
    (drop-append-add xs ys to))
    ∙ append_assoc xs (take from ys) (toggled_first (parity (toggles (slice_range ys from to))) (drop to ys))

length-first : (slots : Slots) (xs : List Column) → length (toggled_first slots xs) ≡ length xs
length-first slots [] = refl
length-first slots (x ∷ xs) = refl

pub length-without : (from to : ℕ) (xs : List Column) → from ≤ to → to ≤ length xs →
    length (without_columns from to xs) ≡ from + (length xs - to)
length-without from to xs ordered within =
    let slots = parity (toggles (slice_range xs from to)) in
    length-append (take from xs) (toggled_first slots (drop to xs))
    ∙ ap₂ (λ a b. a + b) (length-take-le from xs (omega arith)) (length-first slots (drop to xs) ∙ length-drop to xs)

pub after_removal-between : (from to : ℕ) (front line back : LineContent) →
    StandWithin (length front.columns) front.marks → from ≤ to → to < length line.columns
    → after_removal (length front.columns + from) (length front.columns + to) (between front line back)
    ≡ between front (after_removal from to line) back
after_removal-between from to front line back stand ordered within =
    let one = length front.columns in
    let two = length line.columns in
    let columns =
    without-behind from to front.columns (line.columns ++ back.columns)
    ∙ ap (λ part. front.columns ++ part) (without-append from to line.columns back.columns ordered within) in
    let marks =
    map_marks-row (drawn (one + from) (one + to)) (drawn from to) one two (from + (two - to)) front.marks line.marks
    back.marks
    (drawn-Lifts one two from to front.marks line.marks stand ordered (omega arith))
    ∙ ap (λ n. row one n front.marks (map_marks (drawn from to) line.marks) back.marks)
    (sym (length-without from to line.columns ordered (omega arith))) in
    λ i. record { columns = columns i; marks = marks i }

-- ---- toggles
toggled-append : (at : ℕ) (slots : Slots) (xs ys : List Column) → at < length xs →
    toggled_before at slots (xs ++ ys) ≡ toggled_before at slots xs ++ ys
toggled-append at slots xs ys within =
    ap₂ (λ front part. front ++ toggled_first slots part) (take-append-le at xs ys (omega arith))
    (drop-append-le at xs ys (omega arith))
    ∙ ap (λ part. take at xs ++ part) (first-append slots (drop at xs) ys (omega (arith, length-drop at xs)))
    ∙ sym (append_assoc (take at xs) (toggled_first slots (drop at xs)) ys)

toggled-behind : (at : ℕ) (slots : Slots) (xs ys : List Column) →
    toggled_before (length xs + at) slots (xs ++ ys) ≡ xs ++ toggled_before at slots ys
toggled-behind at slots xs ys =
    ap₂ (λ front part. front ++ toggled_first slots part) (take-append-add xs ys at) (drop-append-add xs ys at)
    ∙ append_assoc xs (take at ys) (toggled_first slots (drop at ys))

pub length-toggled : (at : ℕ) (slots : Slots) (xs : List Column) → length (toggled_before at slots xs) ≡ length xs
length-toggled at slots xs =
    length-append (take at xs) (toggled_first slots (drop at xs))
    ∙ ap (λ n. length (take at xs) + n) (length-first slots (drop at xs))
    ∙ sym (length-append (take at xs) (drop at xs)) ∙ ap length (take-append-drop at xs)

pub with_toggled-between : (at : ℕ) (slots : Slots) (front line back : LineContent) → at < length line.columns
    → with_toggled (length front.columns + at) slots (between front line back)
    ≡ between front (with_toggled at slots line) back
with_toggled-between at slots front line back within =
    let columns =
    toggled-behind at slots front.columns (line.columns ++ back.columns)
    ∙ ap (λ part. front.columns ++ part) (toggled-append at slots line.columns back.columns within) in
    let marks = ap (λ n. row (length front.columns) n front.marks line.marks back.marks)
    (sym (length-toggled at slots line.columns)) in
    λ i. record { columns = columns i; marks = marks i }

pub with_cleared-between : (slot from to : ℕ) (front line back : LineContent) → from ≤ to → to ≤ length line.columns
    → with_cleared slot (length front.columns + from) (length front.columns + to) (between front line back)
    ≡ between front (with_cleared slot from to line) back
with_cleared-between slot from to front line back ordered within =
    let clear = with_toggle slot false in
    let columns =
    changed-append_right clear from to front.columns (line.columns ++ back.columns)
    ∙ ap (λ part. front.columns ++ part) (changed-append_left clear from to line.columns back.columns ordered within) in
    let marks = ap (λ n. row (length front.columns) n front.marks line.marks back.marks)
    (sym (length-changed clear from to line.columns ordered within)) in
    λ i. record { columns = columns i; marks = marks i }

-- ---- marks
put_row : (test : Bool) (one two : ℕ) (place : Place) (x y z : Option Place) → (test ≡ true → z ≡ None)
    → cond test (Some (later one place)) (or_else (option_map (later one) (or_else (option_map (later two) z) y)) x)
    ≡ or_else (option_map (later one) (or_else (option_map (later two) z) (cond test (Some place) y))) x
put_row true one two place x y z free = ap (λ found.
    or_else (option_map (later one) (or_else (option_map (later two) found) (Some place))) x) (sym (free refl))
put_row false one two place x y z free = refl

pub with_mark-between : (number : ℕ) (place : Place) (front line back : LineContent) →
    finite.get back.marks number ≡ None
    → with_mark number (later (length front.columns) place) (between front line back)
    ≡ between front (with_mark number place line) back
with_mark-between number place front line back free =
    let one = length front.columns in
    let two = length line.columns in
    let marks = same_marks _ _ (λ q.
    finite.get-insert nat_cmp_total (row one two front.marks line.marks back.marks) number (later one place) q
    ∙ ap (cond (eq_by_cmp nat_cmp q number) (Some (later one place)))
    (get-row one two front.marks line.marks back.marks q)
    ∙ put_row (eq_by_cmp nat_cmp q number) one two place (finite.get front.marks q) (finite.get line.marks q)
    (finite.get back.marks q)
    (λ tie. ap (finite.get back.marks) (tied_same q number tie) ∙ free)
    ∙ sym (get-row one two front.marks (finite.insert line.marks number place) back.marks q
    ∙ ap (λ found. or_else (option_map (later one) (or_else (option_map (later two) (finite.get back.marks q)) found))
    (finite.get front.marks q)) (finite.get-insert nat_cmp_total line.marks number place q))) in
    λ i. record { columns = front.columns ++ (line.columns ++ back.columns); marks = marks i }

take_row : (test : Bool) (one two : ℕ) (x y z : Option Place) → (test ≡ true → z ≡ None) → (test ≡ true → x ≡ None)
    → cond test None (or_else (option_map (later one) (or_else (option_map (later two) z) y)) x)
    ≡ or_else (option_map (later one) (or_else (option_map (later two) z) (cond test None y))) x
take_row true one two x y z free none = ap₂ (λ found first.
    or_else (option_map (later one) (or_else (option_map (later two) found) None)) first) (sym (free refl))
    (sym (none refl))
take_row false one two x y z free none = refl

pub without_mark-between : (number : ℕ) (front line back : LineContent) → finite.get front.marks number ≡ None →
    finite.get back.marks number ≡ None
    → without_mark number (between front line back) ≡ between front (without_mark number line) back
without_mark-between number front line back none free =
    let one = length front.columns in
    let two = length line.columns in
    let marks = same_marks _ _ (λ q.
    finite.get-remove nat_cmp_total (row one two front.marks line.marks back.marks) number q
    ∙ ap (cond (eq_by_cmp nat_cmp q number) None) (get-row one two front.marks line.marks back.marks q)
    ∙ take_row (eq_by_cmp nat_cmp q number) one two (finite.get front.marks q) (finite.get line.marks q)
    (finite.get back.marks q)
    (λ tie. ap (finite.get back.marks) (tied_same q number tie) ∙ free)
    (λ tie. ap (finite.get front.marks) (tied_same q number tie) ∙ none)
    ∙ sym (get-row one two front.marks (finite.remove line.marks number) back.marks q
    ∙ ap (λ found. or_else (option_map (later one) (or_else (option_map (later two) (finite.get back.marks q)) found))
    (finite.get front.marks q)) (finite.get-remove nat_cmp_total line.marks number q))) in
    λ i. record { columns = front.columns ++ (line.columns ++ back.columns); marks = marks i }
