-- Lines of a text, of which one changes.
use Rattle.line_lists.proofs.Common.{◌≡◌, ◌≢◌, ℕ, ◌+◌, ◌<◌, List, [], ◌∷◌, ◌++◌, Option, None, Some, length, get_or}
use Rattle.line_lists.proofs.Common.{map, take, drop, refl, sym, ap, ap₂, subst, ◌∙◌, arith, append_assoc}
use Rattle.line_lists.proofs.Common.{take-append-drop, option_map, Place, drop_more, get_or_default, length-map}
use Rattle.line_lists.proofs.Common.{map-append, Marks, Slots, ends_in_newline, lines, changed, Column, LineContent}
use Rattle.line_lists.proofs.Common.{characters, joined, later, toggled_first, toggled_more, get-joined_marks, or_else}
use Rattle.line_lists.proofs.Common.{Copied, Stop, IsDraft, IsText, drafted_at, with_toggled, AreApart, AreRows}
use Rattle.line_lists.proofs.Common.{GoesBefore, IsLine, whole, toggled_before}
use Rattle.line_lists.proofs.StepLaws.{slice-one}
use Rattle.line_lists.proofs.WholeLaws.{between, whole-append, with_toggled-between}
use Rattle.std.specs.FinMap as finite
use Rattle.std.specs.FinSet as set

pub whole-around : (before behind : List LineContent) (line : LineContent) →
    whole (before ++ line ∷ behind) ≡ between (whole before) line (whole behind)
whole-around before behind line = whole-append before (line ∷ behind)

-- ---- marks that stand in none of two parts
nowhere : (len : ℕ) (found first : Option Place) → found ≡ None → first ≡ None →
    or_else (option_map (later len) found) first ≡ None
nowhere len found first one other = ap₂ (λ x y. or_else (option_map (later len) x) y) one other

neither : (len : ℕ) (found first : Option Place) → or_else (option_map (later len) found) first ≡ None →
    (found ≡ None) × (first ≡ None)
neither len None first is = (refl, is)
neither len (Some place) first is = let no : ◌≡◌ {A = Option Place} (Some (later len place)) None = is in absurd (cc)

pub free-joined : (a b : LineContent) (number : ℕ) → finite.get a.marks number ≡ None →
    finite.get b.marks number ≡ None → finite.get (joined a b).marks number ≡ None
free-joined a b number first second =
    get-joined_marks (length a.columns) a.marks b.marks number
    ∙ nowhere (length a.columns) (finite.get b.marks number) (finite.get a.marks number) second first

pub free-parts : (a b : LineContent) (number : ℕ) → finite.get (joined a b).marks number ≡ None →
    (finite.get b.marks number ≡ None) × (finite.get a.marks number ≡ None)
free-parts a b number free =
    neither (length a.columns) (finite.get b.marks number) (finite.get a.marks number)
    (sym (get-joined_marks (length a.columns) a.marks b.marks number) ∙ free)

-- each mark of one stands in the other
abbrev pub AreAmong : Marks → Marks → Type 0
AreAmong first second = (number : ℕ) → finite.get second number ≡ None → finite.get first number ≡ None

first_there : (len : ℕ) (found : Option Place) (place : Place) →
    or_else (option_map (later len) found) (Some place) ≢ None
first_there len None place is = cc
first_there len (Some other) place is = cc

-- a mark of the first of two parts is one of both
there-joined : (a b : LineContent) (number : ℕ) (place : Place) → finite.get a.marks number ≡ Some place →
    finite.get (joined a b).marks number ≢ None
there-joined a b number place is free =
    first_there (length a.columns) (finite.get b.marks number) place
    (ap (or_else (option_map (later (length a.columns)) (finite.get b.marks number))) (sym is)
    ∙ sym (get-joined_marks (length a.columns) a.marks b.marks number) ∙ free)

-- each number that marks something in one marks nothing that is new in others
abbrev pub StayFree : Marks → Marks → Marks → Type 0
StayFree marks old new =
    (number : ℕ) → finite.get marks number ≢ None → finite.get old number ≡ None → finite.get new number ≡ None

more-free : (a b : LineContent) (old new : Marks) → StayFree (joined a b).marks old new → StayFree b.marks old new
more-free a b old new stay number there = stay number (λ free. there (free-parts a b number free).0)

-- lines before others that change, where no mark of theirs is new
pub rows-among : (before rest new : List LineContent) → 0 < length rest → 0 < length new → AreRows (before ++ rest) →
    AreRows new → StayFree (whole before).marks (whole rest).marks (whole new).marks → AreRows (before ++ new)
rows-among [] rest new some more rows next stay = next
rows-among (x ∷ []) (r ∷ rest) (n ∷ new) some more rows next stay =
    let apart : AreApart x.marks (whole (n ∷ new)).marks = λ number place is.
    stay number (there-joined x (whole []) number place is) (rows.1.1 number place is) in
    (rows.0, (rows.1.0, apart), next)
rows-among (x ∷ y ∷ before) rest new some more rows next stay =
    let apart : AreApart x.marks (whole (y ∷ before ++ new)).marks = λ number place is.
    let free = free-parts (whole (y ∷ before)) (whole rest) number
    (ap (λ (line : LineContent). finite.get line.marks number) (sym (whole-append (y ∷ before) rest))
    ∙ rows.1.1 number place is) in
    ap (λ (line : LineContent). finite.get line.marks number) (whole-append (y ∷ before) new)
    ∙ free-joined (whole (y ∷ before)) (whole new) number free.1
    (stay number (there-joined x (whole (y ∷ before)) number place is) free.0) in (
      rows.0,
      (rows.1.0, apart),
      rows-among (y ∷ before) rest new some more rows.2 next
          (more-free x (whole (y ∷ before)) (whole rest).marks (whole new).marks stay),
    )
rows-among (x ∷ []) [] new some more rows next stay = absurd (omega (arith, some))
rows-among (x ∷ []) (r ∷ rest) [] some more rows next stay = absurd (omega (arith, more))

pub rows-before : (before rest new : List LineContent) → 0 < length rest → 0 < length new → AreRows (before ++ rest) →
    AreRows new → AreAmong (whole new).marks (whole rest).marks → AreRows (before ++ new)
rows-before before rest new some more rows next among =
    rows-among before rest new some more rows next (λ number there. among number)

pub rows-behind : (before rest : List LineContent) → AreRows (before ++ rest) → AreRows rest
rows-behind [] rest rows = rows
rows-behind (x ∷ before) rest rows = rows-behind before rest rows.2

pub among-first : (line new : LineContent) (behind : List LineContent) → AreAmong new.marks line.marks →
    AreAmong (whole (new ∷ behind)).marks (whole (line ∷ behind)).marks
among-first line new behind among number free =
    let parts = free-parts line (whole behind) number free in
    free-joined new (whole behind) number (among number parts.1) parts.0

goes-before : (line new : LineContent) (behind : List LineContent) → length new.columns ≡ length line.columns →
    new.marks ≡ line.marks → GoesBefore line behind → GoesBefore new behind
goes-before line new [] long same goes = λ number place is.
    let stands = goes number place (ap (λ marks. finite.get marks number) (sym same) ∙ is) in
    omega (arith, stands, long)
goes-before line new (next ∷ others) long same goes = (
  (λ number place is. let stands = goes.0 number place (ap (λ marks. finite.get marks number) (sym same) ∙ is) in
      omega (arith, stands, long)),
  (λ number place is. goes.1 number place (ap (λ marks. finite.get marks number) (sym same) ∙ is)),
)

-- a line whose characters and marks stay
pub rows-changed : (before behind : List LineContent) (line new : LineContent) →
    characters new.columns ≡ characters line.columns → new.marks ≡ line.marks → AreRows (before ++ line ∷ behind)
    → AreRows (before ++ new ∷ behind)
rows-changed before behind line new text same rows =
    let rest = rows-behind before (line ∷ behind) rows in
    let long : length new.columns ≡ length line.columns = sym
    (length-map new.columns (λ (column : Column). column.character)) ∙ ap length text
    ∙ length-map line.columns (λ (column : Column). column.character) in
    let is : IsLine new = record {
      ends = ap ends_in_newline text ∙ rest.0.ends;
      once = ap lines text ∙ rest.0.once;
    } in
    rows-before before (line ∷ behind) (new ∷ behind) (omega arith) (omega arith) rows (
      is,
      goes-before line new behind long same rest.1,
      rest.2,
    )
    (among-first line new behind (λ number free. ap (λ marks. finite.get marks number) same ∙ free))

-- ---- toggles
pub characters-first : (slots : Slots) (xs : List Column) → characters (toggled_first slots xs) ≡ characters xs
characters-first slots [] = refl
characters-first slots (x ∷ xs) = refl

pub characters-toggled : (at : ℕ) (slots : Slots) (xs : List Column) →
    characters (toggled_before at slots xs) ≡ characters xs
characters-toggled at slots xs =
    map-append (λ (column : Column). column.character) (take at xs) (toggled_first slots (drop at xs))
    ∙ ap (λ rest. characters (take at xs) ++ rest) (characters-first slots (drop at xs))
    ∙ sym (map-append (λ (column : Column). column.character) (take at xs) (drop at xs))
    ∙ ap characters (take-append-drop at xs)

-- a line that is changed before one of its characters
pub toggled-line : (at : ℕ) (slots : Slots) (xs : List Column) → at < length xs →
    changed (toggled_more slots) at (at + 1) xs ≡ toggled_before at slots xs
toggled-line at slots xs within =
    let none : Column = record { character = 0; toggled = set.empty } in
    let x : Column = get_or xs at none in
    let is : x ≡ get_or xs at x = get_or_default xs at none x within in
    let rest : drop at xs ≡ x ∷ drop (at + 1) xs = drop_more xs at x within ∙ ap (λ y. y ∷ drop (at + 1) xs) (sym is) in
    ap (λ part. take at xs ++ map (toggled_more slots) part ++ drop (at + 1) xs) (slice-one at xs x within is)
    ∙ append_assoc (take at xs) (toggled_more slots x ∷ []) (drop (at + 1) xs)
    ∙ ap (λ part. take at xs ++ toggled_first slots part) (sym rest)

pub toggled-rows : (at : ℕ) (slots : Slots) (before behind : List LineContent) (line : LineContent) →
    AreRows (before ++ line ∷ behind) → AreRows (before ++ with_toggled at slots line ∷ behind)
toggled-rows at slots before behind line rows =
    rows-changed before behind line (with_toggled at slots line) (characters-toggled at slots line.columns) refl rows

pub toggled-whole : (at : ℕ) (slots : Slots) (before behind : List LineContent) (line : LineContent) →
    at < length line.columns
    → whole (before ++ with_toggled at slots line ∷ behind)
    ≡ with_toggled (length (whole before).columns + at) slots (whole (before ++ line ∷ behind))
toggled-whole at slots before behind line within =
    whole-around before behind (with_toggled at slots line)
    ∙ sym (ap (with_toggled (length (whole before).columns + at) slots) (whole-around before behind line)
    ∙ with_toggled-between at slots (whole before) line (whole behind) within)

-- what a change of one line makes of all
pub record Makes (f : LineContent → LineContent) (old new : List LineContent) : Type 0 where
  pub rows : AreRows old → AreRows new
  pub whole : whole new ≡ f (whole old)

-- a draft of such lines is one of a text
pub made-text : {lines old new : List LineContent} {front : List Stop} {back : List Copied}
    {f : LineContent → LineContent} → IsDraft lines front back → drafted_at lines front back ≡ new → Makes f old new → AreRows old →
    IsText lines front back
made-text draft same makes rows = record { draft = draft; rows = subst AreRows (sym same) (makes.rows rows) }

pub toggled-makes : (before behind old : List LineContent) (line new : LineContent) (offset column : ℕ) (slots : Slots)
    → before ++ line ∷ behind ≡ old → offset ≡ length (whole before).columns + column
    → column < length line.columns → new ≡ with_toggled column slots line →
    Makes (with_toggled offset slots) old (before ++ new ∷ behind)
toggled-makes before behind old line new offset column slots old_is place inside new_is = record {
  rows = λ rows. subst (λ x. AreRows (before ++ x ∷ behind)) (sym new_is)
      (toggled-rows column slots before behind line (subst AreRows (sym old_is) rows));
  whole =
      ap (λ x. whole (before ++ x ∷ behind)) new_is ∙ toggled-whole column slots before behind line inside
      ∙ ap₂ (λ n xs. with_toggled n slots (whole xs)) (sym place) old_is;
}
