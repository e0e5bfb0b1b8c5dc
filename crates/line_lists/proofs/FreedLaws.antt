-- Lines from which the marks of copies are taken off.
use Rattle.line_lists.proofs.Common.{◌≡◌, ◌≢◌, ℕ, zero, suc, ◌+◌, ◌<◌, ◌≤◌, Bool, true, false, ◌⊎◌, inl, inr, List, []}
use Rattle.line_lists.proofs.Common.{◌∷◌, ◌++◌, Option, None, Some, cond, length, map, take, drop, refl, sym, ap, ap₂}
use Rattle.line_lists.proofs.Common.{subst, ◌∙◌, arith, append_assoc, option_map, slice_get, IsSome, nat_cmp_total}
use Rattle.line_lists.proofs.Common.{unsigned_tied, eq_by_cmp, nat_cmp, nat_tests, drop-drop, drop-map, length-map}
use Rattle.line_lists.proofs.Common.{take-map, take_all, MarkNo, Place, same_marks, LineContent, tied_same, Copied}
use Rattle.line_lists.proofs.Common.{covered, drafted, made_lines, used, without_mark, AreApart, AreLines, AreRows}
use Rattle.line_lists.proofs.Common.{GoesBefore, count_of, copied_lines, freed, numbers_in, numbers_of, whole}
use Rattle.std.specs.FinMap.Entries.{find}
use Rattle.line_lists.proofs.DraftLaws.{none_at}
use Rattle.line_lists.proofs.EditLaws.{free_one, rows-apart}
use Rattle.line_lists.proofs.RowLaws.{free-joined, free-parts, rows-behind}
use Rattle.line_lists.proofs.VecLaws.{characters-without, lines-are-without, lines-without, marks-without}
use Rattle.line_lists.proofs.VecLaws.{whole-without}
use Rattle.line_lists.proofs.WholeLaws.{whole-append}
use Rattle.std.specs.FinMap as finite

-- ---- the numbers of a line's marks, one by one
abbrev number_of : ℕ × Place → ℕ
number_of entry = entry.0

numbers_more : (entries : List (ℕ × Place)) (i number : ℕ) (place : Place) →
    slice_get entries i ≡ Some (number, place) → take (suc i) (map number_of entries)
    ≡ take i (map number_of entries) ++ number ∷ []
numbers_more [] i number place is =
    absurd (let no : ◌≡◌ {A = Option (ℕ × Place)} None (Some (number, place)) = is in cc)
numbers_more (entry ∷ entries) zero number place is = let same : entry ≡ (number, place) = cc in
    ap (λ (e : ℕ × Place). e.0 ∷ []) same
numbers_more (entry ∷ entries) (suc i) number place is =
    ap (λ rest. entry.0 ∷ rest) (numbers_more entries i number place is)

pub numbers-more : (line : LineContent) (before : List ℕ) (i number : ℕ) (place : Place) →
    Some (number, place) ≡ slice_get (finite.entries line.marks) i
    → before ++ take (i + 1) (numbers_of line) ≡ (before ++ take i (numbers_of line)) ++ number ∷ []
numbers-more line before i number place is =
    ap (λ n. before ++ take n (numbers_of line)) (let one : i + 1 ≡ suc i = omega arith in one)
    ∙ ap (λ xs. before ++ xs) (numbers_more (finite.entries line.marks) i number place (sym is))
    ∙ sym (append_assoc before (take i (numbers_of line)) (number ∷ []))

pub numbers-all : (line : LineContent) (i : ℕ) → None ≡ slice_get (finite.entries line.marks) i →
    take i (numbers_of line) ≡ numbers_of line
numbers-all line i is = take_all i (numbers_of line)
    (omega (arith, none_at (finite.entries line.marks) i (sym is), length-map (finite.entries line.marks) number_of))

pub number-there : (line : LineContent) (i : ℕ) (found : Option (MarkNo × Place)) → i < finite.len line.marks →
    option_map (λ (mark : MarkNo × Place). (mark.0.0, mark.1)) found ≡ slice_get (finite.entries line.marks) i
    → IsSome found
number-there line i (Some mark) within is = refl
number-there line i None within is =
    absurd (omega (arith, within, none_at (finite.entries line.marks) i (sym is), finite.len-entries line.marks))

pub all-numbers : (line : LineContent) (i : ℕ) → finite.len line.marks ≤ i → take i (numbers_of line) ≡ numbers_of line
all-numbers line i all = take_all i (numbers_of line)
    (omega (arith, all, length-map (finite.entries line.marks) number_of, finite.len-entries line.marks))

-- ---- lines without the marks of some numbers
pub freed-lines : (numbers : List ℕ) (lines : List LineContent) → AreLines lines → AreLines (freed numbers lines)
freed-lines [] lines are = are
freed-lines (number ∷ numbers) lines are =
    freed-lines numbers (map (without_mark number) lines) (lines-are-without number lines are)

pub freed-length : (numbers : List ℕ) (lines : List LineContent) → length (freed numbers lines) ≡ length lines
freed-length [] lines = refl
freed-length (number ∷ numbers) lines =
    freed-length numbers (map (without_mark number) lines) ∙ length-map lines (without_mark number)

pub freed-count_lines : (numbers : List ℕ) (lines : List LineContent) →
    (count_of (freed numbers lines)).lines ≡ (count_of lines).lines
freed-count_lines [] lines = refl
freed-count_lines (number ∷ numbers) lines =
    freed-count_lines numbers (map (without_mark number) lines) ∙ lines-without number lines

pub freed-count_characters : (numbers : List ℕ) (lines : List LineContent) →
    (count_of (freed numbers lines)).characters ≡ (count_of lines).characters
freed-count_characters [] lines = refl
freed-count_characters (number ∷ numbers) lines =
    freed-count_characters numbers (map (without_mark number) lines) ∙ characters-without number lines

pub freed-count_marks : (numbers : List ℕ) (lines : List LineContent) →
    (count_of (freed numbers lines)).marks ≤ (count_of lines).marks
freed-count_marks [] lines = omega arith
freed-count_marks (number ∷ numbers) lines =
    omega (arith, freed-count_marks numbers (map (without_mark number) lines), marks-without number lines)

-- ---- a number that is among those that go
abbrev pub Names : ℕ → List ℕ → Type 0
Names number [] = ⊥
Names number (first ∷ numbers) = (number ≡ first) ⊎ Names number numbers

pub names-left : (number : ℕ) (xs ys : List ℕ) → Names number xs → Names number (xs ++ ys)
names-left number [] ys names = absurd names
names-left number (x ∷ xs) ys (inl same) = inl same
names-left number (x ∷ xs) ys (inr names) = inr (names-left number xs ys names)

pub names-right : (number : ℕ) (xs ys : List ℕ) → Names number ys → Names number (xs ++ ys)
names-right number [] ys names = names
names-right number (x ∷ xs) ys names = inr (names-right number xs ys names)

free-without : (q number : ℕ) (lines : List LineContent) → finite.get (whole lines).marks q ≡ None →
    finite.get (whole (map (without_mark number) lines)).marks q ≡ None
free-without q number lines free =
    ap (λ (line : LineContent). finite.get line.marks q) (whole-without number lines)
    ∙ finite.get-remove nat_cmp_total (whole lines).marks number q
    ∙ free_one (eq_by_cmp nat_cmp q number) (finite.get (whole lines).marks q) free

free-freed : (q : ℕ) (numbers : List ℕ) (lines : List LineContent) → finite.get (whole lines).marks q ≡ None →
    finite.get (whole (freed numbers lines)).marks q ≡ None
free-freed q [] lines free = free
free-freed q (number ∷ numbers) lines free =
    free-freed q numbers (map (without_mark number) lines) (free-without q number lines free)

pub eq_self : (number : ℕ) → eq_by_cmp nat_cmp number number ≡ true
eq_self number = unsigned_tied number number ∙ grind (arith, nat_tests)

pub gone-without : (number : ℕ) (lines : List LineContent) →
    finite.get (whole (map (without_mark number) lines)).marks number ≡ None
gone-without number lines =
    ap (λ (line : LineContent). finite.get line.marks number) (whole-without number lines)
    ∙ finite.get-remove nat_cmp_total (whole lines).marks number number
    ∙ ap (λ b. cond b None (finite.get (whole lines).marks number)) (eq_self number)

pub freed-none : (q : ℕ) (numbers : List ℕ) (lines : List LineContent) → Names q numbers →
    finite.get (whole (freed numbers lines)).marks q ≡ None
freed-none q [] lines names = absurd names
freed-none q (number ∷ numbers) lines (inl same) =
    free-freed q numbers (map (without_mark number) lines)
    (subst (λ n. finite.get (whole (map (without_mark n) lines)).marks q ≡ None) same (gone-without q lines))
freed-none q (number ∷ numbers) lines (inr names) = freed-none q numbers (map (without_mark number) lines) names

names_found : (q : ℕ) (entries : List (ℕ × Place)) (place : Place) → find nat_cmp q entries ≡ Some place →
    Names q (map number_of entries)
names_found q [] place is = absurd (let no : ◌≡◌ {A = Option Place} None (Some place) = is in cc)
names_found q (entry ∷ entries) place is =
    elim (eq_by_cmp nat_cmp q entry.0) as (λ b. eq_by_cmp nat_cmp q entry.0 ≡ b →
    cond b (Some entry.1) (find nat_cmp q entries) ≡ Some place → Names q (map number_of (entry ∷ entries))) [
      | true ↦ λ tie found. inl (tied_same q entry.0 tie)
      | false ↦ λ other found. inr (names_found q entries place found)
    ] refl is

found_names : (q : ℕ) (entries : List (ℕ × Place)) → Names q (map number_of entries) → find nat_cmp q entries ≢ None
found_names q [] names = absurd names
found_names q (entry ∷ entries) (inl same) =
    λ none. let no : ◌≡◌ {A = Option Place} (Some entry.1) None =
    sym (ap (λ b. cond b (Some entry.1) (find nat_cmp q entries)) (ap (λ n. eq_by_cmp nat_cmp q n) (sym same)
    ∙ eq_self q)) ∙ none in absurd (cc)
found_names q (entry ∷ entries) (inr names) =
    elim (eq_by_cmp nat_cmp q entry.0) as (λ b. cond b (Some entry.1) (find nat_cmp q entries) ≢ None) [
      | true ↦ λ none. let no : ◌≡◌ {A = Option Place} (Some entry.1) None = none in absurd (cc)
      | false ↦ found_names q entries names
    ]

pub names_of : (q : ℕ) (line : LineContent) (place : Place) → finite.get line.marks q ≡ Some place →
    Names q (numbers_of line)
names_of q line place is = names_found q (finite.entries line.marks) place (sym (finite.get-entries line.marks q) ∙ is)

of_names : (q : ℕ) (line : LineContent) → Names q (numbers_of line) → finite.get line.marks q ≢ None
of_names q line names none =
    found_names q (finite.entries line.marks) names (sym (finite.get-entries line.marks q) ∙ none)

names_in : (q : ℕ) (before behind : List LineContent) (line : LineContent) (place : Place) →
    finite.get line.marks q ≡ Some place → Names q (numbers_in (before ++ line ∷ behind))
names_in q [] behind line place is = names-left q (numbers_of line) (numbers_in behind) (names_of q line place is)
names_in q (first ∷ before) behind line place is =
    names-right q (numbers_of first) (numbers_in (before ++ line ∷ behind)) (names_in q before behind line place is)

-- none of a line's marks stands in lines without those of some lines that it is among
pub freed-apart : (before behind : List LineContent) (line : LineContent) (lines : List LineContent) →
    AreApart line.marks (whole (freed (numbers_in (before ++ line ∷ behind)) lines)).marks
freed-apart before behind line lines number place is =
    freed-none number (numbers_in (before ++ line ∷ behind)) lines (names_in number before behind line place is)

names_parts : (q : ℕ) (xs ys : List ℕ) → Names q (xs ++ ys) → Names q xs ⊎ Names q ys
names_parts q [] ys names = inr names
names_parts q (x ∷ xs) ys (inl same) = inl (inl same)
names_parts q (x ∷ xs) ys (inr names) = elim (names_parts q xs ys names) [
  | inl first ↦ inl (inr first)
  | inr second ↦ inr second
]

pub in_names : (q : ℕ) (lines : List LineContent) → Names q (numbers_in lines) → finite.get (whole lines).marks q ≢ None
in_names q [] names = absurd names
in_names q (line ∷ lines) names = elim (names_parts q (numbers_of line) (numbers_in lines) names) [
  | inl first ↦ λ none. of_names q line first (free-parts line (whole lines) q none).1
  | inr second ↦ λ none. in_names q lines second (free-parts line (whole lines) q none).0
]

-- ---- what copies keep has no mark of theirs
same_one : (test : Bool) (found : Option Place) → (test ≡ true → found ≡ None) → cond test None found ≡ found
same_one true found none = sym (none refl)
same_one false found none = refl

pub same-line : (n : ℕ) (line : LineContent) → finite.get line.marks n ≡ None → without_mark n line ≡ line
same-line n line free =
    let marks = same_marks _ _ (λ q.
    finite.get-remove nat_cmp_total line.marks n q
    ∙ same_one (eq_by_cmp nat_cmp q n) (finite.get line.marks q) (λ tie. ap (finite.get line.marks) (tied_same q n tie)
    ∙ free)) in
    λ i. record { columns = line.columns; marks = marks i }

same-lines : (n : ℕ) (lines : List LineContent) → finite.get (whole lines).marks n ≡ None →
    map (without_mark n) lines ≡ lines
same-lines n [] free = refl
same-lines n (line ∷ lines) free =
    let parts = free-parts line (whole lines) n free in
    ap₂ (λ x xs. x ∷ xs) (same-line n line parts.1) (same-lines n lines parts.0)

pub free-front : (a b : List LineContent) (number : ℕ) → finite.get (whole (a ++ b)).marks number ≡ None →
    (finite.get (whole a).marks number ≡ None) × (finite.get (whole b).marks number ≡ None)
free-front a b number free =
    let parts = free-parts (whole a) (whole b) number
    (ap (λ (line : LineContent). finite.get line.marks number) (sym (whole-append a b)) ∙ free) in
    (parts.1, parts.0)

pub drafted-cons : (copy : Copied) (copies : List Copied) (lines : List LineContent)
    → drafted (copy ∷ copies) lines ≡ take copy.kept lines ++ (copy.line ∷ drafted copies (drop (covered copy) lines))
drafted-cons copy copies lines =
    append_assoc (take copy.kept lines) (copy.line ∷ made_lines copies (drop (covered copy) lines))
    (drop (covered copy + used copies) lines)
    ∙ ap (λ rest. take copy.kept lines ++ (copy.line ∷ (made_lines copies (drop (covered copy) lines) ++ rest)))
    (sym (drop-drop (used copies) (covered copy) lines))

abbrev KeepsNone : ℕ → List Copied → List LineContent → Type 0
KeepsNone n [] lines = finite.get (whole lines).marks n ≡ None
KeepsNone n (copy ∷ copies) lines =
    (finite.get (whole (take copy.kept lines)).marks n ≡ None) × KeepsNone n copies (drop (covered copy) lines)

keeps-same : (n : ℕ) (copies : List Copied) (lines : List LineContent) → KeepsNone n copies lines →
    drafted copies (map (without_mark n) lines) ≡ drafted copies lines
keeps-same n [] lines none = same-lines n lines none
keeps-same n (copy ∷ copies) lines none =
    drafted-cons copy copies (map (without_mark n) lines)
    ∙ ap₂ (λ front behind. front ++ (copy.line ∷ behind))
    (take-map (without_mark n) copy.kept lines ∙ same-lines n (take copy.kept lines) none.0)
    (ap (drafted copies) (drop-map (without_mark n) (covered copy) lines)
    ∙ keeps-same n copies (drop (covered copy) lines) none.1)
    ∙ sym (drafted-cons copy copies lines)

keeps-free : (n : ℕ) (copies : List Copied) (lines : List LineContent) →
    finite.get (whole (drafted copies lines)).marks n ≡ None → KeepsNone n copies lines
keeps-free n [] lines free = free
keeps-free n (copy ∷ copies) lines free =
    let parts = free-front (take copy.kept lines) (copy.line ∷ drafted copies (drop (covered copy) lines)) n
    (ap (λ xs. finite.get (whole xs).marks n) (sym (drafted-cons copy copies lines)) ∙ free) in (
      parts.0,
      keeps-free n copies (drop (covered copy) lines)
          (free-parts copy.line (whole (drafted copies (drop (covered copy) lines))) n parts.1).0,
    )

copied-there : (n : ℕ) (copies : List Copied) (lines : List LineContent) →
    finite.get (whole (drafted copies lines)).marks n ≡ None → finite.get (whole (copied_lines copies)).marks n ≡ None
copied-there n [] lines free = finite.get-empty nat_cmp n
copied-there n (copy ∷ copies) lines free =
    let parts = free-front (take copy.kept lines) (copy.line ∷ drafted copies (drop (covered copy) lines)) n
    (ap (λ xs. finite.get (whole xs).marks n) (sym (drafted-cons copy copies lines)) ∙ free) in
    let rest = free-parts copy.line (whole (drafted copies (drop (covered copy) lines))) n parts.1 in
    free-joined copy.line (whole (copied_lines copies)) n rest.1
    (copied-there n copies (drop (covered copy) lines) rest.0)

none-before : (n : ℕ) (before rest : List LineContent) → 0 < length rest → AreRows (before ++ rest) →
    finite.get (whole rest).marks n ≢ None → finite.get (whole before).marks n ≡ None
none-before n before rest some rows there =
    elim (finite.get (whole before).marks n) as (λ found. finite.get (whole before).marks n ≡ found →
    finite.get (whole before).marks n ≡ None) [
      | None ↦ λ free. free
      | Some place ↦ λ is.
          absurd (there (rows-apart before rest n some rows (λ none.
          let no : ◌≡◌ {A = Option Place} (Some place) None = sym is ∙ none in absurd (cc))))
    ] refl

free_behind : (n : ℕ) (line : LineContent) (behind : List LineContent) (place : Place) → GoesBefore line behind →
    finite.get line.marks n ≡ Some place → finite.get (whole behind).marks n ≡ None
free_behind n line [] place goes is = finite.get-empty nat_cmp n
free_behind n line (next ∷ behind) place goes is = goes.1 n place is

keeps-none : (n : ℕ) (copies : List Copied) (lines : List LineContent) → AreRows (drafted copies lines) →
    finite.get (whole (copied_lines copies)).marks n ≢ None → KeepsNone n copies lines
keeps-none n [] lines rows there = absurd (there (finite.get-empty nat_cmp n))
keeps-none n (copy ∷ copies) lines rows there =
    let others = drop (covered copy) lines in
    let behind = drafted copies others in
    let here = subst AreRows (drafted-cons copy copies lines) rows in
    let next = rows-behind (take copy.kept lines) (copy.line ∷ behind) here in
    let first : finite.get (whole (copy.line ∷ behind)).marks n ≢ None = λ none.
    let parts = free-parts copy.line (whole behind) n none in
    there (free-joined copy.line (whole (copied_lines copies)) n parts.1 (copied-there n copies others parts.0)) in (
      none-before n (take copy.kept lines) (copy.line ∷ behind) (omega arith) here first,
      elim (finite.get copy.line.marks n) as (λ found. finite.get copy.line.marks n ≡ found →
          KeepsNone n copies others) [
            | None ↦ λ free. keeps-none n copies others next.2 (λ none.
                there (free-joined copy.line (whole (copied_lines copies)) n free none))
            | Some place ↦ λ is. keeps-free n copies others (free_behind n copy.line behind place next.1 is)
          ] refl,
    )

pub freed-drafted : (numbers : List ℕ) (copies : List Copied) (lines : List LineContent) →
    AreRows (drafted copies lines)
    → ((n : ℕ) → Names n numbers → finite.get (whole (copied_lines copies)).marks n ≢ None) →
    drafted copies (freed numbers lines) ≡ drafted copies lines
freed-drafted [] copies lines rows there = refl
freed-drafted (n ∷ numbers) copies lines rows there =
    let one = keeps-same n copies lines (keeps-none n copies lines rows (there n (inl refl))) in
    freed-drafted numbers copies (map (without_mark n) lines) (subst AreRows (sym one) rows) (λ q names.
    there q (inr names)) ∙ one
