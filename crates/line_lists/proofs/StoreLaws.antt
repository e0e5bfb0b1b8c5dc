-- What a store over lines asks of its list.
use Rattle.line_lists.proofs.Common.{◌≡◌, ℕ, ◌<◌, ◌≤◌, inl, inr, List, [], ◌∷◌, length, sym, ap, subst, ◌∙◌, arith, All}
use Rattle.line_lists.proofs.Common.{All-cons, All-head, All-nil, All-tail, new_content, LineContent, plain_line}
use Rattle.line_lists.proofs.Common.{AreLines, NumbersBelow, numbers_in, numbers_of, content_of, text_of, whole, Result}
use Rattle.line_lists.proofs.Common.{Ok, Err, OnOk}
use Rattle.line_lists.proofs.FoundMarks.{rows-some}
use Rattle.line_lists.proofs.FreedLaws.{Names, names-left, names-right, names_of}
use Rattle.line_lists.proofs.TagLaws.{cells-plain}
use Rattle.line_lists.proofs.WholeLaws.{whole-one}
use Rattle.std.specs.FinMap as finite
use Rattle.std.specs.FinSet as set

-- a text has a character
pub some-text : (lines : List LineContent) → AreLines lines → 0 < length (whole lines).columns
some-text lines are = rows-some lines are.some are.rows

pub all-names : (P : ℕ → Type 0) (numbers : List ℕ) → All P numbers → (number : ℕ) → Names number numbers → P number
all-names P [] all number names = absurd names
all-names P (first ∷ numbers) all number (inl same) = subst P (sym same) (All-head P first numbers all)
all-names P (first ∷ numbers) all number (inr names) = all-names P numbers (All-tail P first numbers all) number names

-- marks whose numbers are among some that are below a bound
pub below-lines : (bound room : ℕ) → bound ≤ room → (lines : List LineContent) →
    ((number : ℕ) → Names number (numbers_in lines) → number < bound)
    → All (λ (line : LineContent). NumbersBelow room line.marks) lines
below-lines bound room more [] below = All-nil (λ (line : LineContent). NumbersBelow room line.marks)
below-lines bound room more (line ∷ lines) below =
    All-cons (λ (x : LineContent). NumbersBelow room x.marks) line lines
    (λ number place is. omega (
      arith,
      more,
      below number (names-left number (numbers_of line) (numbers_in lines) (names_of number line place is)),
    ))
    (below-lines bound room more lines (λ number names.
    below number (names-right number (numbers_of line) (numbers_in lines) names)))

-- the same of the marks of one line
pub below-line : (bound room : ℕ) → bound ≤ room → (line : LineContent) → All (λ n. n < bound) (numbers_of line) →
    NumbersBelow room line.marks
below-line bound room more line below = λ number place is. omega (
  arith,
  more,
  all-names (λ n. n < bound) (numbers_of line) below number (names_of number line place is),
)

-- the line that a list begins with is the text that a store begins with
pub new-text : (lines : List LineContent) → lines ≡ plain_line (10 ∷ []) ∷ [] → content_of lines ≡ new_content
new-text lines is =
    ap content_of is ∙ ap text_of (whole-one (plain_line (10 ∷ [])))
    ∙ (λ i. record { cells = cells-plain set.empty (10 ∷ []) i; marks = finite.empty })

-- what follows from two facts that hold of a result if it is no error
pub on-both : {A E P Q R : Type 0} (result : Result A E) → (P → Q → R) → OnOk result P → OnOk result Q → OnOk result R
on-both (Ok value) both one two = both one two
on-both (Err error) both one two = tt
