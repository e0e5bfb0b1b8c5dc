-- Marks in a table and in a store at once.
use Rattle.std.specs.Prelude.{◌≡◌, ℕ, Bool, not, filter, List, [], ◌∷◌, ◌++◌, Option, None, Some, if◌then◌else◌}
use Rattle.std.specs.FinMap as finite
use Rattle.std.specs.List.{filter_map}
use Rattle.text_model.specs.Content.{Content, Marks}
use Rattle.text_model.specs.declared.places.Gravity.{Gravity}
use Rattle.text_model.specs.declared.places.Gravity.TheVariants.{Left, Right}
use Rattle.mark_table.specs.SharedMarks.{AreMarks, IsLeastFree, Mark, SharedMarks, number_of, numbers_of}
use Rattle.command_effects.specs.Words.{is_among, is_same, literal}

abbrev pub gravity_of : List ℕ → Option Gravity
gravity_of word =
    if is_same word (literal "left") then Some Left else (if is_same word (literal "right") then Some Right else None)

abbrev pub gravity_word : Gravity → List ℕ
gravity_word Left = literal "left"
gravity_word Right = literal "right"

-- a mark is made, and stands at an offset
pub record IsMadeMark (name : List ℕ) (offset : ℕ) (old new : SharedMarks) (content changed : Content) : Type 0 where
  pub number : ℕ
  pub fresh : IsLeastFree (numbers_of old.marks) number
  pub sound : AreMarks new
  pub table : new ≡ record old { marks = old.marks ++ record { name = name; number = number; gravity = Right } ∷ [] }
  pub store : changed ≡ record content {
    marks = finite.insert content.marks number
        (record { offset = offset; gravity = Right });
  }

-- the marks of a store without those of some numbers
abbrev pub taken : List ℕ → Marks → Marks
taken [] marks = marks
taken (number ∷ numbers) marks = taken numbers (finite.remove marks number)

-- the numbers of the marks of some names
abbrev pub numbers_named : List Mark → List (List ℕ) → List ℕ
numbers_named marks names = filter_map (λ name. number_of name marks) names

-- a mark stays that isn't named; a widget's own two stay in any case
abbrev pub is_left : List (List ℕ) → List ℕ → Bool
is_left names name = not (is_among name names)

-- a table without the marks of some names
abbrev pub marks_left : List (List ℕ) → List Mark → List Mark
marks_left names marks = filter (λ (mark : Mark). is_left names mark.name) marks
