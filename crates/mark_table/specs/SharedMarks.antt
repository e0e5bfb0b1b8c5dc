-- The marks that widgets share, in the order of their creation, each with the number by which a store knows it.
use Rattle.std.specs.Prelude.{◌≡◌, ℕ, ◌+◌, ◌*◌, ◌<◌, ◌≤◌, Bool, Option, Some, List, map, length, find, bytes_eq}
use Rattle.std.specs.Prelude.{slice_get, Contains, if◌then◌else◌}
use Rattle.std.specs.Option.{option_map}
use Rattle.name_list.specs.Names.{AreApart}
use Rattle.text_model.specs.LimitTable.{most_marks, most_widgets}
use Rattle.text_model.specs.declared.places.Gravity.{Gravity}

pub record Mark : Type 0 where
  pub name : List ℕ
  pub number : ℕ
  pub gravity : Gravity

-- the marks in the order of their creation, and how many there may be
pub record SharedMarks : Type 0 where
  pub marks : List Mark
  pub limit : ℕ

-- the numbers below are for the two marks of each widget's own
abbrev pub first_number : ℕ
first_number = 2 * most_widgets

abbrev pub is_named : List ℕ → Mark → Bool
is_named name mark = bytes_eq name mark.name

abbrev pub number_of : List ℕ → List Mark → Option ℕ
number_of name marks = option_map (λ (mark : Mark). mark.number) (find (is_named name) marks)

abbrev pub gravity_of : List ℕ → List Mark → Option Gravity
gravity_of name marks = option_map (λ (mark : Mark). mark.gravity) (find (is_named name) marks)

-- the marks with another gravity for the one of a name
abbrev pub turned : List ℕ → Gravity → List Mark → List Mark
turned name gravity marks =
    map (λ (mark : Mark). if is_named name mark then record mark { gravity = gravity } else mark) marks

abbrev pub names_of : List Mark → List (List ℕ)
names_of marks = map (λ (mark : Mark). mark.name) marks

abbrev pub numbers_of : List Mark → List ℕ
numbers_of marks = map (λ (mark : Mark). mark.number) marks

abbrev pub IsFull : SharedMarks → Type 0
IsFull marks = marks.limit ≤ length marks.marks

-- the least number for shared marks that none has
pub record IsLeastFree (numbers : List ℕ) (number : ℕ) : Type 0 where
  pub shared : first_number ≤ number
  pub free : ¬ Contains numbers number
  pub below : (k : ℕ) → first_number ≤ k → k < number → Contains numbers k

-- names and numbers are distinct, every number is one for shared marks, and there are no more than may be
pub record AreMarks (marks : SharedMarks) : Type 0 where
  pub names_apart : AreApart (names_of marks.marks)
  pub numbers_apart : AreApart (numbers_of marks.marks)
  pub numbers : (at number : ℕ) → slice_get (numbers_of marks.marks) at ≡ Some number →
      (first_number ≤ number) × (number < first_number + marks.limit)
  pub room : length marks.marks ≤ marks.limit
  pub limit : marks.limit ≤ most_marks
