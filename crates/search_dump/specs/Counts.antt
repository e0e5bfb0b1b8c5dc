-- What `count` answers (text(n), "count").
use Rattle.std.specs.Prelude.{ℕ, ◌-◌, nat_lt, List, [], ◌∷◌, map, decimal, if◌then◌else◌}
use Rattle.text_model.specs.Lines.{line_of}
use Rattle.search_dump.specs.declared.counting.Counted.{Counted}
use Rattle.search_dump.specs.declared.counting.Counted.TheVariants.{Characters, Lines}

-- how many characters stand before a place, or how many newlines
abbrev pub number_at : Counted → List ℕ → ℕ → ℕ
number_at Characters text place = place
number_at Lines text place = line_of text place

-- by how much a number is above another one, in decimals, with a hyphen before it where it is below
abbrev pub difference : ℕ → ℕ → List ℕ
difference from to = if nat_lt to from then 45 ∷ decimal (from - to) else decimal (to - from)

-- the options that are given; characters are counted where there is none
abbrev pub or_characters : List Counted → List Counted
or_characters [] = Characters ∷ []
or_characters (option ∷ options) = option ∷ options

-- how much further a second place is than a first, as an option counts
abbrev pub distance : List ℕ → ℕ → ℕ → Counted → List ℕ
distance text from to option = difference (number_at option text from) (number_at option text to)

-- that of each option
abbrev pub counted : List Counted → List ℕ → ℕ → ℕ → List (List ℕ)
counted options text from to = map (distance text from to) (or_characters options)
