-- The arguments of a command, by how many it takes.
use Rattle.std.specs.Prelude.{ℕ, List, [], ◌∷◌, Option, None, Some, Result, Ok, Err}
use Rattle.command_effects.specs.declared.answers.Fault.{Fault}
use Rattle.command_effects.specs.declared.answers.Fault.TheVariants.{WrongArguments}

abbrev pub one_of : List (List ℕ) → Result (List ℕ) Fault
one_of [] = Err WrongArguments
one_of (first ∷ []) = Ok first
one_of (first ∷ more ∷ others) = Err WrongArguments

abbrev pub two_of : List (List ℕ) → Result (List ℕ × List ℕ) Fault
two_of [] = Err WrongArguments
two_of (first ∷ []) = Err WrongArguments
two_of (first ∷ second ∷ []) = Ok (first, second)
two_of (first ∷ second ∷ more ∷ others) = Err WrongArguments

abbrev pub three_of : List (List ℕ) → Result (List ℕ × List ℕ × List ℕ) Fault
three_of [] = Err WrongArguments
three_of (first ∷ []) = Err WrongArguments
three_of (first ∷ second ∷ []) = Err WrongArguments
three_of (first ∷ second ∷ third ∷ []) = Ok (first, second, third)
three_of (first ∷ second ∷ third ∷ more ∷ others) = Err WrongArguments

abbrev pub none_or_one_of : List (List ℕ) → Result (Option (List ℕ)) Fault
none_or_one_of [] = Ok None
none_or_one_of (first ∷ []) = Ok (Some first)
none_or_one_of (first ∷ more ∷ others) = Err WrongArguments

abbrev pub one_or_two_of : List (List ℕ) → Result (List ℕ × Option (List ℕ)) Fault
one_or_two_of [] = Err WrongArguments
one_or_two_of (first ∷ []) = Ok (first, None)
one_or_two_of (first ∷ second ∷ []) = Ok (first, Some second)
one_or_two_of (first ∷ second ∷ more ∷ others) = Err WrongArguments

abbrev pub two_or_three_of : List (List ℕ) → Result (List ℕ × List ℕ × Option (List ℕ)) Fault
two_or_three_of [] = Err WrongArguments
two_or_three_of (first ∷ []) = Err WrongArguments
two_or_three_of (first ∷ second ∷ []) = Ok (first, second, None)
two_or_three_of (first ∷ second ∷ third ∷ []) = Ok (first, second, Some third)
two_or_three_of (first ∷ second ∷ third ∷ more ∷ others) = Err WrongArguments

-- the first, and those after it
abbrev pub one_or_more_of : List (List ℕ) → Result (List ℕ × List (List ℕ)) Fault
one_or_more_of [] = Err WrongArguments
one_or_more_of (first ∷ others) = Ok (first, others)

-- the first two, and those after them
abbrev pub two_or_more_of : List (List ℕ) → Result (List ℕ × List ℕ × List (List ℕ)) Fault
two_or_more_of [] = Err WrongArguments
two_or_more_of (first ∷ []) = Err WrongArguments
two_or_more_of (first ∷ second ∷ others) = Ok (first, second, others)
