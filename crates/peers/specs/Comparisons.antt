-- How two places are compared.
use Rattle.std.specs.Prelude.{ℕ, nat_lt, nat_le, ◌==◌, Bool, not, List, Option, None, Some}
use Rattle.std.specs.Prelude.{if◌then◌else◌}
use Rattle.peers.specs.declared.comparisons.Comparison.{Comparison}
use Rattle.peers.specs.declared.comparisons.Comparison.TheVariants.{Below, UpTo, Same, From, Above, Other}
use Rattle.command_effects.specs.Words.{is_same, literal}

abbrev pub comparison_of : List ℕ → Option Comparison
comparison_of word =
    if is_same word (literal "<") then Some Below
    else (if is_same word (literal "<=") then Some UpTo
    else (if is_same word (literal "==") then Some Same
    else (if is_same word (literal ">=") then Some From
    else (if is_same word (literal ">") then Some Above
    else (if is_same word (literal "!=") then Some Other
    else None)))))

abbrev pub holds : Comparison → ℕ → ℕ → Bool
holds Below a b = nat_lt a b
holds UpTo a b = nat_le a b
holds Same a b = a == b
holds From a b = nat_le b a
holds Above a b = nat_lt b a
holds Other a b = not (a == b)
