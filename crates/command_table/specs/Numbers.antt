-- Which words are booleans, and which are integers.
use Rattle.std.specs.Prelude.{ℕ, ◌+◌, ◌-◌, ◌*◌, nat_lt, nat_le, Bool, true, false, ◌&&◌, ◌==◌, [], ◌∷◌, length, fold}
use Rattle.std.specs.Prelude.{Option, None, Some, option_map, if◌then◌else◌, ℤ, pos, neg_ℤ}
use Rattle.std.specs.List.{list_all}
use Rattle.std.specs.Char.{is_ascii_digit}
use Rattle.command_table.specs.Words.{Word, is_among, literal}

abbrev pub boolean_of : Word → Option Bool
boolean_of word =
    if is_among (literal "1" ∷ literal "true" ∷ literal "yes" ∷ literal "on" ∷ []) word then Some true
    else (if is_among (literal "0" ∷ literal "false" ∷ literal "no" ∷ literal "off" ∷ []) word then Some false
    else None)

-- a number with one digit more
abbrev pub add_digit : ℕ → ℕ → ℕ
add_digit number digit = number * 10 + (digit - 48)

-- the number that one to nine decimal digits spell
abbrev pub number_of : Word → Option ℕ
number_of digits =
    if nat_lt 0 (length digits) && nat_le (length digits) 9 && list_all is_ascii_digit digits
    then Some (fold add_digit 0 digits) else None

-- perhaps a sign, `+` or `-`, and then a number
abbrev pub integer_of : Word → Option ℤ
integer_of [] = None
integer_of (character ∷ characters) =
    if character == 43 then option_map (λ n. pos n) (number_of characters)
    else (if character == 45 then option_map (λ n. neg_ℤ (pos n)) (number_of characters)
    else option_map (λ n. pos n) (number_of (character ∷ characters)))
