-- The characters that part an index.
use Rattle.std.specs.Prelude.{ℕ, Bool, true, ◌||◌, ◌==◌, List, [], ◌∷◌}

-- a space or a tab
abbrev pub is_blank : ℕ → Bool
is_blank c = c == 32 || c == 9

-- `+` or `-`
abbrev pub is_sign : ℕ → Bool
is_sign c = c == 43 || c == 45

abbrev pub is_break : ℕ → Bool
is_break c = is_blank c || is_sign c

-- what stands before these characters is closed: the text ends there, or a blank, `+` or `-` follows
abbrev pub closes : List ℕ → Bool
closes [] = true
closes (c ∷ cs) = is_break c
