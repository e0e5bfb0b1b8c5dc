-- The characters that mean something in a script (Tcl(n)), by their codes.
use Rattle.std.specs.Prelude.{ℕ, Bool, false, ◌||◌, ◌&&◌, ◌==◌, List, [], ◌∷◌}
use Rattle.std.specs.Char.{is_ascii_alphanumeric}

-- a newline or a semicolon, which ends a command
abbrev pub is_end : ℕ → Bool
is_end c = c == 10 || c == 59

-- a space, tab, carriage return, vertical tab or form feed, which separates words
abbrev pub is_blank : ℕ → Bool
is_blank c = c == 32 || c == 9 || c == 13 || c == 11 || c == 12

-- what stands here begins with this character
abbrev pub begins_with : ℕ → List ℕ → Bool
begins_with d [] = false
begins_with d (c ∷ cs) = c == d

-- a letter or digit of ASCII, an underscore, an open brace or an open parenthesis
abbrev pub begins_name : ℕ → Bool
begins_name c = is_ascii_alphanumeric c || c == 95 || c == 123 || c == 40

-- What follows a dollar sign names a variable: a character that begins a name, or two colons.
abbrev pub names_variable : List ℕ → Bool
names_variable [] = false
names_variable (c ∷ cs) = begins_name c || (c == 58 && begins_with 58 cs)

-- What follows an open brace is `*}`, which would expand a word.
abbrev pub is_expansion : List ℕ → Bool
is_expansion [] = false
is_expansion (c ∷ cs) = c == 42 && begins_with 125 cs

-- a backslash before a newline
abbrev pub is_joint : ℕ → List ℕ → Bool
is_joint c cs = c == 92 && begins_with 10 cs
