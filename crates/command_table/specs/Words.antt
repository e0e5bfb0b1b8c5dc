-- The words of a command, as lists of characters.
use Rattle.std.specs.Prelude.{ℕ, Bool, false, ◌==◌, List, [], ◌∷◌, map, chars, codes, bytes_eq, string_bytes, String}
use Rattle.std.specs.Borrow.{Bor}
use Rattle.std.specs.List.{list_any}
use Prim.Native.String as native

abbrev pub Word : Type 0
Word = List ℕ

-- the characters of each word
abbrev pub texts_of : {Z : Type 0} → List (String Z) → List Word
texts_of words = map (λ word. chars (string_bytes word)) words

-- a word that the program knows
abbrev pub literal : native.String → Word
literal text = chars (codes text)

-- two words are the same
abbrev pub is_same : Word → Word → Bool
is_same a b = bytes_eq a b

-- two characters are the same
abbrev pub is_character : ℕ → ℕ → Bool
is_character a b = a == b

-- a word that begins with `-`
abbrev pub is_dashed : Word → Bool
is_dashed [] = false
is_dashed (character ∷ characters) = character == 45

-- the word is one of these
abbrev pub is_among : List Word → Word → Bool
is_among names word = list_any (λ name. is_same word name) names

-- the characters of each of the words that a table lends
abbrev pub lent : List (Bor (List ℕ)) → List Word
lent names = map (λ name. chars name.now) names
