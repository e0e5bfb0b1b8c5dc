-- The tokens that the pieces of a text are.
use Rattle.std.specs.Prelude.{ℕ, List, [], ◌∷◌, take, drop, length, codes, bytes_eq, Option, Some, None, option_map}
use Rattle.std.specs.Prelude.{option_and_then, if◌then◌else◌}
use Rattle.std.specs.Borrow.{Bor}
use Rattle.std.specs.List.{prefix_len}
use Rattle.std.specs.Char.{is_ascii_digit}
use Rattle.index_grammar.specs.Characters.{is_blank}
use Rattle.index_grammar.specs.Grammar.{Token, tokens_of}
use Rattle.index_grammar.specs.declared.tokens.LentToken.{LentToken}
use Rattle.index_grammar.specs.declared.tokens.LentToken.TheVariants as piece

abbrev pub token_of : LentToken → Token
token_of (piece.Sign is_plus) = Token.Sign is_plus
token_of (piece.Digits digits) = Token.Digits digits.now
token_of (piece.Word word) = Token.Word word.now

-- how many bytes a piece has
abbrev pub piece_len : LentToken → ℕ
piece_len (piece.Sign is_plus) = 1
piece_len (piece.Digits digits) = length digits.now
piece_len (piece.Word word) = length word.now

-- the first token and those of what stands behind it; without a first one none
abbrev pub before_rest : Option (LentToken × Bor (List ℕ)) → List Token
before_rest None = []
before_rest (Some found) = token_of found.0 ∷ tokens_of found.1.now

-- the digits, or the word, that tokens begin with, and the tokens behind
abbrev pub digits_first : List Token → Option (List ℕ × List Token)
digits_first (Token.Digits digits ∷ tokens) = Some (digits, tokens)
digits_first _ = None

-- the digits that a text begins with after its blanks
abbrev pub front_digits : List ℕ → List ℕ
front_digits text =
    let rest = drop (prefix_len is_blank text) text in
    take (prefix_len is_ascii_digit rest) rest

abbrev pub word_first : List Token → Option (List ℕ × List Token)
word_first (Token.Word word ∷ tokens) = Some (word, tokens)
word_first _ = None

-- behind `any`
abbrev pub without_any : List ℕ × List Token → Option (List ℕ × List Token)
without_any found = if bytes_eq found.0 (codes "any") then word_first found.1 else Some found

-- the word that tokens begin with, behind `any` or without
abbrev pub unit_first : List Token → Option (List ℕ × List Token)
unit_first tokens = option_and_then without_any (word_first tokens)

-- bytes, and the tokens of what stands behind them
abbrev pub bytes_first : Option (Bor (List ℕ) × Bor (List ℕ)) → Option (List ℕ × List Token)
bytes_first found = option_map (λ (found : Bor (List ℕ) × Bor (List ℕ)). (found.0.now, tokens_of found.1.now)) found
