-- The text of a place is its own characters.
use Rattle.text_index.proofs.Common.{◌≡◌, ℕ, zero, suc, ◌+◌, List, ◌∷◌, ◌++◌, ap, ap₂, ◌∙◌, arith, chars, decimal}
use Rattle.text_index.proofs.Common.{IsAscii, IsUtf8, chars-IsAscii, IsAscii-append, chars-append, line_of, column_of}
use Rattle.text_index.proofs.Common.{◌-◌, IsLineOf, line_start, LineSpan}
use Rattle.text_index.specs.Positions.{position_text}

behind_dot : (text : List ℕ) → IsAscii text → IsAscii (46 ∷ text)
behind_dot text ascii zero = omega arith
behind_dot text ascii (suc i) = ascii i

-- numbers round a dot that are put behind a text
pub chars-behind : (shown before after : List ℕ) (place line column : ℕ) → IsUtf8 before →
    after ≡ before ++ (decimal (1 + line) ++ 46 ∷ decimal column)
    → IsAscii (decimal (1 + line)) → IsAscii (decimal column) → line ≡ line_of shown place →
    column ≡ column_of shown place
    → chars after ≡ chars before ++ position_text shown place
chars-behind shown before after place line column is_text is ascii other line_is column_is =
    let numbers = decimal (1 + line) ++ 46 ∷ decimal column in
    ap chars is ∙ chars-append before numbers is_text
    ∙ ap (λ xs. chars before ++ xs) (chars-IsAscii numbers
    (IsAscii-append (decimal (1 + line)) (46 ∷ decimal column) ascii (behind_dot (decimal column) other)))
    ∙ ap₂ (λ l c. chars before ++ (decimal (1 + l) ++ 46 ∷ decimal c)) line_is column_is

-- the numbers of a place, by its line
pub numbers-place : (text : List ℕ) (place : ℕ) (line : LineSpan) → IsLineOf text place line →
    decimal (1 + line.number) ++ 46 ∷ decimal (place - line.start) ≡ position_text text place
numbers-place text place line is =
    ap₂ (λ n k. decimal (1 + n) ++ 46 ∷ decimal k) is.number
    (ap (λ n. place - n) (is.start ∙ ap (λ k. line_start k text) is.number))
