-- The ranges that places make.
use Rattle.std.specs.Prelude.{ℕ, suc, ◌+◌, min, max, List, [], ◌∷◌}
use Rattle.edit_ops.specs.declared.spans.Span.{Span}

-- from one place of a view of so many characters to another, or to the same where that one is before it
abbrev pub span : ℕ → ℕ → ℕ → Span
span start from to = record { from = start + from; to = start + max from to }

-- Pairs of places are ranges, as offsets of the document; a last place alone stands for one character.
abbrev pub spans_of : ℕ → ℕ → List ℕ → List Span
spans_of start len [] = []
spans_of start len (from ∷ []) = span start from (min (suc from) len) ∷ []
spans_of start len (from ∷ to ∷ places) = span start from to ∷ spans_of start len places
