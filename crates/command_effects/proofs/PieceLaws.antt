-- Pairs as pieces of a text.
use Rattle.command_effects.proofs.Common.{◌≡◌, ◌<◌, ℕ, List, length, sym, subst, map, Pair, piece_of, All, Tag, get_or}
use Rattle.command_effects.proofs.Common.{get_or-map, length-map}
use Rattle.std.specs.Char.{IsScalar}
use Rattle.edit_ops.specs.declared.slotted_texts.SlottedText.{SlottedText}

-- the texts of pairs are of scalar values where those of their pieces are
pub scalar-pairs : (tags : List Tag) (own : ℕ) (pairs : List Pair) (pieces : List SlottedText)
    → pieces ≡ map (piece_of tags own) pairs → All (λ (piece : SlottedText). All IsScalar piece.text) pieces
    → All (λ (pair : Pair). All IsScalar pair.text) pairs
scalar-pairs tags own pairs pieces is scalars = λ k d within.
    let there : k < length pieces = subst (λ ps. k < length ps) (sym is)
    (subst (λ n. k < n) (sym (length-map pairs (piece_of tags own))) within) in
    subst (λ (piece : SlottedText). All IsScalar piece.text)
    (subst (λ ps. get_or ps k (piece_of tags own d) ≡ piece_of tags own (get_or pairs k d)) (sym is)
    (get_or-map (piece_of tags own) pairs k d (piece_of tags own d) within))
    (scalars k (piece_of tags own d) there)
