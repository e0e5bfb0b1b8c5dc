-- What the steps of an edit make of columns is what they make of the cells.
use Rattle.line_lists.proofs.Common.{◌≡◌, ℕ, Bool, false, List, [], ◌∷◌, ◌++◌, map, refl, sym, ap, ◌∙◌, Cell, Slots}
use Rattle.line_lists.proofs.Common.{differing, cells_of, set_slot, with_slot, differing-associative, differing-empty}
use Rattle.line_lists.proofs.Common.{empty-differing, Column, plain_columns, toggled_first, with_toggle, cells_from}
use Rattle.line_lists.proofs.Common.{tags_left_of}
use Rattle.line_lists.proofs.SlotLaws.{differing-set}
use Rattle.std.specs.FinSet as set

-- the cell of a column, where some slots are on before it
abbrev cell_of : Slots → Column → Cell
cell_of on column = record { character = column.character; tags = differing on column.toggled }

pub cells-append : (on : Slots) (xs ys : List Column) → cells_from on (xs ++ ys)
    ≡ cells_from on xs ++ cells_from (differing on (tags_left_of xs)) ys
cells-append on [] ys = ap (λ s. cells_from s ys) (sym (differing-empty on))
cells-append on (x ∷ xs) ys =
    ap (λ cells. cell_of on x ∷ cells)
    (cells-append (differing on x.toggled) xs ys
    ∙ ap (λ s. cells_from (differing on x.toggled) xs ++ cells_from s ys)
    (differing-associative on x.toggled (tags_left_of xs)))

-- slots that are toggled before the first column are switched before it
pub cells-toggled : (on slots : Slots) (xs : List Column) →
    cells_from on (toggled_first slots xs) ≡ cells_from (differing on slots) xs
cells-toggled on slots [] = refl
cells-toggled on slots (x ∷ xs) =
    ap (λ tags. record { character = x.character; tags = tags } ∷ cells_from tags xs)
    (sym (differing-associative on slots x.toggled))

-- a slot without toggles is on all cells, or on none, and the others as before
pub cells-cleared : (slot : ℕ) (on : Bool) (before : Slots) (xs : List Column) →
    cells_from (set_slot slot on before) (map (with_toggle slot false) xs)
    ≡ map (with_slot slot on) (cells_from before xs)
cells-cleared slot on before [] = refl
cells-cleared slot on before (x ∷ xs) =
    ap (λ tags. record { character = x.character; tags = tags } ∷ cells_from tags (map (with_toggle slot false) xs))
    (differing-set slot on before x.toggled)
    ∙ ap (λ cells. with_slot slot on (cell_of before x) ∷ cells) (cells-cleared slot on (differing before x.toggled) xs)

pub behind-cleared : (slot : ℕ) (on : Bool) (before : Slots) (xs : List Column)
    → differing (set_slot slot on before) (tags_left_of (map (with_toggle slot false) xs))
    ≡ set_slot slot on (differing before (tags_left_of xs))
behind-cleared slot on before [] =
    differing-empty (set_slot slot on before) ∙ ap (set_slot slot on) (sym (differing-empty before))
behind-cleared slot on before (x ∷ xs) =
    sym (differing-associative (set_slot slot on before) (set_slot slot false x.toggled)
    (tags_left_of (map (with_toggle slot false) xs)))
    ∙ ap (λ s. differing s (tags_left_of (map (with_toggle slot false) xs))) (differing-set slot on before x.toggled)
    ∙ behind-cleared slot on (differing before x.toggled) xs
    ∙ ap (set_slot slot on) (differing-associative before x.toggled (tags_left_of xs))

-- a text without toggles has the slots before it
pub cells-plain : (on : Slots) (text : List ℕ) → cells_from on (plain_columns text) ≡ cells_of text on
cells-plain on [] = refl
cells-plain on (c ∷ text) =
    ap (λ tags. record { character = c; tags = tags } ∷ cells_from tags (plain_columns text)) (differing-empty on)
    ∙ ap (λ cells. record { character = c; tags = on } ∷ cells) (cells-plain on text)

pub behind-plain : (text : List ℕ) → tags_left_of (plain_columns text) ≡ set.empty
behind-plain [] = refl
behind-plain (c ∷ text) = empty-differing (tags_left_of (plain_columns text)) ∙ behind-plain text

pub behind-append : (xs ys : List Column) → tags_left_of (xs ++ ys) ≡ differing (tags_left_of xs) (tags_left_of ys)
behind-append [] ys = sym (empty-differing (tags_left_of ys))
behind-append (x ∷ xs) ys = ap (differing x.toggled) (behind-append xs ys)
    ∙ sym (differing-associative x.toggled (tags_left_of xs) (tags_left_of ys))
