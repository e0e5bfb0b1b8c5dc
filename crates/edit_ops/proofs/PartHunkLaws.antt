-- The hunks of an old text that make a text of parts of it and of new texts.
use Rattle.edit_ops.proofs.Common.{◌≡◌, ℕ, ◌<◌, ◌≤◌, List, [], ◌∷◌, ◌++◌, Option, Some, None, length, refl, sym, ap}
use Rattle.edit_ops.proofs.Common.{ap₂, ◌∙◌, arith, subst, slice_range, All, drop_all, map-append, All-head, All-tail}
use Rattle.edit_ops.proofs.Common.{Cell, Slots, characters, map-slice_range, Part, cells_between, front_cells}
use Rattle.edit_ops.proofs.Common.{old_place, part_cells, PartFits, Rise, characters-of, length-characters, Hunk}
use Rattle.edit_ops.proofs.Common.{hunks_before, part_hunks, pending_after, AreHunks, AreSeparate, patched, append-nil}
use Rattle.edit_ops.proofs.Common.{append_assoc, patched_by, replacing}
use Rattle.edit_ops.proofs.HunkLaws.{IsPut, alone-separate, hunks-lower, patched-lower, replacing-patched}
use Rattle.edit_ops.proofs.HunkLaws.{replacing-separate, replacing-stands}

-- ---- what stands in the parts, in a list with an element for each character

-- the elements from one offset to another, or those of new characters
abbrev pub items_between : {A : Type 0} → (List ℕ → List A) → Option Slots → List A → List ℕ → ℕ → ℕ → List A
items_between put None list fresh from to = slice_range list from to
items_between put (Some slots) list fresh from to = put (slice_range fresh from to)

abbrev pub front_items : {A : Type 0} → (List ℕ → List A) → List A → List ℕ → List Part → List A
front_items put list fresh [] = []
front_items put list fresh (part ∷ parts) =
    items_between put part.slots list fresh part.from part.to ++ front_items put list fresh parts

-- ---- the hunks of one part, and those behind it

part-stands : (slots : Option Slots) (from to border len : ℕ) (text : List ℕ) (hunks : List Hunk)
    → border ≤ old_place slots from border → from < to → AreHunks (old_place slots to border) len hunks
    → AreHunks border len (hunks_before slots from border text ++ hunks)
part-stands None from to border len text hunks above some are =
    replacing-stands border from len text hunks above (hunks-lower from to len hunks (omega (arith, some)) are)
part-stands (Some slots) from to border len text hunks above some are = are

part-separate : (slots : Option Slots) (from to border len : ℕ) (text : List ℕ) (hunks : List Hunk) → from < to
    → AreHunks (old_place slots to border) len hunks → AreSeparate hunks
    → AreSeparate (hunks_before slots from border text ++ hunks)
part-separate None from to border len text hunks some are apart =
    replacing-separate border from to len text hunks some are apart
part-separate (Some slots) from to border len text hunks some are apart = apart

part-patched : {A : Type 0} (put : List ℕ → List A) (slots : Option Slots) (from to border len : ℕ)
    (fresh text : List ℕ) (list rest : List A) (hunks : List Hunk) → IsPut put → border ≤ old_place slots from border
    → from < to → AreHunks (old_place slots to border) len hunks
    → patched_by put (old_place slots to border) hunks list ≡ put (pending_after slots from to fresh text) ++ rest
    → patched_by put border (hunks_before slots from border text ++ hunks) list
    ≡ put text ++ (items_between put slots list fresh from to ++ rest)
part-patched put None from to border len fresh text list rest hunks is above some are others =
    replacing-patched put border from text hunks list is.0 above
    ∙ ap (λ xs. put text ++ xs) (patched-lower put from to len hunks list (omega (arith, some)) are
    ∙ ap (λ xs. slice_range list from to ++ xs) (others ∙ ap (λ xs. xs ++ rest) is.0))
part-patched put (Some slots) from to border len fresh text list rest hunks is above some are others =
    let more = slice_range fresh from to in
    others ∙ ap (λ xs. xs ++ rest) (is.1 text more) ∙ append_assoc (put text) (put more) rest

-- ---- all of them

pub parts-stand : (border len : ℕ) (fresh text : List ℕ) (parts : List Part) → Rise border len parts
    → All (PartFits len (length fresh)) parts → AreHunks border len (part_hunks border text len fresh parts)
parts-stand border len fresh text [] rise fit =
    subst (AreHunks border len) (append-nil (replacing border len text))
    (replacing-stands border len len text [] rise (let e : len ≤ len = omega arith in e))
parts-stand border len fresh text (part ∷ parts) rise fit =
    let P = PartFits len (length fresh) in
    let one = All-head P part parts fit in
    let next = old_place part.slots part.to border in
    let left = pending_after part.slots part.from part.to fresh text in
    part-stands part.slots part.from part.to border len text (part_hunks next left len fresh parts) rise.0 one.some
    (parts-stand next len fresh left parts rise.1 (All-tail P part parts fit))

pub parts-separate : (border len : ℕ) (fresh text : List ℕ) (parts : List Part) → Rise border len parts
    → All (PartFits len (length fresh)) parts → AreSeparate (part_hunks border text len fresh parts)
parts-separate border len fresh text [] rise fit = alone-separate border len text
parts-separate border len fresh text (part ∷ parts) rise fit =
    let P = PartFits len (length fresh) in
    let one = All-head P part parts fit in
    let others = All-tail P part parts fit in
    let next = old_place part.slots part.to border in
    let left = pending_after part.slots part.from part.to fresh text in
    part-separate part.slots part.from part.to border len text (part_hunks next left len fresh parts) one.some
    (parts-stand next len fresh left parts rise.1 others) (parts-separate next len fresh left parts rise.1 others)

pub parts-patched : {A : Type 0} (put : List ℕ → List A) (border len : ℕ) (fresh text : List ℕ) (list : List A)
    (parts : List Part) → IsPut put → length list ≡ len → Rise border len parts
    → All (PartFits len (length fresh)) parts
    → patched_by put border (part_hunks border text len fresh parts) list ≡ put text ++ front_items put list fresh parts
parts-patched put border len fresh text list [] is long rise fit =
    ap (λ hunks. patched_by put border hunks list) (sym (append-nil (replacing border len text)))
    ∙ replacing-patched put border len text [] list is.0 rise
    ∙ ap (λ xs. put text ++ xs) (drop_all len list (omega (arith, long)))
parts-patched put border len fresh text list (part ∷ parts) is long rise fit =
    let P = PartFits len (length fresh) in
    let one = All-head P part parts fit in
    let next = old_place part.slots part.to border in
    let left = pending_after part.slots part.from part.to fresh text in
    let others = All-tail P part parts fit in
    part-patched put part.slots part.from part.to border len fresh text list (front_items put list fresh parts)
    (part_hunks next left len fresh parts) is rise.0 one.some
    (parts-stand next len fresh left parts rise.1 others)
    (parts-patched put next len fresh left list parts is long rise.1 others)

between-characters : (slots : Option Slots) (old : List Cell) (fresh : List ℕ) (from to : ℕ)
    → items_between (λ put_in. put_in) slots (characters old) fresh from to
    ≡ characters (cells_between slots old fresh from to)
between-characters None old fresh from to = sym (map-slice_range (λ (cell : Cell). cell.character) from to old)
between-characters (Some slots) old fresh from to = sym (characters-of (slice_range fresh from to) slots)

front-characters : (old : List Cell) (fresh : List ℕ) (parts : List Part)
    → front_items (λ put_in. put_in) (characters old) fresh parts ≡ characters (front_cells old fresh parts)
front-characters old fresh [] = refl
front-characters old fresh (part ∷ parts) =
    ap₂ (λ xs ys. xs ++ ys) (between-characters part.slots old fresh part.from part.to)
    (front-characters old fresh parts)
    ∙ sym (map-append (λ (cell : Cell). cell.character) (part_cells old fresh part) (front_cells old fresh parts))

-- the characters that they make
pub parts-written : (len : ℕ) (fresh : List ℕ) (old : List Cell) (parts : List Part) (hunks : List Hunk)
    → length old ≡ len → Rise 0 len parts → All (PartFits len (length fresh)) parts
    → hunks ≡ part_hunks 0 [] len fresh parts
    → patched 0 hunks (characters old) ≡ characters (front_cells old fresh parts)
parts-written len fresh old parts hunks long rise fit are =
    ap (λ hs. patched 0 hs (characters old)) are
    ∙ parts-patched (λ put_in. put_in) 0 len fresh [] (characters old) parts (refl, λ text more. refl)
    (length-characters old ∙ long) rise fit
    ∙ front-characters old fresh parts

-- no part is left
pub hunks-end : (old now : List Hunk) (border len : ℕ) (text fresh : List ℕ) (left : List Part) (all : List Hunk) →
    old ++ part_hunks border text len fresh left ≡ all → left ≡ [] → now ≡ old ++ replacing border len text → now ≡ all
hunks-end old now border len text fresh left all so_far is now_is =
    now_is ∙ ap (λ ps. old ++ part_hunks border text len fresh ps) (sym is) ∙ so_far
