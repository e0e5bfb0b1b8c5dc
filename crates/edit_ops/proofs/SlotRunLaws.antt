-- The runs of what parts put in give its cells their slots.
use Rattle.edit_ops.proofs.Common.{◌≡◌, ℕ, ◌+◌, ◌-◌, ◌<◌, ◌≤◌, List, [], ◌∷◌, ◌++◌, Option, Some, None, map, length}
use Rattle.edit_ops.proofs.Common.{drop, take, refl, sym, ap, ap₂, ◌∙◌, arith, subst, length-append, slice_range, All}
use Rattle.edit_ops.proofs.Common.{drop_at, length-map, take_at, All-cons, All-head, All-nil, All-tail, Cell, Slots}
use Rattle.edit_ops.proofs.Common.{changed, cells_of, map-map, Part, parts_len, cells_between, front_cells, part_cells}
use Rattle.edit_ops.proofs.Common.{source_len, PartFits, Rise, part-length, Hunk, part_hunks, part_runs, run_of}
use Rattle.edit_ops.proofs.Common.{patched_by, append_assoc, map-append, bare_cells, slotted, with_slots, AreBareRuns}
use Rattle.edit_ops.proofs.Common.{SlotRun}
use Rattle.edit_ops.proofs.DeleteLaws.{length-slice}
use Rattle.edit_ops.proofs.PartHunkLaws.{front_items, items_between, parts-patched}
use Rattle.std.specs.FinSet as set

-- ---- what stands between two lists

pub slice-middle : {A : Type 0} (at end : ℕ) (front middle rest : List A) → length front ≡ at → at + length middle ≡ end
    → slice_range (front ++ (middle ++ rest)) at end ≡ middle
slice-middle at end front middle rest begins ends =
    ap (take (end - at)) (drop_at front (middle ++ rest) at begins)
    ∙ take_at middle rest (end - at) (let e : length middle ≡ end - at = omega (arith, ends) in e)

pub changed-middle : {A : Type 0} (f : A → A) (at end : ℕ) (front middle rest : List A) → length front ≡ at
    → at + length middle ≡ end → changed f at end (front ++ (middle ++ rest)) ≡ front ++ (map f middle ++ rest)
changed-middle f at end front middle rest begins ends =
    ap₂ (λ xs ys. xs ++ ys) (ap₂ (λ xs ys. xs ++ map f ys) (take_at front (middle ++ rest) at begins)
    (slice-middle at end front middle rest begins ends))
    (ap (drop end) (sym (append_assoc front middle rest)) ∙ drop_at (front ++ middle) rest end
    (length-append front middle ∙ ap (λ n. n + length middle) begins ∙ ends))
    ∙ append_assoc front (map f middle) rest

-- ---- one part

pub slots-of : (text : List ℕ) (slots : Slots) → map (with_slots slots) (bare_cells text) ≡ cells_of text slots
slots-of text slots = map-map (with_slots slots) (λ character. record { character = character; tags = set.empty }) text

pub without : (text : List ℕ) → All (λ (cell : Cell). cell.tags ≡ set.empty) (bare_cells text)
without [] = All-nil (λ (cell : Cell). cell.tags ≡ set.empty)
without (character ∷ text) =
    let cell : Cell = record { character = character; tags = set.empty } in
    All-cons (λ (cell : Cell). cell.tags ≡ set.empty) cell (bare_cells text) refl (without text)

items-length : (slots : Option Slots) (old : List Cell) (fresh : List ℕ) (from to : ℕ) → from < to
    → to ≤ source_len slots (length old) (length fresh)
    → length (items_between bare_cells slots old fresh from to) ≡ to - from
items-length None old fresh from to some within = length-slice from to old (omega (arith, some)) within
items-length (Some slots) old fresh from to some within =
    length-map (slice_range fresh from to) _ ∙ length-slice from to fresh (omega (arith, some)) within

pub runs-lower : (border at : ℕ) (runs : List SlotRun) (cells : List Cell) → border ≤ at → AreBareRuns at runs cells
    → AreBareRuns border runs cells
runs-lower border at [] cells before are = tt
runs-lower border at (run ∷ runs) cells before are = (let h = are.0 in omega (arith, before, h), are.1, are.2)

part-bare : (slots : Option Slots) (at end from to : ℕ) (front old rest : List Cell) (fresh : List ℕ)
    (runs : List SlotRun) → length front ≡ at → at + (to - from) ≡ end → from < to
    → to ≤ source_len slots (length old) (length fresh)
    → AreBareRuns end runs ((front ++ items_between bare_cells slots old fresh from to) ++ rest)
    → AreBareRuns at (run_of slots at end ++ runs) (front ++ (items_between bare_cells slots old fresh from to ++ rest))
part-bare None at end from to front old rest fresh runs begins ends some within others =
    let middle = slice_range old from to in
    runs-lower at end runs (front ++ (middle ++ rest)) (omega (arith, ends))
    (subst (AreBareRuns end runs) (append_assoc front middle rest) others)
part-bare (Some slots) at end from to front old rest fresh runs begins ends some within others =
    let text = slice_range fresh from to in
    let middle = bare_cells text in
    let long = items-length (Some slots) old fresh from to some within in
    let stops : at + length middle ≡ end = ap (λ n. at + n) long ∙ ends in (
      omega arith,
      record {
        some = omega (arith, ends, some);
        within = let whole = length-append front (middle ++ rest) in let part = length-append middle rest in
            omega (arith, whole, part, begins, stops);
        bare = subst (All (λ (cell : Cell). cell.tags ≡ set.empty))
            (sym (slice-middle at end front middle rest begins stops)) (without text);
      },
      subst (AreBareRuns end runs) (append_assoc front middle rest) others,
    )

part-slotted : (slots : Option Slots) (at end from to : ℕ) (front old rest done : List Cell) (fresh : List ℕ)
    (runs : List SlotRun) → length front ≡ at → at + (to - from) ≡ end → from < to
    → to ≤ source_len slots (length old) (length fresh)
    → slotted runs ((front ++ cells_between slots old fresh from to) ++ rest)
    ≡ (front ++ cells_between slots old fresh from to) ++ done
    → slotted (run_of slots at end ++ runs) (front ++ (items_between bare_cells slots old fresh from to ++ rest))
    ≡ front ++ (cells_between slots old fresh from to ++ done)
part-slotted None at end from to front old rest done fresh runs begins ends some within others =
    let middle = slice_range old from to in
    ap (slotted runs) (sym (append_assoc front middle rest)) ∙ others ∙ append_assoc front middle done
part-slotted (Some slots) at end from to front old rest done fresh runs begins ends some within others =
    let text = slice_range fresh from to in
    let middle = cells_of text slots in
    let long = items-length (Some slots) old fresh from to some within in
    ap (slotted runs) (changed-middle (with_slots slots) at end front (bare_cells text) rest begins
    (ap (λ n. at + n) long ∙ ends)
    ∙ ap (λ cells. front ++ (cells ++ rest)) (slots-of text slots) ∙ sym (append_assoc front middle rest))
    ∙ others ∙ append_assoc front middle done

-- ---- all of them

runs-bare : (at : ℕ) (front old : List Cell) (fresh : List ℕ) (parts : List Part) → length front ≡ at
    → All (PartFits (length old) (length fresh)) parts
    → AreBareRuns at (part_runs at parts) (front ++ front_items bare_cells old fresh parts)
runs-bare at front old fresh [] begins fit = tt
runs-bare at front old fresh (part ∷ parts) begins fit =
    let P = PartFits (length old) (length fresh) in
    let one = All-head P part parts fit in
    let middle = items_between bare_cells part.slots old fresh part.from part.to in
    let end = at + (part.to - part.from) in
    part-bare part.slots at end part.from part.to front old (front_items bare_cells old fresh parts) fresh
    (part_runs end parts) begins refl one.some one.within
    (runs-bare end (front ++ middle) old fresh parts
    (length-append front middle
    ∙ ap₂ (λ m n. m + n) begins (items-length part.slots old fresh part.from part.to one.some one.within))
    (All-tail P part parts fit))

runs-slotted : (at : ℕ) (front old : List Cell) (fresh : List ℕ) (parts : List Part) → length front ≡ at
    → All (PartFits (length old) (length fresh)) parts
    → slotted (part_runs at parts) (front ++ front_items bare_cells old fresh parts)
    ≡ front ++ front_cells old fresh parts
runs-slotted at front old fresh [] begins fit = refl
runs-slotted at front old fresh (part ∷ parts) begins fit =
    let P = PartFits (length old) (length fresh) in
    let one = All-head P part parts fit in
    let middle = part_cells old fresh part in
    let end = at + (part.to - part.from) in
    part-slotted part.slots at end part.from part.to front old (front_items bare_cells old fresh parts)
    (front_cells old fresh parts) fresh (part_runs end parts) begins refl one.some one.within
    (runs-slotted end (front ++ middle) old fresh parts
    (length-append front middle ∙ ap₂ (λ m n. m + n) begins (part-length old fresh part one))
    (All-tail P part parts fit))

-- ---- hunks and runs of the same parts

pub record OfParts (old : List Cell) (fresh : List ℕ) (parts : List Part) (hunks : List Hunk) (runs : List SlotRun)
    : Type 0 where
  pub rise : Rise 0 (length old) parts
  pub fit : All (PartFits (length old) (length fresh)) parts
  pub hunks_are : hunks ≡ part_hunks 0 [] (length old) fresh parts
  pub runs_are : runs ≡ part_runs 0 parts

pub of-parts : {old : List Cell} {len : ℕ} {fresh : List ℕ} {parts : List Part} {hunks : List Hunk}
    {runs : List SlotRun} → length old ≡ len → Rise 0 len parts → All (PartFits len (length fresh)) parts
    → hunks ≡ part_hunks 0 [] len fresh parts → runs ≡ part_runs 0 parts → OfParts old fresh parts hunks runs
of-parts {old} {len} {fresh} {parts} long rise fit hunks_are runs_are = record {
  rise = subst (λ n. Rise 0 n parts) (sym long) rise;
  fit = subst (λ n. All (PartFits n (length fresh)) parts) (sym long) fit;
  hunks_are = hunks_are ∙ ap (λ n. part_hunks 0 [] n fresh parts) (sym long);
  runs_are = runs_are;
}

pub bare-append : (text more : List ℕ) → bare_cells (text ++ more) ≡ bare_cells text ++ bare_cells more
bare-append text more = map-append (λ character. record { character = character; tags = set.empty }) text more

bare-is : (old : List Cell) (fresh : List ℕ) (parts : List Part) (hunks : List Hunk) (runs : List SlotRun)
    → OfParts old fresh parts hunks runs
    → patched_by bare_cells 0 hunks old ≡ front_items bare_cells old fresh parts
bare-is old fresh parts hunks runs of =
    ap (λ hs. patched_by bare_cells 0 hs old) of.hunks_are
    ∙ parts-patched bare_cells 0 (length old) fresh [] old parts (refl, bare-append) refl of.rise of.fit

pub made-bare : {old : List Cell} {fresh : List ℕ} {parts : List Part} {hunks : List Hunk} {runs : List SlotRun}
    → OfParts old fresh parts hunks runs → AreBareRuns 0 runs (patched_by bare_cells 0 hunks old)
made-bare {old} {fresh} {parts} {hunks} {runs} of =
    subst (AreBareRuns 0 runs) (sym (bare-is old fresh parts hunks runs of))
    (subst (λ rs. AreBareRuns 0 rs (front_items bare_cells old fresh parts)) (sym of.runs_are)
    (runs-bare 0 [] old fresh parts refl of.fit))

pub made-slotted : {old : List Cell} {fresh : List ℕ} {parts : List Part} {hunks : List Hunk} {runs : List SlotRun}
    → OfParts old fresh parts hunks runs → slotted runs (patched_by bare_cells 0 hunks old) ≡ front_cells old fresh parts
made-slotted {old} {fresh} {parts} {hunks} {runs} of =
    ap₂ slotted of.runs_are (bare-is old fresh parts hunks runs of) ∙ runs-slotted 0 [] old fresh parts refl of.fit

-- ---- the parts one after the other

-- the first parts up to an index have their runs, and the others begin at an offset
pub record RunsSoFar (parts : List Part) (runs : List SlotRun) (at index : ℕ) : Type 0 where
  pub made : runs ++ part_runs at (drop index parts) ≡ part_runs 0 parts
  pub counted : at + parts_len (drop index parts) ≡ parts_len parts
