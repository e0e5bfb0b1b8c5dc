-- The characters of a text after each step, and whether its cells have a slot.
use Rattle.text_model.proofs.Common.{◌≡◌, ◌≢◌, ℕ, ◌≤◌, Bool, true, false, cond, ◌&&◌, ◌||◌, ◌==◌, not, List, [], ◌∷◌}
use Rattle.text_model.proofs.Common.{map, refl, ap, ◌∙◌, arith, nat_cmp, nat_cmp_total, unsigned_tied, nat_tests, Cell}
use Rattle.text_model.proofs.Common.{Slots, characters, flags, inserted, removed, changed, cells_of, set_slot}
use Rattle.text_model.proofs.Common.{with_slot, without_slots}
use Rattle.text_model.proofs.SpliceLaws.{map-inserted, map-removed, map-changed, map-alike, map-map, changed-same}
use Rattle.std.specs.FinSet as set

abbrev character_of : Cell → ℕ
character_of cell = cell.character

abbrev has_slot : ℕ → Cell → Bool
has_slot slot cell = set.contains cell.tags slot

pub characters-cells_of : (text : List ℕ) (slots : Slots) → characters (cells_of text slots) ≡ text
characters-cells_of [] slots = refl
characters-cells_of (c ∷ text) slots = ap (λ cs. c ∷ cs) (characters-cells_of text slots)

pub characters-inserted : (at : ℕ) (text : List ℕ) (slots : Slots) (cells : List Cell) →
    characters (inserted at (cells_of text slots) cells) ≡ inserted at text (characters cells)
characters-inserted at text slots cells =
    map-inserted character_of at (cells_of text slots) cells
    ∙ ap (λ new. inserted at new (characters cells)) (characters-cells_of text slots)

pub characters-removed : (from to : ℕ) (cells : List Cell) →
    characters (removed from to cells) ≡ removed from to (characters cells)
characters-removed from to cells = map-removed character_of from to cells

-- a change of slots keeps the characters
pub characters-with_slot : (slot : ℕ) (on : Bool) (from to : ℕ) (cells : List Cell) → from ≤ to →
    characters (changed (with_slot slot on) from to cells) ≡ characters cells
characters-with_slot slot on from to cells ordered =
    map-changed character_of (with_slot slot on) (λ c. c) (λ cell. refl) from to cells
    ∙ changed-same from to (characters cells) ordered

pub characters-without_slots : (from to : ℕ) (cells : List Cell) → from ≤ to →
    characters (changed without_slots from to cells) ≡ characters cells
characters-without_slots from to cells ordered =
    map-changed character_of without_slots (λ c. c) (λ cell. refl) from to cells
    ∙ changed-same from to (characters cells) ordered

pub characters-all_with_slot : (slot : ℕ) (on : Bool) (cells : List Cell) →
    characters (map (with_slot slot on) cells) ≡ characters cells
characters-all_with_slot slot on cells = map-map character_of (with_slot slot on) cells

pub flags-cells_of : (slot : ℕ) (text : List ℕ) (slots : Slots) →
    flags slot (cells_of text slots) ≡ map (λ _. set.contains slots slot) text
flags-cells_of slot text slots = map-map (has_slot slot) _ text

pub flags-inserted : (slot at : ℕ) (text : List ℕ) (slots : Slots) (cells : List Cell)
    → flags slot (inserted at (cells_of text slots) cells)
    ≡ inserted at (map (λ _. set.contains slots slot) text) (flags slot cells)
flags-inserted slot at text slots cells =
    map-inserted (has_slot slot) at (cells_of text slots) cells
    ∙ ap (λ new. inserted at new (flags slot cells)) (flags-cells_of slot text slots)

pub flags-removed : (slot from to : ℕ) (cells : List Cell) →
    flags slot (removed from to cells) ≡ removed from to (flags slot cells)
flags-removed slot from to cells = map-removed (has_slot slot) from to cells

with_one : (b h : Bool) → (b || h) ≡ cond b true h
with_one true h = refl
with_one false h = refl

without_one : (b h : Bool) → (not b && h) ≡ cond b false h
without_one true h = refl
without_one false h = refl

-- a set of slots with one of them in it, or out of it
pub contains-set_slot : (slot : ℕ) (on : Bool) (slots : Slots) (q : ℕ) →
    set.contains (set_slot slot on slots) q ≡ cond (q == slot) on (set.contains slots q)
contains-set_slot slot true slots q = set.contains-insert nat_cmp_total slots slot q
    ∙ ap (λ b. b || set.contains slots q) (unsigned_tied q slot) ∙ with_one (q == slot) (set.contains slots q)
contains-set_slot slot false slots q = set.contains-remove nat_cmp_total slots slot q
    ∙ ap (λ b. not b && set.contains slots q) (unsigned_tied q slot) ∙ without_one (q == slot) (set.contains slots q)

same_slot : (slot : ℕ) → (slot == slot) ≡ true
same_slot slot = grind (arith, nat_tests)

other_slot : (q slot : ℕ) → q ≢ slot → (q == slot) ≡ false
other_slot q slot other = grind (arith, nat_tests)

has_set : (slot : ℕ) (on : Bool) (cell : Cell) → has_slot slot (with_slot slot on cell) ≡ on
has_set slot on cell =
    contains-set_slot slot on cell.tags slot ∙ ap (λ b. cond b on (set.contains cell.tags slot)) (same_slot slot)

has_other : (slot q : ℕ) (on : Bool) → q ≢ slot → (cell : Cell) → has_slot q (with_slot slot on cell) ≡ has_slot q cell
has_other slot q on other cell =
    contains-set_slot slot on cell.tags q ∙ ap (λ b. cond b on (set.contains cell.tags q)) (other_slot q slot other)

-- the cells of a change have the slot or not; no other slot changes
pub flags-with_slot : (slot : ℕ) (on : Bool) (from to : ℕ) (cells : List Cell) →
    flags slot (changed (with_slot slot on) from to cells) ≡ changed (λ _. on) from to (flags slot cells)
flags-with_slot slot on from to cells =
    map-changed (has_slot slot) (with_slot slot on) (λ _. on) (has_set slot on) from to cells

pub flags-with_other_slot : (slot q : ℕ) (on : Bool) (from to : ℕ) (cells : List Cell) → q ≢ slot → from ≤ to →
    flags q (changed (with_slot slot on) from to cells) ≡ flags q cells
flags-with_other_slot slot q on from to cells other ordered =
    map-changed (has_slot q) (with_slot slot on) (λ b. b) (has_other slot q on other) from to cells
    ∙ changed-same from to (flags q cells) ordered

pub flags-without_slots : (slot from to : ℕ) (cells : List Cell) →
    flags slot (changed without_slots from to cells) ≡ changed (λ _. false) from to (flags slot cells)
flags-without_slots slot from to cells =
    map-changed (has_slot slot) without_slots (λ _. false) (λ cell. set.contains-empty nat_cmp slot) from to cells

pub flags-all_with_slot : (slot : ℕ) (on : Bool) (cells : List Cell) →
    flags slot (map (with_slot slot on) cells) ≡ map (λ _. on) cells
flags-all_with_slot slot on cells =
    map-map (has_slot slot) (with_slot slot on) cells ∙ map-alike _ (λ _. on) (has_set slot on) cells

pub flags-all_with_other_slot : (slot q : ℕ) (on : Bool) (cells : List Cell) → q ≢ slot →
    flags q (map (with_slot slot on) cells) ≡ flags q cells
flags-all_with_other_slot slot q on cells other =
    map-map (has_slot q) (with_slot slot on) cells ∙ map-alike _ (has_slot q) (has_other slot q on other) cells
