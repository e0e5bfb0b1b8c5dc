-- Which tags are on the cells of a view.
use Rattle.search_dump.proofs.Common.{length-shown_flags, Part, ◌≡◌, ℕ, zero, suc, ◌+◌, ◌-◌, ◌<◌, ◌≤◌, ◌&&◌, Bool}
use Rattle.search_dump.proofs.Common.{false, List, [], ◌∷◌, ap, sym, ◌∙◌, arith, IsView, shown, shown_flags}
use Rattle.search_dump.proofs.Common.{length-shown, flag_before, slice_get, get_or_past, none-some, same_Some, flag_at}
use Rattle.search_dump.proofs.Common.{Slots, flags, slot_sets, part-flag, lt-ltb, Some, length}
use Rattle.std.specs.Ordering.{nat_cmp}
use Rattle.text_model.specs.declared.cells.Cell.{Cell}
use Rattle.std.specs.FinSet as set

slots-flag : (slot : ℕ) (cells : List Cell) (at : ℕ) (slots : Slots) → slice_get (slot_sets cells) at ≡ Some slots →
    slice_get (flags slot cells) at ≡ Some (set.contains slots slot)
slots-flag slot [] at slots is = absurd (none-some slots is)
slots-flag slot (cell ∷ cells) zero slots is = ap (λ s. Some (set.contains s slot)) (same_Some cell.tags slots is)
slots-flag slot (cell ∷ cells) (suc at) slots is = slots-flag slot cells at slots is

-- the slots of a cell of the view say which flags it has
pub slots-shown : (part : Part) (place : ℕ) (slots : Slots) → part.start + place < part.end →
    slice_get (slot_sets part.content.cells) (part.start + place) ≡ Some slots
    → (slot : ℕ) → set.contains slots slot ≡ flag_at (shown_flags slot part) place
slots-shown part place slots within is slot =
    part-flag (flags slot part.content.cells) part.start part.end place (set.contains slots slot) within
    (slots-flag slot part.content.cells (part.start + place) slots is)

-- no slot is on before the first place, nor behind the last
pub none-before : (flags : List Bool) (place : ℕ) → place ≡ 0 → (slots : Slots) → slots ≡ set.empty → (slot : ℕ) →
    set.contains slots slot ≡ flag_before flags place
none-before flags place is slots empty slot =
    ap (λ (s : Slots). set.contains s slot) empty ∙ set.contains-empty nat_cmp slot ∙ sym (ap (flag_before flags) is)

pub none-behind : (part : Part) (place : ℕ) → IsView part →
    place ≡ length (shown part) → (slots : Slots) → slots ≡ set.empty
    → (slot : ℕ) → set.contains slots slot ≡ flag_at (shown_flags slot part) place
none-behind part place view is slots empty slot =
    let past : length (shown_flags slot part) ≤ place =
    omega (arith, length-shown_flags part slot view, is, length-shown part view) in
    ap (λ (s : Slots). set.contains s slot) empty ∙ set.contains-empty nat_cmp slot
    ∙ sym (get_or_past (shown_flags slot part) place false past)

pub some-before : (part : Part) (place : ℕ) (slots : Slots) → 0 < place → part.start + place ≤ part.end →
    slice_get (slot_sets part.content.cells) (part.start + (place - 1)) ≡ Some slots
    → (slot : ℕ) → set.contains slots slot ≡ flag_before (shown_flags slot part) place
some-before part place slots some within is slot =
    slots-shown part (place - 1) slots (omega arith) is slot
    ∙ sym (ap (λ test. test && flag_at (shown_flags slot part) (place - 1)) (lt-ltb 0 place some))
