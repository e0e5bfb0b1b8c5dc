-- What a plain store contains: at first, and after each step.
use Rattle.text_model.proofs.Common.{◌≡◌, ℕ, ◌+◌, ◌^◌, ◌<◌, ◌≤◌, Bool, true, false, List, [], ◌++◌, length, map, take}
use Rattle.text_model.proofs.Common.{drop, Option, Some, None, get_or, sym, ap, subst, ◌∙◌, arith, option_map, nat_cmp}
use Rattle.text_model.proofs.Common.{take_at, map_over_more, Cell, Step, Place, Slots, map_marks, new_content}
use Rattle.text_model.proofs.Common.{MarksStand, cells_of, after_removal, after_insertion, with_slot, set_slot}
use Rattle.text_model.proofs.Common.{StepFits, after_step, inserted, removed, moved, drawn, plain_content, plain_marks}
use Rattle.text_model.proofs.Common.{IsPlain}
use Rattle.std.proofs.Common.{set as set_at}
use Rattle.text_model.proofs.PlaceLaws.{get-plain_marks, plain_marks-map, same_marks}
use Rattle.text_model.proofs.StepLaws.{MarksStand-after_step}
use Rattle.std.specs.FinMap as finite
use Rattle.std.specs.FinSet as set

pub plain_marks-nil : plain_marks [] ≡ finite.empty
plain_marks-nil = same_marks _ _ (λ number. get-plain_marks [] number ∙ sym (finite.get-empty nat_cmp number))

pub plain_content-new : (cells : List Cell) (places : List (Option Place)) → cells ≡ new_content.cells → places ≡ [] →
    plain_content cells places ≡ new_content
plain_content-new cells places cells_are none =
    let marks_are : plain_marks places ≡ finite.empty = ap plain_marks none ∙ plain_marks-nil in
    λ i. record { cells = cells_are i; marks = marks_are i }

pub IsPlain-new : (cells : List Cell) → IsPlain cells []
IsPlain-new cells =
    record {
      stand = λ number place is. absurd (let no : None ≡ Some place = sym (get-plain_marks [] number) ∙ is in cc);
      few = omega arith;
    }

pub plain_content-removed : (cells found : List Cell) (places placed : List (Option Place)) (from to : ℕ) →
    found ≡ removed from to cells → placed ≡ map (option_map (drawn from to)) places
    → plain_content found placed ≡ after_removal from to (plain_content cells places)
plain_content-removed cells found places placed from to found_is placed_is =
    let marks_are : plain_marks placed ≡ map_marks (drawn from to) (plain_marks places) = ap plain_marks placed_is
    ∙ plain_marks-map (drawn from to) places in
    λ i. record { cells = found_is i; marks = marks_are i }

pub plain_content-inserted : (cells found : List Cell) (places placed : List (Option Place)) (at count : ℕ)
    (text : List ℕ) (slots : Slots)
    → found ≡ inserted at (cells_of text slots) cells → count ≡ length text →
    placed ≡ map (option_map (moved at count)) places
    → plain_content found placed ≡ after_insertion at text slots (plain_content cells places)
plain_content-inserted cells found places placed at count text slots found_is count_is placed_is =
    let marks_are : plain_marks placed ≡ map_marks (moved at (length text)) (plain_marks places) =
    ap plain_marks placed_is ∙ plain_marks-map (moved at count) places
    ∙ ap (λ n. map_marks (moved at n) (plain_marks places)) count_is in
    λ i. record { cells = found_is i; marks = marks_are i }

-- a plain store is kept by each step
pub IsPlain-after_step : (step : Step) (cells found : List Cell) (places placed : List (Option Place)) →
    StepFits step (plain_content cells places) → IsPlain cells places
    → plain_content found placed ≡ after_step step (plain_content cells places) → length placed ≤ 2 ^ 16 →
    IsPlain found placed
IsPlain-after_step step cells found places placed fits plain made few =
    record {
      stand = subst MarksStand (sym made)
          (MarksStand-after_step step (plain_content cells places) fits plain.stand);
      few = few;
    }

-- a loop that sets a slot on each cell: one cell more
pub cell_more : (slot : ℕ) (on : Bool) (old cells : List Cell) (i : ℕ) (item : Cell) (tags : Slots) → i < length old →
    cells ≡ map (with_slot slot on) (take i old) ++ drop i old
    → item ≡ get_or cells i item → tags ≡ set_slot slot on (get_or cells i item).tags
    → set_at cells i (record { character = (get_or cells i item).character; tags = tags })
    ≡ map (with_slot slot on) (take (i + 1) old) ++ drop (i + 1) old
cell_more slot on old cells i item tags within so_far is tags_is =
    ap (λ t. set_at cells i (record { character = (get_or cells i item).character; tags = t })) tags_is
    ∙ ap (λ cell. set_at cells i (with_slot slot on cell)) (sym is)
    ∙ map_over_more (with_slot slot on) old cells i item within so_far is

pub set_slot-on : (slot : ℕ) (on : Bool) (slots : Slots) → on ≡ true → set_slot slot on slots ≡ set.insert slots slot
set_slot-on slot on slots is = ap (λ b. set_slot slot b slots) is

pub set_slot-off : (slot : ℕ) (on : Bool) (slots : Slots) → on ≡ false → set_slot slot on slots ≡ set.remove slots slot
set_slot-off slot on slots is = ap (λ b. set_slot slot b slots) is

-- what a slice of all of a list leaves when it is written
pub all_written : {A : Type 0} (n : ℕ) (new old : List A) → length new ≡ n → take n (new ++ drop (length new) old) ≡ new
all_written n new old long = take_at new (drop (length new) old) n long
