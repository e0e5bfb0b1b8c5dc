-- Slots of seats and tags alone.
use Rattle.reports.proofs.Common.{◌≡◌, ℕ, ◌-◌, ◌<◌, Bool, true, false, cond, List, [], ◌∷◌, Option, None, Some, map}
use Rattle.reports.proofs.Common.{length, ◌++◌, get_or, take, drop, refl, sym, subst, ◌∙◌, true≢false, arith, Contains}
use Rattle.reports.proofs.Common.{◌==◌, nat_cmp_total, All, nat_cmp, get_or-map, All-append, All-cons, All-drop}
use Rattle.reports.proofs.Common.{All-map, All-nil, All-take, Named, AreTags, Tag, Tags, slot_of, known_tags, Cell}
use Rattle.reports.proofs.Common.{Slots, slot_sets, changed, inserted, cells_of, set_slot, with_slot, contains-set_slot}
use Rattle.reports.proofs.Common.{cell_without, shared_slots, IsFront, slots_named, with_found, AreKnown, AreSeats}
use Rattle.reports.proofs.Common.{HasKnownSlots, Key, key_named, key_pairs, pair_slots, and_parts, slice_get, eqb-true}
use Rattle.reports.proofs.Common.{IfSome, slice_range, if◌then◌else◌}
use Rattle.std.specs.Char.{IsScalar}
use Rattle.edit_ops.specs.declared.slotted_texts.SlottedText.{SlottedText}
use Rattle.edit_ops.specs.Insertions.{slots_or}
use Rattle.reports.proofs.BridgeLaws.{known-extended, known-left}
use Rattle.reports.proofs.SlotLaws.{Extends, Extends-front, Extends-seated, Extends-tags, GoWith, slot_among}
use Rattle.reports.proofs.SlotLaws.{slot_for-named}
use Rattle.std.specs.FinSet as set

-- a text of Unicode scalar values, with slots of seats and tags where it has a tag list
pub record IsKnownPiece (seats : List Named) (tags : List Tag) (piece : SlottedText) : Type 0 where
  pub text : All IsScalar piece.text
  pub slots : IfSome piece.slots (AreKnown seats tags)

abbrev no_cell : Cell
no_cell = record { character = 0; tags = set.empty }

module _ (seats : List Named) (tags : List Tag) where
  abbrev slots : List ℕ
  slots = pair_slots (key_pairs seats tags)

  pub known-empty : AreKnown seats tags set.empty
  known-empty slot there = absurd (true≢false (sym there ∙ set.contains-empty nat_cmp slot))

  known-intersection : (a b : Slots) → AreKnown seats tags a → AreKnown seats tags (set.intersection a b)
  known-intersection a b known slot there =
      known slot (and_parts (set.contains a slot) (set.contains b slot)
      (sym (set.contains-intersection nat_cmp_total a b slot) ∙ there)).0

  pub known-set_slot : (slot : ℕ) (on : Bool) (set_of : Slots) → Contains slots slot → AreKnown seats tags set_of →
      AreKnown seats tags (set_slot slot on set_of)
  known-set_slot slot on set_of one known other there =
      elim (other == slot) as (λ b. (other == slot) ≡ b → cond b on (set.contains set_of other) ≡ true →
      Contains slots other) [
        | true ↦ λ same _. subst (Contains slots) (sym (eqb-true other slot same)) one
        | false ↦ λ _ old. known other old
      ] refl (sym (contains-set_slot slot on set_of other) ∙ there)

  pub known-shared : (at : ℕ) (cells : List Cell) → All (HasKnownSlots seats tags) cells → at < length cells →
      AreKnown seats tags (shared_slots at cells)
  known-shared at cells known within =
      let left = get_or (slot_sets cells) (at - 1) set.empty in
      let right = get_or (slot_sets cells) at set.empty in
      let before : at - 1 < length cells = omega (arith, within) in
      let is : left ≡ (get_or cells (at - 1) no_cell).tags = get_or-map (λ (cell : Cell). cell.tags) cells (at - 1)
      no_cell set.empty before in
      elim (at == 0) as (λ b. AreKnown seats tags (if b then set.empty else set.intersection left right)) [
        | true ↦ known-empty
        | false ↦ known-intersection left right (subst (AreKnown seats tags) (sym is) (known (at - 1) no_cell before))
      ]

  pub known-put : (at : ℕ) (listed : Option Slots) (cells : List Cell) → IfSome listed (AreKnown seats tags) →
      All (HasKnownSlots seats tags) cells → at < length cells
      → AreKnown seats tags (slots_or listed (shared_slots at cells))
  known-put at None cells listed known within = known-shared at cells known within
  known-put at (Some own) cells listed known within = listed

  known-cells_of : (text : List ℕ) (own : Slots) → AreKnown seats tags own →
      All (HasKnownSlots seats tags) (cells_of text own)
  known-cells_of [] own known = All-nil (HasKnownSlots seats tags)
  known-cells_of (character ∷ text) own known = All-cons (HasKnownSlots seats tags)
      (record { character = character; tags = own }) (cells_of text own) known (known-cells_of text own known)

  pub known-inserted : (at : ℕ) (text : List ℕ) (own : Slots) (cells : List Cell) → AreKnown seats tags own →
      All (HasKnownSlots seats tags) cells
      → All (HasKnownSlots seats tags) (inserted at (cells_of text own) cells)
  known-inserted at text own cells new known =
      let P = HasKnownSlots seats tags in
      All-append P (take at cells ++ cells_of text own) (drop at cells)
      (All-append P (take at cells) (cells_of text own) (All-take P at cells known) (known-cells_of text own new))
      (All-drop P at cells known)

  pub known-changed : (slot : ℕ) (on : Bool) (from to : ℕ) (cells : List Cell) → Contains slots slot →
      All (HasKnownSlots seats tags) cells
      → All (HasKnownSlots seats tags) (changed (with_slot slot on) from to cells)
  known-changed slot on from to cells one known =
      let P = HasKnownSlots seats tags in
      let part = slice_range cells from to in
      let new : All P (map (with_slot slot on) part) = All-map P (with_slot slot on) part
      (λ k cell within. known-set_slot slot on (get_or part k cell).tags one
      (All-take P (to - from) (drop from cells) (All-drop P from cells known) k cell within)) in
      All-append P (take from cells ++ map (with_slot slot on) part) (drop to cells)
      (All-append P (take from cells) (map (with_slot slot on) part) (All-take P from cells known) new)
      (All-drop P to cells known)

-- a widget of the seats
module _ (seats : List Named) (table : Tags) (seated : AreSeats seats) (sound : AreTags table) (seat_at : ℕ)
    (seat : Named) (sits : slice_get seats seat_at ≡ Some seat) where
  -- the slot of a tag as it names it
  pub known-slot : (name : List ℕ) (slot : ℕ) → known_tags table.tags seat.number name ≡ Some slot →
      Contains (pair_slots (key_pairs seats table.tags)) slot
  known-slot name slot is = slot_among seats table.tags (key_named seat.name name) slot
      (slot_for-named seats table seated sound seat_at seat name sits ∙ is)

  -- the slots of a tag list
  pub known-named : (names : List (List ℕ)) → AreKnown seats table.tags (slots_named table.tags seat.number names)
  known-named [] = known-empty seats table.tags
  known-named (name ∷ names) = with_more (known_tags table.tags seat.number name) (λ slot is. known-slot name slot is)
      (slots_named table.tags seat.number names) (known-named names)
    where
      with_more : (found : Option ℕ) → ((slot : ℕ) → found ≡ Some slot →
          Contains (pair_slots (key_pairs seats table.tags)) slot) → (own : Slots) → AreKnown seats table.tags own
          → AreKnown seats table.tags (with_found found own)
      with_more None stands own known = known
      with_more (Some slot) stands own known = known-set_slot seats table.tags slot true own (stands slot refl) known

-- cells of known slots, where there are more seats and tags
pub known-more : (seats more : List Named) (table : Tags) (new : List Tag) → AreSeats seats → AreTags table →
    Extends seats table.tags more new → (cells : List Cell) → All (HasKnownSlots seats table.tags) cells
    → All (HasKnownSlots more new) cells
known-more seats more table new seated sound extends cells known k cell within =
    known-extended seats more table new seated sound extends (get_or cells k cell).tags (known k cell within)

-- and where slots are taken off with their keys
pub known-without : (gone : List ℕ) (stays : Key → Bool) (seats : List Named) (table : Tags) (left : List Named)
    (left_tags : List Tag) → GoWith gone stays seats table.tags left left_tags → AreSeats seats → AreTags table
    → (cells : List Cell) → All (HasKnownSlots seats table.tags) cells →
    All (HasKnownSlots left left_tags) (map (cell_without gone) cells)
known-without gone stays seats table left left_tags goes seated sound cells known =
    All-map (HasKnownSlots left left_tags) (cell_without gone) cells (λ k cell within.
    known-left gone stays seats table left left_tags goes seated sound (get_or cells k cell).tags (known k cell within))

pub known-front : (seats : List Named) (old new : Tags) → AreSeats seats → AreTags old → IsFront old new →
    (cells : List Cell) → All (HasKnownSlots seats old.tags) cells → All (HasKnownSlots seats new.tags) cells
known-front seats old new seated sound front =
    known-more seats seats old new.tags seated sound (Extends-front seats old new front)

pub known-reordered : (seats : List Named) (old : Tags) (new : List Tag) → AreSeats seats → AreTags old →
    ((name : List ℕ) → slot_of name new ≡ slot_of name old.tags) → (cells : List Cell)
    → All (HasKnownSlots seats old.tags) cells → All (HasKnownSlots seats new) cells
known-reordered seats old new seated sound same =
    known-more seats seats old new seated sound (Extends-tags seats old.tags new (λ name slot is. same name ∙ is))

pub known-seated : (seats more : List Named) (table : Tags) → AreSeats seats → AreTags table → (cells : List Cell) →
    All (HasKnownSlots seats table.tags) cells → All (HasKnownSlots (seats ++ more) table.tags) cells
known-seated seats more table seated sound =
    known-more seats (seats ++ more) table table.tags seated sound (Extends-seated seats more table.tags)
