-- The cells of a store and those of a document.
use Rattle.reports.proofs.Common.{◌≡◌, ℕ, zero, suc, ◌+◌, ◌-◌, ◌<◌, Bool, List, [], ◌∷◌, ◌++◌, Some, map, length}
use Rattle.reports.proofs.Common.{get_or, refl, sym, ap, ap₂, ◌∙◌, ne_eqb, arith, option_map, All, get_or-map, All-tail}
use Rattle.reports.proofs.Common.{slice_get-map, slice_get-get_or, Named, AreTags, Tag, Tags, slot_of, known_tags, Cell}
use Rattle.reports.proofs.Common.{Content, Slots, flags, slot_sets, inserted, removed, changed, cells_of, with_slot}
use Rattle.reports.proofs.Common.{without_slots, map-inserted, map-removed, map-changed, map-alike, map-map, Span}
use Rattle.reports.proofs.Common.{shared_slots, cell_without, tagged, IsFront, bare, with_key, with_tag, keys_between}
use Rattle.reports.proofs.Common.{common_keys, AreSeats, HasKnownSlots, Key, Keys, keyed, keys_of, key_named, key_pairs}
use Rattle.reports.proofs.Common.{KeyedCell, characters, length-map, slice_get, if◌then◌else◌, names_of, AreApart}
use Rattle.tag_table.specs.Tags.{names_of as tag_names}
use Rattle.reports.proofs.BridgeLaws.{keys_of-empty, keys_of-extended, keys_of-has, keys_of-intersection, keys_of-left}
use Rattle.reports.proofs.BridgeLaws.{keys_of-reordered, keys_of-set_slot}
use Rattle.reports.proofs.LookupLaws.{has}
use Rattle.reports.proofs.SlotLaws.{Extends, Extends-front, Extends-seated, GoWith, slot_for, slot_for-named}
use Rattle.std.specs.FinSet as set
use Rattle.text_model.specs.Content as model

abbrev pub keyed_cell : List (ℕ × Key) → Cell → KeyedCell
keyed_cell pairs cell = record { character = cell.character; keys = keys_of pairs cell.tags }

abbrev with_keys : Cell → Keys → KeyedCell
with_keys cell keys = record { character = cell.character; keys = keys }

-- how many there are, and their characters
pub characters-keyed : (pairs : List (ℕ × Key)) (cells : List Cell) →
    characters (keyed pairs cells) ≡ model.characters cells
characters-keyed pairs [] = refl
characters-keyed pairs (cell ∷ cells) = ap (λ cs. cell.character ∷ cs) (characters-keyed pairs cells)

pub length-keyed : (pairs : List (ℕ × Key)) (cells : List Cell) → length (keyed pairs cells) ≡ length cells
length-keyed pairs cells = length-map cells _

-- a text that is put in
pub keyed-inserted : (pairs : List (ℕ × Key)) (at : ℕ) (text : List ℕ) (slots : Slots) (cells : List Cell)
    → keyed pairs (inserted at (cells_of text slots) cells)
    ≡ inserted at (map (λ character. record { character = character; keys = keys_of pairs slots }) text)
    (keyed pairs cells)
keyed-inserted pairs at text slots cells =
    map-inserted (keyed_cell pairs) at (cells_of text slots) cells
    ∙ ap (λ new. inserted at new (keyed pairs cells))
    (map-map (keyed_cell pairs) (λ character. record { character = character; tags = slots }) text)

pub keyed-removed : (pairs : List (ℕ × Key)) (from to : ℕ) (cells : List Cell) →
    keyed pairs (removed from to cells) ≡ removed from to (keyed pairs cells)
keyed-removed pairs from to cells = map-removed (keyed_cell pairs) from to cells

-- a cell that loses all its slots
pub keyed-bare : (pairs : List (ℕ × Key)) (at : ℕ) (cells : List Cell) →
    keyed pairs (changed without_slots at (at + 1) cells) ≡ changed bare at (at + 1) (keyed pairs cells)
keyed-bare pairs at cells = map-changed (keyed_cell pairs) without_slots bare (λ cell.
    ap (with_keys cell) (keys_of-empty pairs)) at (at + 1) cells

abbrev no_cell : Cell
no_cell = record { character = 0; tags = set.empty }

get-keyed : (pairs : List (ℕ × Key)) (cells : List Cell) (at : ℕ) → at < length cells →
    slice_get (keyed pairs cells) at ≡ Some (keyed_cell pairs (get_or cells at no_cell))
get-keyed pairs cells at within = slice_get-map (keyed_cell pairs) cells at
    ∙ ap (option_map (keyed_cell pairs)) (slice_get-get_or cells at no_cell within)

-- the seats of a document and the table of its tags
module _ (seats : List Named) (table : Tags) (seated : AreSeats seats) (sound : AreTags table) where
  abbrev pairs : List (ℕ × Key)
  pairs = key_pairs seats table.tags

  -- the keys that both sides of a place have
  pub keyed-shared : (at : ℕ) (cells : List Cell) → at < length cells →
      keys_of pairs (shared_slots at cells) ≡ keys_between (keyed pairs cells) at
  keyed-shared zero cells within = keys_of-empty pairs
  keyed-shared (suc before) cells within =
      let left : Slots = (get_or cells before no_cell).tags in
      let right : Slots = (get_or cells (suc before) no_cell).tags in
      let first : before < length cells = omega (arith, within) in
      let back : suc before - 1 ≡ before = omega arith in
      let around : shared_slots (suc before) cells ≡ set.intersection left right =
      ap (λ b. if b then set.empty else set.intersection (get_or (slot_sets cells) (suc before - 1) set.empty)
      (get_or (slot_sets cells) (suc before) set.empty)) (ne_eqb (suc before) 0 (omega arith))
      ∙ ap (λ k. set.intersection (get_or (slot_sets cells) k set.empty)
      (get_or (slot_sets cells) (suc before) set.empty)) back
      ∙ ap₂ set.intersection (get_or-map (λ (cell : Cell). cell.tags) cells before no_cell set.empty first)
      (get_or-map (λ (cell : Cell). cell.tags) cells (suc before) no_cell set.empty within) in
      ap (keys_of pairs) around ∙ keys_of-intersection seats table seated sound left right
      ∙ sym (ap₂ common_keys (get-keyed pairs cells before first) (get-keyed pairs cells (suc before) within))

  -- a widget, and a tag as it names it
  module _ (seat_at : ℕ) (seat : Named) (sits : slice_get seats seat_at
      ≡ Some seat) (name : List ℕ) (slot : ℕ) (is : known_tags table.tags seat.number name ≡ Some slot) where
    abbrev key : Key
    key = key_named seat.name name

    key_slot : slot_for seats table.tags key ≡ Some slot
    key_slot = slot_for-named seats table seated sound seat_at seat name sits ∙ is

    -- its slot that is set, or taken off
    pub keyed-changed : (on : Bool) (from to : ℕ) (cells : List Cell) →
        keyed pairs (changed (with_slot slot on) from to cells) ≡ changed (with_key key on) from to (keyed pairs cells)
    keyed-changed on from to cells =
        map-changed (keyed_cell pairs) (with_slot slot on) (with_key key on) (λ cell.
        ap (with_keys cell) (keys_of-set_slot seats table seated sound key slot on cell.tags key_slot)) from to
        cells

    pub keyed-tagged : (on : Bool) (spans : List Span) (content : Content) →
        keyed pairs (tagged slot on spans content).cells ≡ with_tag key on spans (keyed pairs content.cells)
    keyed-tagged on [] content = refl
    keyed-tagged on (span ∷ spans) content =
        keyed-tagged on spans (record content { cells = changed (with_slot slot on) span.from span.to content.cells })
        ∙ ap (with_tag key on spans) (keyed-changed on span.from span.to content.cells)

    -- which cells have it
    pub keyed-flags : (cells : List Cell) → flags slot cells
        ≡ map (λ (cell : KeyedCell). set.contains cell.keys key) (keyed pairs cells)
    keyed-flags cells =
        map-alike (λ (cell : Cell). set.contains cell.tags slot) (λ (cell : Cell).
        set.contains (keys_of pairs cell.tags) key)
        (λ cell. sym (keys_of-has seats table.tags cell.tags key seated.names_apart sound.names_apart
        ∙ ap (has cell.tags) key_slot)) cells
        ∙ sym (map-map (λ (cell : KeyedCell). set.contains cell.keys key) (keyed_cell pairs) cells)

-- more seats and tags change no cell whose slots are known
pub keyed-extended : (seats more : List Named) (table new : Tags) → AreSeats seats → AreTags table → AreSeats more →
    AreTags new → Extends seats table.tags more new.tags
    → (cells : List Cell) → All (HasKnownSlots seats table.tags) cells →
    keyed (key_pairs more new.tags) cells ≡ keyed (key_pairs seats table.tags) cells
keyed-extended seats more table new seated sound more_seated new_sound extends [] known = refl
keyed-extended seats more table new seated sound more_seated new_sound extends (cell ∷ cells) known =
    let here : HasKnownSlots seats table.tags cell = known 0 cell (omega arith) in
    ap₂ (λ keys others. with_keys cell keys ∷ others)
    (keys_of-extended seats more table new seated sound more_seated new_sound extends cell.tags here)
    (keyed-extended seats more table new seated sound more_seated new_sound extends cells
    (All-tail (HasKnownSlots seats table.tags) cell cells known))

-- new tags behind the others
pub keyed-more : (seats : List Named) (old new : Tags) (cells : List Cell) → AreSeats seats → AreTags old →
    AreTags new → IsFront old new → All (HasKnownSlots seats old.tags) cells
    → keyed (key_pairs seats new.tags) cells ≡ keyed (key_pairs seats old.tags) cells
keyed-more seats old new cells seated sound new_sound front known =
    keyed-extended seats seats old new seated sound seated new_sound (Extends-front seats old new front) cells known

-- new seats behind the others
pub keyed-seated : (seats more : List Named) (table : Tags) (cells : List Cell) → AreSeats seats →
    AreSeats (seats ++ more) → AreTags table → All (HasKnownSlots seats table.tags) cells
    → keyed (key_pairs (seats ++ more) table.tags) cells ≡ keyed (key_pairs seats table.tags) cells
keyed-seated seats more table cells seated more_seated sound known = keyed-extended seats (seats ++ more) table table
    seated sound more_seated sound (Extends-seated seats more table.tags) cells known

-- an order of the tags changes no cell
pub keyed-reordered : (seats : List Named) (tags other : List Tag) (cells : List Cell) → AreApart (names_of seats) →
    AreApart (tag_names tags) → AreApart (tag_names other)
    → ((name : List ℕ) → slot_of name other ≡ slot_of name tags) →
    keyed (key_pairs seats other) cells ≡ keyed (key_pairs seats tags) cells
keyed-reordered seats tags other cells seats_apart apart other_apart same =
    map-alike (keyed_cell (key_pairs seats other)) (keyed_cell (key_pairs seats tags)) (λ cell.
    ap (with_keys cell) (keys_of-reordered seats tags other cell.tags seats_apart apart other_apart same)) cells

-- the keys of a cell that stay
abbrev pub with_staying : (Key → Bool) → KeyedCell → KeyedCell
with_staying stays cell = record cell { keys = set.retain cell.keys stays }

-- slots that are taken off with their keys
pub keyed-left : (gone : List ℕ) (stays : Key → Bool) (seats : List Named) (tags : List Tag) (left : List Named)
    (left_tags : List Tag) → GoWith gone stays seats tags left left_tags
    → AreApart (names_of seats) → AreApart (tag_names tags) → AreApart (names_of left) →
    AreApart (tag_names left_tags) → (cells : List Cell)
    → keyed (key_pairs left left_tags) (map (cell_without gone) cells)
    ≡ map (with_staying stays) (keyed (key_pairs seats tags) cells)
keyed-left gone stays seats tags left left_tags goes apart tags_apart left_apart left_tags_apart cells =
    let pairs = key_pairs seats tags in
    let new = key_pairs left left_tags in
    map-map (keyed_cell new) (cell_without gone) cells
    ∙ map-alike (λ cell. keyed_cell new (cell_without gone cell)) (λ cell. with_staying stays (keyed_cell pairs cell))
    (λ cell. ap (with_keys cell) (keys_of-left gone stays seats tags left left_tags goes apart tags_apart left_apart
    left_tags_apart cell.tags)) cells
    ∙ sym (map-map (with_staying stays) (keyed_cell pairs) cells)
