-- The tags of a table as tags are made and taken out, and the slots of tag lists.
use Rattle.std.specs.Prelude.{◌≡◌, ℕ, ◌≤◌, ◌==◌, ◌||◌, Bool, not, if◌then◌else◌, filter, List, [], ◌∷◌, length, take}
use Rattle.std.specs.Prelude.{Option, None, Some, option_map}
use Rattle.std.specs.FinSet as set
use Rattle.std.specs.List.{filter_map}
use Rattle.text_model.specs.Content.{Slots}
use Rattle.index_grammar.specs.Names.{known_tags}
use Rattle.tag_table.specs.Tags.{Tag, Tags, sel, slot_of}
use Rattle.edit_ops.specs.declared.slotted_texts.SlottedText.{SlottedText}
use Rattle.command_effects.specs.Lists.{Pair}
use Rattle.command_effects.specs.Words.{is_among, is_same}

-- the tags of a table stand at the front of another
pub record IsFront (old new : Tags) : Type 0 where
  pub tags : take (length old.tags) new.tags ≡ old.tags
  pub longer : length old.tags ≤ length new.tags
  pub limit : new.limit ≡ old.limit

abbrev pub with_found : Option ℕ → Slots → Slots
with_found None slots = slots
with_found (Some slot) slots = set.insert slots slot

-- the slots of the tags of these names, for a widget
abbrev pub slots_named : List Tag → ℕ → List (List ℕ) → Slots
slots_named tags own [] = set.empty
slots_named tags own (name ∷ names) = with_found (known_tags tags own name) (slots_named tags own names)

abbrev pub piece_of : List Tag → ℕ → Pair → SlottedText
piece_of tags own pair = record { text = pair.text; slots = option_map (slots_named tags own) pair.names }

-- the slot that a tag of the table has for a widget: that of `sel` is the widget's own
abbrev pub own_slot : ℕ → ℕ → ℕ
own_slot own slot = if slot == 0 then own else slot

-- the slot of a tag that goes; `sel` stays
abbrev pub slot_taken : Option ℕ → Option ℕ
slot_taken None = None
slot_taken (Some slot) = if slot == 0 then None else Some slot

-- the slots of the tags of some names, but that of `sel`
abbrev pub slots_deleted : List Tag → List (List ℕ) → List ℕ
slots_deleted tags names = filter_map (λ name. slot_taken (slot_of name tags)) names

-- a name stays that isn't among those to be deleted, and `sel` in any case
abbrev pub stays : List (List ℕ) → List ℕ → Bool
stays names name = is_same name sel || not (is_among name names)

-- a table without the tags of some names
abbrev pub tags_left : List (List ℕ) → List Tag → List Tag
tags_left names tags = filter (λ (tag : Tag). stays names tag.name) tags
