-- The tags of a document in the order of their priority, each with the slot by which a store knows it.
use Rattle.std.specs.Prelude.{◌≡◌, ◌≢◌, ℕ, ◌+◌, ◌<◌, ◌≤◌, Bool, Option, Some, List, map, length, find, bytes_eq, codes}
use Rattle.std.specs.Prelude.{slice_get, Contains}
use Rattle.std.specs.Option.{option_map}
use Rattle.name_list.specs.Names.{AreApart}
use Rattle.text_model.specs.LimitTable.{most_tags, most_widgets}

pub record Tag : Type 0 where
  pub name : List ℕ
  pub slot : ℕ

-- the tags from lowest to highest, and how many there may be besides `sel`
pub record Tags : Type 0 where
  pub tags : List Tag
  pub limit : ℕ

abbrev pub sel : List ℕ
sel = codes "sel"

-- the slots below are for the `sel` of each widget, and 0 stands for them here
abbrev pub first_slot : ℕ
first_slot = most_widgets

abbrev pub is_named : List ℕ → Tag → Bool
is_named name tag = bytes_eq name tag.name

abbrev pub slot_of : List ℕ → List Tag → Option ℕ
slot_of name tags = option_map (λ (tag : Tag). tag.slot) (find (is_named name) tags)

abbrev pub names_of : List Tag → List (List ℕ)
names_of tags = map (λ (tag : Tag). tag.name) tags

abbrev pub slots_of : List Tag → List ℕ
slots_of tags = map (λ (tag : Tag). tag.slot) tags

-- as many tags besides `sel` as there may be
abbrev pub IsFull : Tags → Type 0
IsFull tags = tags.limit < length tags.tags

-- the least slot for tags that no tag has
pub record IsLeastFree (slots : List ℕ) (slot : ℕ) : Type 0 where
  pub own : first_slot ≤ slot
  pub free : ¬ Contains slots slot
  pub below : (k : ℕ) → first_slot ≤ k → k < slot → Contains slots k

-- names and slots are distinct, `sel` is there, every other slot is one for tags, and there are no more than may be
pub record AreTags (tags : Tags) : Type 0 where
  pub names_apart : AreApart (names_of tags.tags)
  pub slots_apart : AreApart (slots_of tags.tags)
  pub selection : slot_of sel tags.tags ≡ Some 0
  pub others : (at slot : ℕ) → slice_get (slots_of tags.tags) at ≡ Some slot → slot ≢ 0 →
      (first_slot ≤ slot) × (slot < first_slot + tags.limit)
  pub room : length tags.tags ≤ tags.limit + 1
  pub limit : tags.limit ≤ most_tags
