-- A table of tags as it is kept: a list of names with numbers. `sel` has the number 0.
use Rattle.std.specs.Prelude.{◌≡◌, ℕ, ◌+◌, ◌-◌, ◌<◌, ◌≤◌, ◌==◌, true, Option, Some, List, map, length, position}
use Rattle.std.specs.Prelude.{bytes_eq, slice_get, if◌then◌else◌, IfSome}
use Rattle.name_list.specs.Moves.{move_index}
use Rattle.name_list.specs.Names.{Named, Names}
use Rattle.text_model.specs.LimitTable.{most_tags}
use Rattle.tag_table.specs.Priority.{Order, is_tag}
use Rattle.tag_table.specs.Tags.{Tag, Tags, first_slot, names_of, sel}

abbrev pub slot_of_number : ℕ → ℕ
slot_of_number number = if number == 0 then 0 else first_slot - 1 + number

abbrev pub tag : Named → Tag
tag entry = record { name = entry.name; slot = slot_of_number entry.number }

abbrev pub tags_kept : Names → Tags
tags_kept names = record { tags = map tag names.entries; limit = names.limit - 1 }

pub record AreKept (names : Names) : Type 0 where
  pub some : 0 < names.limit
  pub few : names.limit ≤ most_tags + 1
  pub selection : (at : ℕ) × (slice_get names.entries at ≡ Some (record { name = sel; number = 0 }))

-- the index to which an order moves a tag from another one: the neighbour is known, and the names are in the new order
pub record GoesTo (order : Order) (from : ℕ) (other : Option (List ℕ)) (tags : List Tag) (to : ℕ) : Type 0 where
  pub neighbour : IfSome other (λ o. is_tag o tags ≡ true)
  pub names : (name : List ℕ) → position (bytes_eq name) (names_of tags) ≡ Some from →
      order (names_of tags) name other ≡ move_index (names_of tags) from to
  pub within : to < length tags
