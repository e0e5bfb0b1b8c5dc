-- How a store's slots stand for keys: those of the widgets' own, by their seats, and those of tags.
use Rattle.std.specs.Prelude.{ℕ, true, List, Some, ◌≡◌, slice_get, ◌<◌, Contains}
use Rattle.std.specs.FinSet as set
use Rattle.name_list.specs.Names.{AreApart, Named, names_of, numbers_of}
use Rattle.reports.specs.Keys.{key_pairs, pair_slots}
use Rattle.tag_table.specs.Tags.{Tag}
use Rattle.text_model.specs.Content.{Slots}
use Rattle.text_model.specs.LimitTable.{most_widgets}
use Rattle.text_model.specs.declared.cells.Cell.{Cell}

-- names are distinct, and so are numbers, each a slot of a widget's own
pub record AreSeats (seats : List Named) : Type 0 where
  pub names_apart : AreApart (names_of seats)
  pub numbers_apart : AreApart (numbers_of seats)
  pub below : (seat number : ℕ) → slice_get (numbers_of seats) seat ≡ Some number → number < most_widgets

-- every slot is that of a seat or of a tag
abbrev pub AreKnown : List Named → List Tag → Slots → Type 0
AreKnown seats tags slots =
    (slot : ℕ) → set.contains slots slot ≡ true → Contains (pair_slots (key_pairs seats tags)) slot

abbrev pub HasKnownSlots : List Named → List Tag → Cell → Type 0
HasKnownSlots seats tags cell = AreKnown seats tags cell.tags
