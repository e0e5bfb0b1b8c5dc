-- What is told where tags are deleted, name by name.
use Rattle.std.specs.Prelude.{◌≡◌, ◌≢◌, ℕ, false, List, Some, map}
use Rattle.std.specs.FinSet as set
use Rattle.std.specs.List.{All}
use Rattle.name_list.specs.Names.{Named}
use Rattle.tag_table.specs.Tags.{Tags, slot_of}
use Rattle.text_model.specs.Content.{Slots}
use Rattle.text_model.specs.declared.cells.Cell.{Cell}
use Rattle.command_effects.specs.Words.{is_among}
use Rattle.reports.specs.Keys.{key_pairs}
use Rattle.reports.specs.Cells.{keyed}
use Rattle.reports.specs.Cells.{key_stays, without_tags}
use Rattle.reports.specs.TagsTold.{AreGapped, TellsTags}
use Rattle.reports.specs.declared.tag_lists.TagChange.{TagChange}

-- the tags of some names go from the cells of a store
abbrev pub TellsGone : List Named → Tags → List Cell → List (List ℕ) → List TagChange → Type 0
TellsGone seats table cells names told =
    TellsTags told (keyed (key_pairs seats table.tags) cells)
    (map (without_tags names) (keyed (key_pairs seats table.tags) cells))

-- the report of that, by changes of their keys alone that leave gaps, and which slots they have was seen
pub record AreGone (seats : List Named) (table : Tags) (cells : List Cell) (names : List (List ℕ)) (seen : Slots)
    (told : List TagChange) : Type 0 where
  pub slots : (name : List ℕ) (slot : ℕ) → slot_of name table.tags ≡ Some slot → slot ≢ 0 →
      set.contains seen slot ≡ is_among name names
  pub tells : TellsGone seats table cells names told
  pub own : All (λ (change : TagChange). key_stays names change.key ≡ false) told
  pub gapped : AreGapped told
