-- Characters with their keys, and what edits make of these.
use Rattle.std.specs.Prelude.{ℕ, Bool, List, [], ◌∷◌, map, Option, None, Some, not, zero, suc, slice_get, ◌||◌}
use Rattle.std.specs.FinSet as set
use Rattle.command_effects.specs.Words.{is_among}
use Rattle.edit_ops.specs.declared.spans.Span.{Span}
use Rattle.reports.specs.Keys.{Key, Keys, set_key, keys_of}
use Rattle.text_model.specs.Splices.{changed}
use Rattle.text_model.specs.declared.cells.Cell.{Cell}

-- a character with a finite set of keys
pub record KeyedCell : Type 0 where
  pub character : ℕ
  pub keys : Keys

-- the cells of a store, with the keys that the pairs of a slot and a key give their slots
abbrev pub keyed : List (ℕ × Key) → List Cell → List KeyedCell
keyed pairs cells = map (λ (cell : Cell). record { character = cell.character; keys = keys_of pairs cell.tags }) cells

abbrev pub characters : List KeyedCell → List ℕ
characters cells = map (λ (cell : KeyedCell). cell.character) cells

-- ---- what edits make of them

-- The keys that text without a tag list gets: those that both its neighbours have, and none at the start.
abbrev pub common_keys : Option KeyedCell → Option KeyedCell → Keys
common_keys (Some left) (Some right) = set.intersection left.keys right.keys
common_keys (Some left) None = set.empty
common_keys None right = set.empty

abbrev pub keys_between : List KeyedCell → ℕ → Keys
keys_between cells zero = set.empty
keys_between cells (suc before) = common_keys (slice_get cells before) (slice_get cells (suc before))

abbrev pub keys_or : Option Keys → Keys → Keys
keys_or (Some keys) common = keys
keys_or None common = common

-- the cell at an offset loses all its keys
abbrev pub bare : KeyedCell → KeyedCell
bare cell = record cell { keys = set.empty }

-- a key is put on the cells of spans, or taken off them
abbrev pub with_key : Key → Bool → KeyedCell → KeyedCell
with_key key on cell = record cell { keys = set_key key on cell.keys }

abbrev pub with_tag : Key → Bool → List Span → List KeyedCell → List KeyedCell
with_tag key on [] cells = cells
with_tag key on (span ∷ spans) cells = with_tag key on spans (changed (with_key key on) span.from span.to cells)

abbrev pub key_stays : List (List ℕ) → Key → Bool
key_stays names key = key.selects || not (is_among key.name names)

abbrev pub without_tags : List (List ℕ) → KeyedCell → KeyedCell
without_tags names cell = record cell { keys = set.retain cell.keys (key_stays names) }
