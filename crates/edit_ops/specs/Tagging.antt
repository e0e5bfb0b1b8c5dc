-- What it does to set a slot on spans of a text or to take it off them, and to take slots off the whole text.
use Rattle.std.specs.Prelude.{ℕ, ◌≤◌, Bool, List, [], ◌∷◌, map}
use Rattle.std.specs.FinSet as set
use Rattle.text_model.specs.declared.cells.Cell.{Cell}
use Rattle.text_model.specs.Content.{Content, Slots}
use Rattle.text_model.specs.Splices.{changed}
use Rattle.text_model.specs.Steps.{with_slot}
use Rattle.edit_ops.specs.declared.spans.Span.{Span}

-- a span lies in a text of so many characters
pub record SpanFits (len : ℕ) (span : Span) : Type 0 where
  pub ordered : span.from ≤ span.to
  pub within : span.to ≤ len

abbrev pub tagged : ℕ → Bool → List Span → Content → Content
tagged slot on [] content = content
tagged slot on (span ∷ spans) content =
    tagged slot on spans (record content { cells = changed (with_slot slot on) span.from span.to content.cells })

-- some slots less
abbrev pub without : List ℕ → Slots → Slots
without [] tags = tags
without (slot ∷ slots) tags = without slots (set.remove tags slot)

abbrev pub cell_without : List ℕ → Cell → Cell
cell_without slots cell = record cell { tags = without slots cell.tags }

-- no cell has any of some slots
abbrev pub cleared : List ℕ → Content → Content
cleared slots content = record content { cells = map (cell_without slots) content.cells }
