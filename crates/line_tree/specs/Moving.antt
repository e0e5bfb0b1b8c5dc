-- A mark that goes to one of a tree's lines, and leaves another.
use Rattle.std.specs.Prelude.{◌≡◌, ◌≢◌, ◌≤◌, ℕ, suc, List, length, map, take, drop, slice_get}
use Rattle.std.specs.declared.option.Option.TheVariants.{None, Some}
use Rattle.text_model.specs.declared.places.Place.{Place}
use Rattle.toggle_sums.specs.Counts.{plus}
use Rattle.segments.specs.Columns.{LineContent, line_count}
use Rattle.line_lists.specs.Edits.{with_mark, without_mark}
use Rattle.raw_nodes.specs.declared.names.NodePtr.{NodePtr}
use Rattle.line_tree.specs.Changes.{FitsSum}
use Rattle.line_tree.specs.MarkTable.{holder}
use Rattle.line_tree.specs.Places.{IsLineAt}
use Rattle.line_tree.specs.Taking.{changed}
use Rattle.line_tree.specs.Trees.{Named, total}

-- no line but this one has the mark of a number
pub record IsAloneAt (number k : ℕ) (lines : List Named) : Type 0 where
  pub before : holder number (take k lines) ≡ None
  pub behind : holder number (drop (suc k) lines) ≡ None

-- the line with this name alone has it, and is another
pub record IsElsewhere (number k : ℕ) (lines : List Named) (name : NodePtr) : Type 0 where
  pub at : ℕ
  pub named : IsLineAt lines at name
  pub other : at ≢ k
  pub alone : IsAloneAt number at lines

-- the lines without the mark of a number
abbrev pub all_without : ℕ → List Named → List Named
all_without number lines = map (λ (l : Named). (l.0, without_mark number l.1)) lines

-- the mark of a number stands at a place in this line, and in no other
abbrev pub moved_to : ℕ → ℕ → Place → LineContent → List Named → List Named
moved_to number k place line lines = changed k (λ _. with_mark number place line) (all_without number lines)

-- it can be put into the line with this name, which can be counted then
pub record CanMove (lines : List Named) (number : ℕ) (name : NodePtr) (place : Place) : Type 0 where
  pub at : ℕ
  pub line : LineContent
  pub is : slice_get lines at ≡ Some (name, line)
  pub fits : place.offset ≤ length line.columns
  pub counted : FitsSum (plus (total lines) (line_count (with_mark number place line)))
