-- A line that is remembered.
use Rattle.std.specs.Prelude.{◌≡◌, ◌+◌, List, length, take, slice_get, IfSome}
use Rattle.std.specs.declared.option.Option.{Option}
use Rattle.std.specs.declared.option.Option.TheVariants.{None, Some}
use Rattle.std.proofs.Props.{props}
use Rattle.segments.specs.Columns.{LineContent}
use Rattle.line_lists.specs.Texts.{whole}
use Rattle.line_tree.specs.declared.last_line.LastLine.{LastLine}
use Rattle.line_tree.specs.Places.{IsLineAt}
use Rattle.line_tree.specs.Trees.{Named, contents}

-- the line of this index has this name, and begins and ends there
pub record IsThere (lines : List Named) (last : LastLine) : Type 0 where
  pub name : IsLineAt lines last.index last.name
  pub start : last.start ≡ length (whole (take last.index (contents lines))).columns
  pub end : (line : LineContent) → slice_get (contents lines) last.index ≡ Some line →
      last.end ≡ last.start + length line.columns

pub IsThere-prop : (lines : List Named) (last : Option LastLine) → IsProp (IfSome last (IsThere lines))
IsThere-prop lines None = Prim.hlevel props
IsThere-prop lines (Some last) = Prim.hlevel props
