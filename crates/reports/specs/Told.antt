-- What the report of edits says of a text.
use Rattle.std.specs.Prelude.{List, length}
use Rattle.std.specs.List.{All}
use Rattle.edit_ops.specs.Told.{Tells, AreExact}
use Rattle.reports.specs.Cells.{KeyedCell, characters}
use Rattle.reports.specs.TagsTold.{after_changes, IsTagRun, TellsTags}
use Rattle.reports.specs.declared.told.EditTold.{EditTold}
use Rattle.undo_stack.specs.declared.actions.Action.{Action}

-- The characters of a text become others by edits of the text: the changes of the text are exactly what the edits do,
-- and make the new text of the old one; those of tags make the new characters of what they leave, and each is a whole
-- run of the characters where its tag differs.
pub record TellsCells (edits : List Action) (old new : List KeyedCell) (told : EditTold) : Type 0 where
  pub text : Tells told.changes (characters old) (characters new)
  pub exact : AreExact edits (length old) told.changes
  pub tags : TellsTags told.tags (after_changes told.changes old) new
  pub runs : All (IsTagRun (after_changes told.changes old) new) told.tags
