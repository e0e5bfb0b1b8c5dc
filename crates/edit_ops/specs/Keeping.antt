-- What holds of a text and its history before each edit, and after it.
use Rattle.std.specs.Prelude.{◌≡◌, ℕ, false, []}
use Rattle.std.specs.List.{All}
use Rattle.text_model.specs.Content.{characters}
use Rattle.undo_stack.specs.Fits.{FitsText}
use Rattle.edit_ops.specs.declared.plans.Recording.{Recording}
use Rattle.edit_ops.specs.Anchors.{AreAnchored}
use Rattle.edit_ops.specs.States.{State}

-- The history fits the text with a limit on characters, and nothing is in it where no action is kept.
pub record IsKept (limit : ℕ) (recording : Recording) (state : State) : Type 0 where
  pub fits : FitsText limit (characters state.content.cells) state.log.history
  pub groups : recording.undo ≡ false → state.log.history.groups ≡ []
  pub undone : recording.undo ≡ false → state.log.history.undone ≡ []

-- the anchors of each widget stand where lines start
abbrev pub IsAnchored : State → Type 0
IsAnchored state = All (AreAnchored (characters state.content.cells)) state.anchors
