-- Commands on the history and on whether the text is modified: `edit ..`.
use Rattle.std.specs.Prelude.{ℕ, Bool, List, Option, None, Some, ok_or, option_map}
use Rattle.command_table.specs.Numbers.{boolean_of}
use Rattle.undo_stack.specs.Modified.{is_modified}
use Rattle.command_effects.specs.declared.answers.Answer.TheVariants.{Flag}
use Rattle.command_effects.specs.declared.answers.Fault.TheVariants.{BadBoolean}
use Rattle.peers.specs.Arguments.{none_or_one_of}
use Rattle.documents.specs.Promise.{Change, answered, change_with}
use Rattle.documents.specs.Documents.{Document}
use Rattle.documents.specs.History.{can_redo, can_undo, modified_set}
use Rattle.peers.specs.World.{World, document_at, home}

abbrev pub modified_word : Document → ℕ → Option (List ℕ) → Change
modified_word document position None = answered document (Flag (is_modified document.modified))
modified_word document position (Some word) =
    change_with document (ok_or (boolean_of word) (BadBoolean position)) (modified_set document)

-- `W edit modified ?bool?`
abbrev pub edit_modified : Document → ℕ → List (List ℕ) → Change
edit_modified document position words = change_with document (none_or_one_of words) (modified_word document position)

-- Whether `edit undo` would find a group in the text that the widget of a name shows; none where there is no such
-- widget. No command asks it, and it changes nothing.
abbrev pub can_undo_by : World → List ℕ → Option Bool
can_undo_by world name = option_map (λ place. can_undo (document_at world.documents place)) (home name world.documents)

-- the same of `edit redo`
abbrev pub can_redo_by : World → List ℕ → Option Bool
can_redo_by world name = option_map (λ place. can_redo (document_at world.documents place)) (home name world.documents)
