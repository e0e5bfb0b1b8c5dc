-- Widgets that commands make and drop: `text`, `peer` and `destroy`.
use Rattle.std.specs.Prelude.{ℕ, ◌+◌, nat_le, false, not, List, length, filter, Result, if◌then◌else◌}
use Rattle.text_model.specs.LimitTable.{LimitTable}
use Rattle.command_effects.specs.declared.answers.Answer.{Answer}
use Rattle.command_effects.specs.declared.answers.Answer.TheVariants.{Word}
use Rattle.command_effects.specs.declared.answers.Fault.{Fault}
use Rattle.command_effects.specs.declared.answers.Fault.TheVariants.{InvalidCommandName, TooManyWidgets, WindowExists}
use Rattle.command_effects.specs.declared.settings.Settings.{Settings}
use Rattle.peers.specs.Arguments.{one_or_more_of}
use Rattle.command_effects.specs.Words.{is_among, is_same}
use Rattle.documents.specs.Documents.{Document, Widget}
use Rattle.documents.specs.Kept.{is_window_name}
use Rattle.documents.specs.Options.{settings_of}
use Rattle.documents.specs.Promise.{Change, answered, change_with, refused}
use Rattle.documents.specs.WellFormed.{window_names}
use Rattle.documents.specs.Widgets.{with_peer}
use Rattle.peers.specs.Options.{settings_given}
use Rattle.peers.specs.Tags.{listed}

-- a peer takes its parent's lines, and isn't disabled
abbrev pub peer_settings : Document → Widget → Settings
peer_settings document widget = record (settings_of document widget) { disabled = false }

-- a name that no window has yet, unless there are too many
abbrev pub peer_with : LimitTable → List (List ℕ) → Document → ℕ → List ℕ → Settings → Change
peer_with limits windows document position name settings =
    if is_among name windows then refused document (WindowExists position)
    else (if nat_le limits.widgets (length windows) then refused document TooManyWidgets
    else answered (with_peer name settings document) (Word position))

abbrev pub peer_words : LimitTable → List (List ℕ) → Document → Widget → ℕ → List ℕ × List (List ℕ) → Change
peer_words limits windows document widget position (name, words) =
    if is_window_name name
    then change_with document (settings_given document (position + 1) words (peer_settings document widget))
    (peer_with limits windows document position name)
    else refused document (InvalidCommandName position)

-- `W peer create V ?option value ..?`; the names of all windows are known
abbrev pub peer_create : LimitTable → List (List ℕ) → Document → Widget → ℕ → List (List ℕ) → Change
peer_create limits windows document widget position words =
    change_with document (one_or_more_of words) (peer_words limits windows document widget position)

-- `W peer names`: the other widgets of the document, by their creation
abbrev pub peer_names : Document → Widget → Result Answer Fault
peer_names document widget = listed (filter (λ name. not (is_same name widget.name)) (window_names document))
