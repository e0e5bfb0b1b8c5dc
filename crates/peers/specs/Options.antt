-- `configure` and `cget`.
use Rattle.std.specs.Prelude.{ℕ, List, Result, Ok}
use Rattle.text_model.specs.Lines.{lines}
use Rattle.command_effects.specs.declared.answers.Answer.{Answer}
use Rattle.command_effects.specs.declared.answers.Answer.TheVariants.{Empty}
use Rattle.command_effects.specs.declared.answers.Fault.{Fault}
use Rattle.command_effects.specs.declared.settings.Settings.{Settings}
use Rattle.peers.specs.Arguments.{one_of}
use Rattle.command_effects.specs.Faults.{with_value}
use Rattle.command_effects.specs.Settings.{setting_answer, settings_checked, settings_read}
use Rattle.documents.specs.Options.{settings_of, with_settings}
use Rattle.documents.specs.Promise.{Change, answered, change_with}
use Rattle.documents.specs.Documents.{Document, Widget}
use Rattle.reports.specs.Cells.{characters}

-- the settings with the values of options, of which the first stands at a position: each value is decided, and then the
-- lines
abbrev pub settings_given : Document → ℕ → List (List ℕ) → Settings → Result Settings Fault
settings_given document position words settings =
    with_value (settings_read (lines (characters document.cells)) position words settings) settings_checked

-- `W configure option value ?option value ..?`: all values are decided before anything changes
abbrev pub configure : Document → Widget → ℕ → List (List ℕ) → Change
configure document widget position words =
    change_with document (settings_given document position words (settings_of document widget)) (λ settings.
    answered (with_settings widget settings document) Empty)

-- `W cget option`
abbrev pub cget : Document → Widget → List (List ℕ) → Result Answer Fault
cget document widget words =
    with_value (one_of words) (λ option. Ok (setting_answer option (settings_of document widget)))
