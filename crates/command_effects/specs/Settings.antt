-- The options of a document, and of a widget that shows it.
use Rattle.std.specs.Prelude.{ℕ, ◌+◌, nat_lt, nat_le, min, decimal, Bool, false, true, List, [], ◌∷◌, ℤ, pos, negsuc}
use Rattle.std.specs.Prelude.{ok_or, option_and_then, option_map, Option, None, Some, Result, Ok, Err, if◌then◌else◌}
use Rattle.std.specs.Fmt.{signed_decimal}
use Rattle.command_table.specs.Numbers.{boolean_of, integer_of}
use Rattle.undo_stack.specs.History.{History, limit_of, limited, no_history}
use Rattle.edit_ops.specs.declared.plans.Recording.{Recording}
use Rattle.command_effects.specs.declared.answers.Answer.{Answer}
use Rattle.command_effects.specs.declared.answers.Answer.TheVariants.{Empty, Flag, Text}
use Rattle.command_effects.specs.declared.answers.Fault.{Fault}
use Rattle.command_effects.specs.declared.answers.Fault.TheVariants.{BadBoolean, BadInteger, BadOption}
use Rattle.command_effects.specs.declared.answers.Fault.TheVariants.{StartLineAfterEndLine, WrongArguments}
use Rattle.command_effects.specs.declared.settings.DocumentSettings.{DocumentSettings}
use Rattle.command_effects.specs.declared.settings.Settings.{Settings}
use Rattle.command_effects.specs.Faults.{with_value}
use Rattle.command_effects.specs.Words.{is_same, literal}

-- of a new document
abbrev pub first_document_settings : DocumentSettings
first_document_settings = record { undo = false; separators = true; most_undo = pos 0 }

-- of a new document and its widget
abbrev pub first_settings : Settings
first_settings = record { document = first_document_settings; disabled = false; start = None; end = None }

-- what of an edit is kept to be undone
abbrev pub recording_of : DocumentSettings → Recording
recording_of settings = record { undo = settings.undo; separators = settings.separators }

-- a history under such options: no more groups than the limit, and none where no action is kept
abbrev pub history_under : DocumentSettings → History → History
history_under settings history = limited (limit_of settings.most_undo) (if settings.undo then history else no_history)

-- whether a widget is disabled, by the word of its state
abbrev pub state_of : List ℕ → Option Bool
state_of word =
    if is_same word (literal "normal") then Some false
    else (if is_same word (literal "disabled") then Some true
    else None)

abbrev pub state_word : Bool → List ℕ
state_word false = literal "normal"
state_word true = literal "disabled"

-- a line by its number; the first one is 1
abbrev pub line_numbered : ℤ → Option ℕ
line_numbered (pos number) = if nat_lt 0 number then Some number else None
line_numbered (negsuc n) = None

-- a line, or none, by the word of an option; none by the empty one
abbrev pub line_of_word : List ℕ → Option (Option ℕ)
line_of_word [] = Some None
line_of_word (character ∷ characters) =
    option_and_then (λ number. option_map (λ line. Some line) (line_numbered number))
    (integer_of (character ∷ characters))

-- The line at which a view begins, in a document of so many lines. Where it would be above the last, the view begins
-- behind that.
abbrev pub start_bound : ℕ → Option ℕ → Option ℕ
start_bound lines None = None
start_bound lines (Some line) = Some (min line (lines + 1))

-- The line before which a view ends, in a document of so many lines. One above the last is no bound.
abbrev pub end_bound : ℕ → Option ℕ → Option ℕ
end_bound lines None = None
end_bound lines (Some line) = if nat_le line lines then Some line else None

-- the settings with the value of an option, which stands at a position, for a document of so many lines; the name is
-- one of the options
abbrev pub setting_read : ℕ → ℕ → List ℕ → List ℕ → Settings → Result Settings Fault
setting_read lines position option value settings =
    if is_same option (literal "-undo")
    then with_value (ok_or (boolean_of value) (BadBoolean position)) (λ undo.
    Ok (record settings { document = record settings.document { undo = undo } }))
    else (if is_same option (literal "-maxundo")
    then with_value (ok_or (integer_of value) (BadInteger position)) (λ most.
    Ok (record settings { document = record settings.document { most_undo = most } }))
    else (if is_same option (literal "-autoseparators")
    then with_value (ok_or (boolean_of value) (BadBoolean position)) (λ separators.
    Ok (record settings { document = record settings.document { separators = separators } }))
    else (if is_same option (literal "-state")
    then with_value (ok_or (state_of value) (BadOption position)) (λ disabled.
    Ok (record settings { disabled = disabled }))
    else (if is_same option (literal "-startline")
    then with_value (ok_or (line_of_word value) (BadInteger position)) (λ line.
    Ok (record settings { start = start_bound lines line }))
    else with_value (ok_or (line_of_word value) (BadInteger position)) (λ line.
    Ok (record settings { end = end_bound lines line }))))))

-- the settings with the values of options, of which the first stands at a position, so that the last value of an option
-- counts
abbrev pub settings_read : ℕ → ℕ → List (List ℕ) → Settings → Result Settings Fault
settings_read lines position [] settings = Ok settings
settings_read lines position (option ∷ []) settings = Err WrongArguments
settings_read lines position (option ∷ value ∷ words) settings =
    with_value (setting_read lines (position + 1) option value settings) (settings_read lines (position + 2) words)

-- a line stands behind another one, where both are there
abbrev pub is_behind : Option ℕ → Option ℕ → Bool
is_behind None end = false
is_behind (Some start) None = false
is_behind (Some start) (Some end) = nat_lt end start

-- the settings, where the view doesn't begin behind its end
abbrev pub settings_checked : Settings → Result Settings Fault
settings_checked settings = if is_behind settings.start settings.end then Err StartLineAfterEndLine else Ok settings

-- the number of a line, or nothing
abbrev pub line_answer : Option ℕ → Answer
line_answer None = Empty
line_answer (Some line) = Text (decimal line)

-- the value of an option
abbrev pub setting_answer : List ℕ → Settings → Answer
setting_answer option settings =
    if is_same option (literal "-undo") then Flag settings.document.undo
    else (if is_same option (literal "-maxundo") then Text (signed_decimal settings.document.most_undo)
    else (if is_same option (literal "-autoseparators") then Flag settings.document.separators
    else (if is_same option (literal "-state") then Text (state_word settings.disabled)
    else (if is_same option (literal "-startline") then line_answer settings.start
    else line_answer settings.end))))
