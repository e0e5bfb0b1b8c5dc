-- The options of a document and of its widgets (text(n), "WIDGET-SPECIFIC OPTIONS").
use Rattle.std.specs.Prelude.{ℕ, ◌+◌, ◌-◌, ◌<◌, ◌≤◌, IfSome, option_map}
use Rattle.text_model.specs.Lines.{line_of, line_start}
use Rattle.command_effects.specs.declared.settings.DocumentSettings.{DocumentSettings}
use Rattle.command_effects.specs.declared.settings.Settings.{Settings}
use Rattle.command_effects.specs.Settings.{history_under}
use Rattle.documents.specs.Marks.{with_widget}
use Rattle.documents.specs.Documents.{Document, Widget}
use Rattle.reports.specs.Cells.{characters}

-- the number of the line that begins at an anchor, counted from 1
abbrev pub line_at : Document → ℕ → ℕ
line_at document anchor = line_of (characters document.cells) anchor + 1

-- where a line begins
abbrev pub anchor_at : Document → ℕ → ℕ
anchor_at document line = line_start (line - 1) (characters document.cells)

abbrev pub settings_of : Document → Widget → Settings
settings_of document widget = record {
  document = record { undo = document.undo; separators = document.separators; most_undo = document.most_undo };
  disabled = widget.disabled;
  start = option_map (line_at document) widget.start;
  end = option_map (line_at document) widget.end;
}

-- the document with the options that its widgets share
abbrev pub with_shared_settings : DocumentSettings → Document → Document
with_shared_settings settings document = record document {
  history = history_under settings document.history;
  undo = settings.undo;
  most_undo = settings.most_undo;
  separators = settings.separators;
}

-- a widget with options of its own
abbrev pub widget_set : Document → Settings → Widget → Widget
widget_set document settings widget = record widget {
  disabled = settings.disabled;
  start = option_map (anchor_at document) settings.start;
  end = option_map (anchor_at document) settings.end;
}

-- the document and a widget of it with options
abbrev pub with_settings : Widget → Settings → Document → Document
with_settings widget settings document =
    with_shared_settings settings.document (with_widget document widget (widget_set document settings))

-- a line of a document of so many, by its number counted from 1, or the one behind the last
abbrev pub IsLine : ℕ → ℕ → Type 0
IsLine lines line = (0 < line) × (line ≤ lines + 1)

-- the lines of a view, in a document of so many
pub record AreLines (lines : ℕ) (settings : Settings) : Type 0 where
  pub start : IfSome settings.start (IsLine lines)
  pub end : IfSome settings.end (IsLine lines)
