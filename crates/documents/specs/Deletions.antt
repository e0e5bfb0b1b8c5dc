-- Commands that take text out: `delete` and `replace`.
use Rattle.std.specs.Prelude.{ℕ, ◌+◌, ◌-◌, List, [], ◌∷◌, length, map, Option, None, Some, if◌then◌else◌}
use Rattle.text_model.specs.LimitTable.{LimitTable}
use Rattle.text_model.specs.declared.places.Place.{Place}
use Rattle.undo_stack.specs.declared.actions.Action.{Action}
use Rattle.undo_stack.specs.declared.actions.EditKind.TheVariants as kind
use Rattle.edit_ops.specs.declared.spans.Span.{Span}
use Rattle.edit_ops.specs.Deletions.{delete_set, in_spans, runs_below}
use Rattle.edit_ops.specs.Removals.{clipped}
use Rattle.edit_ops.specs.Told.{deletion, insertion}
use Rattle.command_effects.specs.Lists.{Pair, total}
use Rattle.documents.specs.Edits.{with_bare, with_texts, without_span, without_spans}
use Rattle.documents.specs.Marks.{with_insert}
use Rattle.documents.specs.Promise.{Change, edited}
use Rattle.documents.specs.Ranges.{spans_shown}
use Rattle.documents.specs.Texts.{joined_text, keyed_text, tags_with, within_limits}
use Rattle.documents.specs.Views.{view_end, view_start}
use Rattle.documents.specs.Documents.{Document, Widget}
use Rattle.reports.specs.Cells.{characters}

-- ---- delete

-- the last character of the view loses its keys, where it is among the spans
abbrev pub last_bare : Widget → List Span → Document → Document
last_bare widget spans document =
    if in_spans spans (view_end document widget - 1) then with_bare (view_end document widget - 1) document
    else document

-- the runs of what is deleted of the view, the last first
abbrev pub deleted_runs : Document → Widget → List Span → List Span
deleted_runs document widget spans =
    runs_below (length document.cells) (delete_set (characters document.cells) (view_start widget)
    (view_end document widget) (in_spans spans))

-- the deletions of runs, as actions
abbrev pub deletions : Document → List Span → List Action
deletions document runs = map (λ (run : Span). deletion (characters document.cells) run.from run.to) runs

abbrev pub delete_spans : Document → Widget → List Span → Change
delete_spans document widget spans =
    let runs = deleted_runs document widget spans in
    edited (without_spans kind.Delete runs (last_bare widget spans document)) (deletions document runs)

abbrev pub delete_places : Document → Widget → List ℕ → Change
delete_places document widget places = delete_spans document widget (spans_shown document widget places)

-- ---- replace

-- the widget's `insert` at a place, if there is one to go to
abbrev pub with_clipped : Widget → Option Place → Document → Document
with_clipped widget None document = document
with_clipped widget (Some place) document = with_insert document widget place

-- the characters from one offset to another go, the texts come in their place, and the widget's `insert` stays among
-- these
abbrev pub replaced : Document → Widget → ℕ → ℕ → List Pair → Document
replaced document widget from to pairs =
    with_clipped widget (clipped from to (total pairs) widget.insert)
    (with_texts kind.Replace from (map (keyed_text widget) pairs)
    (without_span kind.Replace from to (record document { tags = tags_with document pairs })))

-- Texts take the place of the characters from one offset to another, and the tags of their lists are made, within the
-- limits.
abbrev pub replace_span : LimitTable → Document → Widget → ℕ → ℕ → List Pair → Change
replace_span limits document widget from to pairs =
    within_limits limits document (length (tags_with document pairs))
    (length document.cells - (to - from) + total pairs)
    (edited (replaced document widget from to pairs)
    (deletion (characters document.cells) from to ∷ insertion from (joined_text pairs) ∷ []))
