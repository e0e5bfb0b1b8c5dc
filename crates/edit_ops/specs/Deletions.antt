-- What it does to delete spans of what a widget shows.
use Rattle.std.specs.Prelude.{ℕ, zero, suc, ◌+◌, ◌-◌, ◌<◌, ◌==◌, ◌&&◌, ◌||◌, nat_le, nat_lt, not, Bool, List, [], ◌∷◌}
use Rattle.std.specs.Prelude.{length, map, get_or, ⊤, if◌then◌else◌}
use Rattle.std.specs.List.{list_any}
use Rattle.text_model.specs.Content.{characters}
use Rattle.text_model.specs.declared.cells.Cell.{Cell}
use Rattle.text_model.specs.Lines.{is_newline}
use Rattle.text_model.specs.Steps.{after_step}
use Rattle.text_model.specs.declared.edits.Step.TheVariants.{ClearTags}
use Rattle.undo_stack.specs.declared.actions.Action.{Action}
use Rattle.undo_stack.specs.declared.actions.EditKind.{EditKind}
use Rattle.undo_stack.specs.declared.actions.EditKind.TheVariants.{Delete}
use Rattle.edit_ops.specs.declared.plans.Recording.{Recording}
use Rattle.edit_ops.specs.declared.spans.Span.{Span}
use Rattle.edit_ops.specs.Removals.{removed_span}
use Rattle.edit_ops.specs.States.{State}
use Rattle.edit_ops.specs.Told.{deletion}

-- whether an offset lies in one of some spans
abbrev pub in_spans : List Span → ℕ → Bool
in_spans spans offset = list_any (λ (span : Span). nat_le span.from offset && nat_lt offset span.to) spans

-- where those offsets of a set begin that go up to an offset without a gap
abbrev pub run_start : (ℕ → Bool) → ℕ → ℕ
run_start set zero = 0
run_start set (suc offset) = if set offset then run_start set offset else suc offset

-- The characters that go when a set of offsets is deleted of what a widget shows from `start` to `end`. The last one
-- that it shows stays; where it is in the set, the newline before its run goes instead, if the widget shows that.
abbrev pub delete_set : List ℕ → ℕ → ℕ → (ℕ → Bool) → ℕ → Bool
delete_set text start end set offset =
    if set (end - 1) then
    set offset && not (offset == end - 1) || (offset + 1 == run_start set (end - 1) && nat_le start offset
    && is_newline (get_or text offset 0))
    else set offset

-- runs of offsets, the last first, and one offset more that stands above them all
abbrev pub onto_runs : ℕ → List Span → List Span
onto_runs offset [] = record { from = offset; to = offset + 1 } ∷ []
onto_runs offset (run ∷ runs) =
    if run.to == offset then record run { to = offset + 1 } ∷ runs
    else record { from = offset; to = offset + 1 } ∷ run ∷ runs

-- the longest runs of offsets below a bound that are all in a set, the last first
abbrev pub runs_below : ℕ → (ℕ → Bool) → List Span
runs_below zero set = []
runs_below (suc bound) set = if set bound then onto_runs bound (runs_below bound set) else runs_below bound set

-- spans that aren't empty, the last first, each with a gap before the next one, and the last below a border
abbrev pub AreApart : ℕ → List Span → Type 0
AreApart border [] = ⊤
AreApart border (span ∷ spans) = (span.from < span.to) × (span.to < border) × AreApart span.from spans

-- spans are taken out one after the other
abbrev pub removed_spans : Recording → EditKind → List Span → State → State
removed_spans recording kind [] state = state
removed_spans recording kind (span ∷ spans) state =
    removed_spans recording kind spans (removed_span recording kind span.from span.to state)

-- Spans are deleted of what a widget shows: the last character that it shows loses its slots if it is among them, and
-- the runs of those that go are taken out, the last first.
abbrev pub deleted : Recording → ℕ → ℕ → List Span → State → State
deleted recording start end spans state =
    removed_spans recording Delete
    (runs_below (length state.content.cells) (delete_set (characters state.content.cells) start end (in_spans spans)))
    (if in_spans spans (end - 1) then record state { content = after_step (ClearTags (end - 1)) state.content }
    else state)

-- what it does to the text to delete spans of what a widget shows: a deletion of each run, the last first
abbrev pub deletions_in : List Cell → ℕ → ℕ → List Span → List Action
deletions_in cells start end spans =
    map (λ (run : Span). deletion (characters cells) run.from run.to)
    (runs_below (length cells) (delete_set (characters cells) start end (in_spans spans)))
