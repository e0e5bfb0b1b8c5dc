-- What the names of marks and of tags mean to a widget, and the place that a word stands for in what it shows.
use Rattle.std.specs.Prelude.{ℕ, zero, suc, Bool, List, Option, Some, option_map, option_and_then, slice_get}
use Rattle.std.specs.Prelude.{slice_index_or, [], Result, if◌then◌else◌}
use Rattle.std.specs.List.{position_from}
use Rattle.index_grammar.specs.declared.faults.IndexFault.{IndexFault}
use Rattle.text_index.specs.Views.{own_place, shared_place}
use Rattle.text_index.specs.Words.{is_word}
use Rattle.text_index.specs.Meanings.{Meanings, word_value}
use Rattle.reports.specs.Keys.{key_named}
use Rattle.reports.specs.declared.keys.Key.{Key}
use Rattle.command_effects.specs.Words.{is_same, literal}
use Rattle.documents.specs.Documents.{Document, Widget, SharedMark}
use Rattle.documents.specs.Views.{view_start, view_end, shown, shown_flags}

-- the marks that a widget can name: its own `insert` and `current`, and the shared ones by creation
abbrev pub mark_number : Document → List ℕ → Option ℕ
mark_number document name =
    if is_same name (literal "insert") then Some 0
    else (if is_same name (literal "current") then Some 1
    else option_map (λ k. suc (suc k)) (position_from (λ (mark : SharedMark). is_same name mark.name) 0 document.marks))

-- where the widget shows the mark of a number, if it does
abbrev pub mark_place : Document → Widget → ℕ → Option ℕ
mark_place document widget zero = Some (own_place (view_start widget) (view_end document widget) widget.insert)
mark_place document widget (suc zero) = Some (own_place (view_start widget) (view_end document widget) widget.current)
mark_place document widget (suc (suc k)) =
    option_and_then (λ (mark : SharedMark). shared_place (view_start widget) (view_end document widget) mark.place)
    (slice_get document.marks k)

-- the key of a tag to a widget
abbrev pub key_of : Widget → List ℕ → Key
key_of widget name = key_named widget.name name

-- the tags by their priority, and which characters of the view have the tag of a number
abbrev pub tag_number : Document → List ℕ → Option ℕ
tag_number document name = position_from (is_same name) 0 document.tags

abbrev pub tag_flags : Document → Widget → ℕ → List Bool
tag_flags document widget number = shown_flags document widget (key_of widget (slice_index_or document.tags number []))

abbrev pub meanings : Document → Widget → Meanings
meanings document widget = record {
  marks = mark_number document;
  places = mark_place document widget;
  tags = tag_number document;
  flags = tag_flags document widget;
}

-- the place that a word stands for, counted from the start of the view
abbrev pub place_of : Document → Widget → List ℕ → Result ℕ IndexFault
place_of document widget word = word_value is_word (meanings document widget) (shown document widget) word
