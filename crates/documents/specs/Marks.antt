-- Commands on marks.
use Rattle.std.specs.Prelude.{ℕ, ◌+◌, ◌-◌, min, nat_le, List, [], ◌∷◌, ◌++◌, length, map, filter, find, Option, None}
use Rattle.std.specs.Prelude.{Some, option_map, if◌then◌else◌}
use Rattle.mark_table.specs.declared.order.Shown.{Shown}
use Rattle.text_index.specs.Views.{shared_place}
use Rattle.text_model.specs.declared.places.Gravity.TheVariants.{Right}
use Rattle.text_model.specs.declared.places.Place.{Place}
use Rattle.text_model.specs.LimitTable.{LimitTable}
use Rattle.command_effects.specs.declared.answers.Answer.TheVariants.{Empty}
use Rattle.command_effects.specs.declared.answers.Fault.TheVariants.{TooManyMarks}
use Rattle.documents.specs.Names.{mark_place}
use Rattle.documents.specs.Promise.{Change, refused, answered}
use Rattle.documents.specs.Views.{view_start, view_end, shown}
use Rattle.command_effects.specs.Words.{is_same, is_own, literal}
use Rattle.documents.specs.Documents.{Document, Widget, SharedMark}
use Rattle.command_effects.specs.Marking.{is_left}

-- ---- marks by their names

-- the names of all marks: a widget's own two, and the shared ones by their creation
abbrev pub mark_names : Document → List (List ℕ)
mark_names document = literal "insert" ∷ literal "current" ∷ map (λ (mark : SharedMark). mark.name) document.marks

-- where the mark of a name stands in the document, if there is one
abbrev pub place_named : Document → Widget → List ℕ → Option Place
place_named document widget name =
    if is_same name (literal "insert") then Some widget.insert
    else (if is_same name (literal "current") then Some widget.current
    else option_map (λ (mark : SharedMark). mark.place)
    (find (λ (mark : SharedMark). is_same name mark.name) document.marks))

abbrev pub with_widget : Document → Widget → (Widget → Widget) → Document
with_widget document widget change =
    record document {
      widgets = map (λ (other : Widget). if is_same widget.name other.name then change other
          else other) document.widgets;
    }

abbrev pub with_insert : Document → Widget → Place → Document
with_insert document widget place = with_widget document widget (λ (other : Widget). record other { insert = place })

abbrev pub with_current : Document → Widget → Place → Document
with_current document widget place = with_widget document widget (λ (other : Widget). record other { current = place })

abbrev pub with_shared : Document → List ℕ → Place → Document
with_shared document name place =
    record document {
      marks = map (λ (mark : SharedMark). if is_same name mark.name then record mark { place = place }
          else mark) document.marks;
    }

-- a document in which the mark of a name, the widget's own or a shared one, stands at a place; all marks keep their
-- order
abbrev pub with_mark : Document → Widget → List ℕ → Place → Document
with_mark document widget name place =
    if is_same name (literal "insert") then with_insert document widget place
    else (if is_same name (literal "current") then with_current document widget place
    else with_shared document name place)

-- ---- marks that are set, and unset

-- the offset for a mark at a place of the view; of the widget's own, the end is the view's last character
abbrev pub mark_offset : Document → Widget → List ℕ → ℕ → ℕ
mark_offset document widget name place =
    view_start widget + (if is_own name then min place (length (shown document widget) - 1) else place)

-- a new mark comes last, with right gravity, unless there are too many; one that is there keeps its gravity
abbrev pub set_found : LimitTable → Document → Widget → List ℕ → ℕ → Option Place → Change
set_found limits document widget name offset (Some old) =
    answered (with_mark document widget name (record old { offset = offset })) Empty
set_found limits document widget name offset None =
    if nat_le limits.marks (length document.marks) then refused document TooManyMarks
    else answered (record document {
      marks = document.marks ++ record { name = name; place = record { offset = offset; gravity = Right } } ∷ [];
    }) Empty

-- `W mark unset ?M ..?`
abbrev pub mark_unset : Document → List (List ℕ) → Change
mark_unset document names =
    answered (record document { marks = filter (λ (mark : SharedMark). is_left names mark.name) document.marks }) Empty

-- ---- the order of marks

-- a mark that the widget shows, by its number among all marks
abbrev pub shown_at : ℕ → Option ℕ → List Shown
shown_at number None = []
shown_at number (Some place) = record { place = place; rank = number } ∷ []

abbrev pub shared_from : ℕ → ℕ → ℕ → List SharedMark → List Shown
shared_from start end number [] = []
shared_from start end number (mark ∷ marks) =
    shown_at number (shared_place start end mark.place) ++ shared_from start end (number + 1) marks

-- the marks that the widget can use, with the places where it shows them
abbrev pub usable_marks : Document → Widget → List Shown
usable_marks document widget =
    shown_at 0 (mark_place document widget 0)
    ++ (shown_at 1 (mark_place document widget 1)
    ++ shared_from (view_start widget) (view_end document widget) 2 document.marks)
