-- Which marks a report has: those that its changes of the text alone would not take to where they are.
use Rattle.std.specs.Prelude.{◌≡◌, ◌≢◌, ◌≤◌, ℕ, ◌+◌, ◌^◌, List, [], ◌∷◌, ◌++◌, length, find, flat_map, map, ⊤}
use Rattle.std.specs.Prelude.{filter, Option, None, IfSome, option_map, if◌then◌else◌}
use Rattle.std.specs.List.{All}
use Rattle.text_model.specs.Splices.{drawn, moved}
use Rattle.text_model.specs.declared.places.Place.{Place}
use Rattle.edit_ops.specs.Told.{AreFalling, Tells}
use Rattle.edit_ops.specs.declared.changes.TextChange.{TextChange}
use Rattle.command_effects.specs.Words.{is_among, is_same, literal}
use Rattle.reports.specs.Cells.{characters}
use Rattle.documents.specs.Documents.{Document, SharedMark, Widget}
use Rattle.documents.specs.Promise.{Change}
use Rattle.reports.specs.Told.{TellsCells}
use Rattle.documents.specs.WellFormed.{window_names}
use Rattle.documents.specs.Widgets.{widget_named}
use Rattle.documents.specs.declared.mark_lists.MarkChange.{MarkChange}
use Rattle.documents.specs.declared.mark_lists.MarkKey.{MarkKey}
use Rattle.documents.specs.declared.mark_lists.MarkKind.{MarkKind}
use Rattle.documents.specs.declared.mark_lists.MarkKind.TheVariants.{Insert, Current, Shared}
use Rattle.reports.specs.declared.told.EditTold.{EditTold}

-- the marks of a document: two of each widget, by the widget's name, and the shared ones, by their own
abbrev pub place_of_kind : MarkKind → List ℕ → Document → Option Place
place_of_kind Insert name document = option_map (λ (widget : Widget). widget.insert) (widget_named name document)
place_of_kind Current name document = option_map (λ (widget : Widget). widget.current) (widget_named name document)
place_of_kind Shared name document =
    option_map (λ (mark : SharedMark). mark.place) (find (λ (mark : SharedMark). is_same name mark.name) document.marks)

-- where the mark of a key is, if there is one
abbrev pub mark_at : Document → MarkKey → Option Place
mark_at document key = place_of_kind key.kind key.name document

-- where a change of the text alone takes a mark: by its deletion, and then by its insertion
abbrev pub carried : TextChange → Place → Place
carried change place =
    moved change.at (length change.inserted) (drawn change.at (change.at + change.removed) place)

abbrev pub carried_all : List TextChange → Place → Place
carried_all [] place = place
carried_all (change ∷ changes) place = carried_all changes (carried change place)

-- where changes of the text alone take the mark of a key
abbrev pub mark_carried : List TextChange → Document → MarkKey → Option Place
mark_carried changes document key = option_map (carried_all changes) (mark_at document key)

-- A mark is somewhere else than where changes of the text alone take it, has another gravity, is new, or is gone.
pub record IsMarkChange (changes : List TextChange) (old new : Document) (change : MarkChange) : Type 0 where
  pub before : change.old ≡ mark_at old change.key
  pub after : change.new ≡ mark_at new change.key
  pub differs : mark_at new change.key ≢ mark_carried changes old change.key

-- a list doesn't have a key
abbrev pub AreOthers : MarkKey → List MarkChange → Type 0
AreOthers key marks = All (λ (mark : MarkChange). mark.key ≢ key) marks

-- each key is in a list at most once
abbrev pub AreSingle : List MarkChange → Type 0
AreSingle [] = ⊤
AreSingle (mark ∷ marks) = AreOthers mark.key marks × AreSingle marks

-- These are the marks, each once, that changes of the text alone don't take to where they are.
pub record TellsMarks (changes : List TextChange) (old new : Document) (marks : List MarkChange) : Type 0 where
  pub each : All (IsMarkChange changes old new) marks
  pub single : AreSingle marks
  pub others : (key : MarkKey) → AreOthers key marks → mark_at new key ≡ mark_carried changes old key

-- every mark but those of a list is where it was
abbrev pub HasMarksBut : List MarkChange → Document → Document → Type 0
HasMarksBut marks old new = (key : MarkKey) → AreOthers key marks → mark_at new key ≡ mark_at old key

-- The changes of the text in any report of a command take each mark of the document, but those of a list, to where the
-- command leaves it.
abbrev pub TakesMarksBut : List MarkChange → Document → Change → Type 0
TakesMarksBut marks document change =
    (told : EditTold) → TellsCells change.edits document.cells change.document.cells told
    → (key : MarkKey) → AreOthers key marks → mark_at change.document key ≡ mark_carried told.changes document key

-- ---- marks that a command may displace

-- a mark as it is before a command
abbrev pub watched : Document → MarkKey → MarkChange
watched document key = record { key = key; old = mark_at document key; new = mark_at document key }

-- Marks are listed as they are in a document, each once.
pub record AreWatched (document : Document) (marks : List MarkChange) : Type 0 where
  pub each : All (λ (mark : MarkChange). mark ≡ watched document mark.key) marks
  pub single : AreSingle marks

-- the marks of a widget, and of a document
abbrev pub own_keys : List ℕ → List MarkKey
own_keys name = record { kind = Insert; name = name } ∷ record { kind = Current; name = name } ∷ []

abbrev pub mark_keys : Document → List MarkKey
mark_keys document =
    flat_map own_keys (window_names document)
    ++ map (λ (mark : SharedMark). record { kind = Shared; name = mark.name }) document.marks

-- the mark that a widget knows by a name
abbrev pub mark_key : Widget → List ℕ → MarkKey
mark_key widget name =
    if is_same name (literal "insert") then record { kind = Insert; name = widget.name }
    else (if is_same name (literal "current") then record { kind = Current; name = widget.name }
    else record { kind = Shared; name = name })

-- Changes of the text make the characters of one document of those of another, both of a length that a machine counts,
-- and the last position comes first; the marks are in the text.
pub record AreCarried (changes : List TextChange) (old new : Document) : Type 0 where
  pub tells : Tells changes (characters old.cells) (characters new.cells)
  pub falling : AreFalling changes
  pub short : (length old.cells ≤ 2 ^ 60) × (length new.cells ≤ 2 ^ 60)
  pub stand : (key : MarkKey) → IfSome (mark_at old key) (λ place. place.offset ≤ length old.cells)

-- ---- marks that go with their widgets

-- a mark as it is before a command, and gone after it
abbrev pub gone : Document → MarkKey → MarkChange
gone document key = record { key = key; old = mark_at document key; new = None }

-- the marks of the widgets of some names, in the order of the widgets
abbrev pub marks_dropped : List (List ℕ) → Document → List MarkChange
marks_dropped names document =
    map (gone document) (flat_map own_keys (filter (λ name. is_among name names) (window_names document)))
