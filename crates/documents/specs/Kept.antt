-- What holds of how a document is kept, at any time.
use Rattle.std.specs.Prelude.{◌≡◌, ℕ, ◌+◌, ◌*◌, ◌<◌, ◌≤◌, ◌==◌, Bool, true, false, List, [], ◌∷◌, length, is_some}
use Rattle.std.specs.Prelude.{Some, option_map}
use Rattle.std.specs.FinMap as finite
use Rattle.std.specs.List.{All, AllByRecursion}
use Rattle.text_model.specs.LimitTable.{most_chars, most_marks, most_tags, most_widgets}
use Rattle.text_model.specs.declared.places.Place.{Place}
use Rattle.text_model.specs.Content.{Content, Marks, characters}
use Rattle.text_model.specs.Documents.{IsDocument, MarksStand}
use Rattle.name_list.specs.Names.{Named, Names}
use Rattle.mark_table.specs.SharedMarks.{AreMarks, Mark, SharedMarks}
use Rattle.tag_table.specs.Tags.{Tags, AreTags}
use Rattle.undo_stack.specs.History.{limit_of}
use Rattle.edit_ops.specs.Anchors.{AreAnchored}
use Rattle.edit_ops.specs.declared.anchors.Anchors.{Anchors}
use Rattle.command_effects.specs.Words.{is_own}
use Rattle.reports.specs.Slots.{AreSeats, HasKnownSlots}
use Rattle.documents.specs.Documents.{Document, Journal, Parts, document_of}

-- a dot and at least one more character
abbrev pub is_window_name : List ℕ → Bool
is_window_name [] = false
is_window_name (character ∷ []) = false
is_window_name (character ∷ other ∷ others) = character == 46

-- the two marks of a widget's own stand in the store
pub record HasOwnMarks (places : Marks) (seat : Named) : Type 0 where
  pub insert : is_some (finite.get places (2 * seat.number)) ≡ true
  pub current : is_some (finite.get places (2 * seat.number + 1)) ≡ true

-- Each widget has a window's name and a slot of its own. The text is a document's and no longer than any text may be,
-- marks are in it, among them each widget's own two, and its characters have the slots of widgets and tags alone.
pub record IsKept (widgets : Names) (table : Tags) (content : Content) : Type 0 where
  pub seats : AreSeats widgets.entries
  pub slots : widgets.limit ≡ most_widgets
  pub named : AllByRecursion (λ (seat : Named). is_window_name seat.name ≡ true) widgets.entries
  pub text : IsDocument (characters content.cells)
  pub short : length content.cells ≤ most_chars
  pub marks : MarksStand content
  pub own : AllByRecursion (HasOwnMarks content.marks) widgets.entries
  pub known : All (HasKnownSlots widgets.entries table.tags) content.cells
  pub tags : AreTags table
  pub roomy : table.limit ≡ most_tags

-- a mark of the table stands in the store, there with the table's gravity, and it isn't called as a widget's own
pub record IsMarked (places : Marks) (mark : Mark) : Type 0 where
  pub stands : option_map (λ (place : Place). place.gravity) (finite.get places mark.number) ≡ Some mark.gravity
  pub shared : is_own mark.name ≡ false

-- the table of shared marks and the marks of the store are the same
pub record AreMarked (table : SharedMarks) (places : Marks) : Type 0 where
  pub marks : AreMarks table
  pub roomy : table.limit ≡ most_marks
  pub each : AllByRecursion (IsMarked places) table.marks

-- The history is bounded as the option says, and nothing is in it where no action is kept.
pub record IsOrderly (journal : Journal) : Type 0 where
  pub most : journal.log.most ≡ limit_of journal.settings.most_undo
  pub groups : journal.settings.undo ≡ false → journal.log.history.groups ≡ []
  pub undone : journal.settings.undo ≡ false → journal.log.history.undone ≡ []

-- a widget has anchors, and is disabled or not, by its slot
pub record IsSeated (anchors : List Anchors) (disabled : List Bool) (seat : Named) : Type 0 where
  pub anchored : seat.number < length anchors
  pub flagged : seat.number < length disabled

-- each widget has its anchors, and all of them stand at line starts, or where the text ends
pub record AreViews (seats : List Named) (journal : Journal) (content : Content) : Type 0 where
  pub anchored : All (AreAnchored (characters content.cells)) journal.anchors
  pub seated : AllByRecursion (IsSeated journal.anchors journal.disabled) seats

pub record IsSound (parts : Parts) : Type 0 where
  pub kept : IsKept parts.seats parts.tags parts.content
  pub marked : AreMarked parts.marks parts.content.marks
  pub orderly : IsOrderly parts.journal
  pub views : AreViews parts.seats.entries parts.journal parts.content

-- a document is kept so
pub record Stands (parts : Parts) (document : Document) : Type 0 where
  pub sound : IsSound parts
  pub is : document_of parts ≡ document
