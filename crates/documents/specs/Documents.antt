-- A document with its widgets, and how it is kept.
use Rattle.std.specs.Prelude.{ℕ, ℤ, Bool, false, List, [], get_or, map, unwrap_or, ◌+◌, ◌*◌, Option, None}
use Rattle.std.specs.FinMap as finite
use Rattle.text_model.specs.declared.places.Place.{Place}
use Rattle.text_model.specs.Content.{Content, Marks}
use Rattle.name_list.specs.Names.{Named, Names}
use Rattle.undo_stack.specs.History.{History}
use Rattle.undo_stack.specs.Modified.{Modified}
use Rattle.edit_ops.specs.declared.anchors.Anchors.{Anchors}
use Rattle.edit_ops.specs.States.{Log}
pub use Rattle.tag_table.specs.Tags.{sel}
use Rattle.tag_table.specs.Tags.{Tags, names_of}
use Rattle.mark_table.specs.SharedMarks.{Mark, SharedMarks}
use Rattle.command_effects.specs.Edits.{new_mark}
use Rattle.command_effects.specs.declared.settings.DocumentSettings.{DocumentSettings}
use Rattle.reports.specs.Cells.{KeyedCell, keyed}
use Rattle.reports.specs.Keys.{key_pairs}

-- a widget, which shows the document from its start anchor, if it has one, to its end anchor
pub record Widget : Type 0 where
  pub name : List ℕ
  pub start : Option ℕ
  pub end : Option ℕ
  pub disabled : Bool
  pub insert : Place
  pub current : Place

pub record SharedMark : Type 0 where
  pub name : List ℕ
  pub place : Place

-- A document: its cells, its widgets in the order of their creation, its shared marks in that order, its tags
-- from the lowest, its history, whether it is modified, and the options that its widgets share.
pub record Document : Type 0 where
  pub cells : List KeyedCell
  pub widgets : List Widget
  pub marks : List SharedMark
  pub tags : List (List ℕ)
  pub history : History
  pub modified : Modified
  pub undo : Bool
  pub most_undo : ℤ
  pub separators : Bool

-- ---- how it is kept

-- the options, and by the slot of each widget whether it is disabled and its anchors, and what is kept of the edits
pub record Journal : Type 0 where
  pub settings : DocumentSettings
  pub disabled : List Bool
  pub anchors : List Anchors
  pub log : Log

-- the widgets' names with their slots, the tags and the shared marks, the journal, and what stands in the store
pub record Parts : Type 0 where
  pub seats : Names
  pub tags : Tags
  pub marks : SharedMarks
  pub journal : Journal
  pub content : Content

-- where a mark stands, by its number in a store
abbrev pub mark_of : Marks → ℕ → Place
mark_of marks number = unwrap_or (finite.get marks number) new_mark

-- a widget without anchors
abbrev pub whole : Anchors
whole = record { start = None; end = None }

abbrev pub anchors_at : Journal → ℕ → Anchors
anchors_at journal slot = get_or journal.anchors slot whole

-- the widget of a name and a slot, whose own marks are those of twice the slot and of one more
abbrev pub widget_of : Journal → Marks → Named → Widget
widget_of journal places seat = record {
  name = seat.name;
  start = (anchors_at journal seat.number).start;
  end = (anchors_at journal seat.number).end;
  disabled = get_or journal.disabled seat.number false;
  insert = mark_of places (2 * seat.number);
  current = mark_of places (2 * seat.number + 1);
}

-- the marks of a table, each with where it stands in a store
abbrev pub placed : Marks → List Mark → List SharedMark
placed places marks = map (λ (mark : Mark). record { name = mark.name; place = mark_of places mark.number }) marks

-- the document that is kept so
abbrev pub document_of : Parts → Document
document_of parts = record {
  cells = keyed (key_pairs parts.seats.entries parts.tags.tags) parts.content.cells;
  widgets = map (widget_of parts.journal parts.content.marks) parts.seats.entries;
  marks = placed parts.content.marks parts.marks.marks;
  tags = names_of parts.tags.tags;
  history = parts.journal.log.history;
  modified = parts.journal.log.modified;
  undo = parts.journal.settings.undo;
  most_undo = parts.journal.settings.most_undo;
  separators = parts.journal.settings.separators;
}

abbrev pub no_widget : Widget
no_widget = record { name = []; start = None; end = None; disabled = false; insert = new_mark; current = new_mark }

-- the widget of a seat, which is its place in the order of creation
abbrev pub widget_at : Document → ℕ → Widget
widget_at document seat = get_or document.widgets seat no_widget
