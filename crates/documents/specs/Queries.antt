-- Commands that ask what stands in a view: `search`, `count` and `dump`.
use Rattle.std.specs.Prelude.{ℕ, List, [], map, slice_index_or}
use Rattle.mark_table.specs.declared.order.Shown.{Shown}
use Rattle.text_index.specs.Ranges.{tag_ranges}
use Rattle.search_dump.specs.Dump.{Marked, Seen, Tagged}
use Rattle.documents.specs.Marks.{mark_names, usable_marks}
use Rattle.documents.specs.Names.{key_of}
use Rattle.documents.specs.Views.{shown, shown_flags}
use Rattle.documents.specs.Documents.{Document, Widget}

-- a tag with its ranges in the view, and a mark with its place there
abbrev pub tag_seen : Document → Widget → List ℕ → Tagged
tag_seen document widget name =
    record { name = name; ranges = tag_ranges (shown_flags document widget (key_of widget name)) }

abbrev pub mark_seen : Document → Shown → Marked
mark_seen document mark = record { name = slice_index_or (mark_names document) mark.rank []; place = mark.place }

-- what the widget sees
abbrev pub seen : Document → Widget → Seen
seen document widget = record {
  text = shown document widget;
  tags = map (tag_seen document widget) document.tags;
  marks = map (mark_seen document) (usable_marks document widget);
}
