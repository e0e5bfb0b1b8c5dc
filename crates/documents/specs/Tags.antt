-- Commands on tags.
use Rattle.std.specs.Prelude.{ℕ, ◌+◌, nat_lt, Bool, true, false, List, [], length, map, filter, Option, None}
use Rattle.std.specs.Prelude.{Some, Result, Ok, Err, if◌then◌else◌}
pub use Rattle.tag_table.specs.Priority.{Order, lowered, raised}
use Rattle.text_model.specs.Changes.{flag_at}
use Rattle.text_model.specs.LimitTable.{LimitTable}
use Rattle.tag_table.specs.declared.faults.NoSuchTag as table_fault
use Rattle.tag_table.specs.declared.faults.NoSuchTag.TheVariants.{Moved, Neighbour}
use Rattle.command_effects.specs.declared.answers.Answer.{Answer}
use Rattle.command_effects.specs.declared.answers.Answer.TheVariants.{Empty}
use Rattle.command_effects.specs.declared.answers.Fault.{Fault}
use Rattle.command_effects.specs.declared.answers.Fault.TheVariants.{NoSuchTag, TooManyTags}
use Rattle.reports.specs.Cells.{with_tag, without_tags}
use Rattle.command_effects.specs.Lists.{with_name}
use Rattle.documents.specs.Names.{key_of}
use Rattle.documents.specs.Promise.{Change, refused, answered}
use Rattle.documents.specs.Ranges.{spans_shown}
use Rattle.documents.specs.Views.{shown_flags}
use Rattle.command_effects.specs.Words.{is_among}
use Rattle.documents.specs.Documents.{Document, Widget}
use Rattle.command_effects.specs.Tagging.{stays}

-- ---- on characters

-- a tag, which is made if it is new, is put on spans, unless there are too many tags
abbrev pub add_spans : LimitTable → Document → Widget → List ℕ → List ℕ → Change
add_spans limits document widget name places =
    if nat_lt (limits.tags + 1) (length (with_name document.tags name)) then refused document TooManyTags
    else answered (record document {
      tags = with_name document.tags name;
      cells = with_tag (key_of widget name) true (spans_shown document widget places) document.cells;
    }) Empty

-- a tag is taken off spans, if there is one of that name
abbrev pub remove_spans : Document → Widget → List ℕ → List ℕ → Change
remove_spans document widget name places =
    answered (if is_among name document.tags then record document {
      cells = with_tag (key_of widget name) false (spans_shown document widget places) document.cells;
    } else document) Empty

-- `W tag delete T ?T ..?`
abbrev pub tag_delete : Document → List (List ℕ) → Change
tag_delete document names =
    answered (record document {
      tags = filter (stays names) document.tags;
      cells = map (without_tags names) document.cells;
    }) Empty

-- ---- names and ranges

-- the tags of the character at a place, from the lowest; none at the end of the view
abbrev pub tags_on : Document → Widget → ℕ → List (List ℕ)
tags_on document widget place =
    filter (λ name. flag_at (shown_flags document widget (key_of widget name)) place) document.tags

-- which characters of the view have a tag; none have an unknown one
abbrev pub flags_of : Document → Widget → List ℕ → List Bool
flags_of document widget name =
    if is_among name document.tags then shown_flags document widget (key_of widget name) else []

-- ---- priority

-- a tag, and another where there is one, have to be known
abbrev pub known_or : Document → ℕ → List ℕ → Change → Change
known_or document position name change =
    if is_among name document.tags then change else refused document (NoSuchTag position)

-- where the word of the one that isn't known is
abbrev pub unknown_at : ℕ → table_fault.NoSuchTag → ℕ
unknown_at position Moved = position
unknown_at position Neighbour = position + 1

-- the answer once a tag is moved next to another one, if both are known
abbrev pub moved_answer : {A : Type 0} → ℕ → Result A table_fault.NoSuchTag → Result Answer Fault
moved_answer position (Ok done) = Ok Empty
moved_answer position (Err unknown) = Err (NoSuchTag (unknown_at position unknown))

abbrev pub reordered : Document → ℕ → Order → List ℕ × Option (List ℕ) → Change
reordered document position order (name, None) =
    known_or document position name (answered (record document { tags = order document.tags name None }) Empty)
reordered document position order (name, Some other) =
    known_or document position name (known_or document (position + 1) other
    (answered (record document { tags = order document.tags name (Some other) }) Empty))
