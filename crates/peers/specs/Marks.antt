-- Commands on marks.
use Rattle.std.specs.Prelude.{ℕ, ◌+◌, List, [], slice_index_or, Option, None, Some, Result, Ok, Err}
use Rattle.mark_table.specs.declared.order.Origin.{Origin}
use Rattle.mark_table.specs.declared.order.Origin.TheVariants.{Mark, Place as Offset}
use Rattle.mark_table.specs.declared.order.WidgetMark.{WidgetMark}
use Rattle.mark_table.specs.Order.{mark_of, next_mark, previous_mark, rank_of}
use Rattle.text_model.specs.declared.places.Gravity.{Gravity}
use Rattle.text_model.specs.declared.places.Place.{Place}
use Rattle.text_model.specs.LimitTable.{LimitTable}
use Rattle.command_effects.specs.declared.answers.Answer.{Answer}
use Rattle.command_effects.specs.declared.answers.Answer.TheVariants.{Empty, Text}
use Rattle.command_effects.specs.declared.answers.Fault.{Fault}
use Rattle.command_effects.specs.declared.answers.Fault.TheVariants.{BadIndex, NoSuchMark, BadGravity}
use Rattle.peers.specs.Arguments.{one_of, one_or_two_of, two_of}
use Rattle.command_effects.specs.Faults.{with_value}
use Rattle.documents.specs.Indices.{place_at}
use Rattle.documents.specs.Names.{mark_number, mark_place}
use Rattle.documents.specs.Promise.{Change, refused, answered, change_with}
use Rattle.peers.specs.Tags.{listed}
use Rattle.documents.specs.Documents.{Document, Widget}
use Rattle.command_effects.specs.Marking.{gravity_of, gravity_word}
use Rattle.documents.specs.Marks.{mark_names, place_named, with_mark, mark_offset, set_found, usable_marks}

-- ---- marks that are set

abbrev pub set_at : LimitTable → Document → Widget → List ℕ → ℕ → Change
set_at limits document widget name place =
    set_found limits document widget name (mark_offset document widget name place) (place_named document widget name)

abbrev pub set_words : LimitTable → Document → Widget → ℕ → List ℕ × List ℕ → Change
set_words limits document widget position (name, word) =
    change_with document (place_at document widget (position + 1) word) (set_at limits document widget name)

-- `W mark set M I`
abbrev pub mark_set : LimitTable → Document → Widget → ℕ → List (List ℕ) → Change
mark_set limits document widget position words =
    change_with document (two_of words) (set_words limits document widget position)

-- ---- gravity

-- of the mark that stands at a place
abbrev pub gravity_asked : Document → ℕ → Option Place → Change
gravity_asked document position None = refused document (NoSuchMark position)
gravity_asked document position (Some place) = answered document (Text (gravity_word place.gravity))

-- the mark has to be there, and then the word has to be a gravity
abbrev pub gravity_given : Document → Widget → ℕ → List ℕ → Option Place → Option Gravity → Change
gravity_given document widget position name None gravity = refused document (NoSuchMark position)
gravity_given document widget position name (Some place) None = refused document (BadGravity (position + 1))
gravity_given document widget position name (Some place) (Some gravity) =
    answered (with_mark document widget name (record place { gravity = gravity })) Empty

abbrev pub gravity_words : Document → Widget → ℕ → List ℕ × Option (List ℕ) → Change
gravity_words document widget position (name, None) = gravity_asked document position (place_named document widget name)
gravity_words document widget position (name, Some word) =
    gravity_given document widget position name (place_named document widget name) (gravity_of word)

-- `W mark gravity M ?left or right?`
abbrev pub mark_gravity : Document → Widget → ℕ → List (List ℕ) → Change
mark_gravity document widget position words =
    change_with document (one_or_two_of words) (gravity_words document widget position)

-- ---- names, and the order of marks

-- `W mark names`
abbrev pub mark_names_of : Document → Result Answer Fault
mark_names_of document = listed (mark_names document)

-- from a mark that the widget can use
abbrev pub origin_marked : ℕ → ℕ → Option ℕ → Result Origin Fault
origin_marked position number None = Err (BadIndex position)
origin_marked position number (Some place) = Ok (Mark (mark_of number))

-- a word that is whole the name of a mark means that mark, and else the place of an index
abbrev pub origin_of : Document → Widget → ℕ → List ℕ → Option ℕ → Result Origin Fault
origin_of document widget position word (Some number) =
    origin_marked position number (mark_place document widget number)
origin_of document widget position word None =
    with_value (place_at document widget position word) (λ place. Ok (Offset place))

abbrev pub origin_at : Document → Widget → ℕ → List ℕ → Result Origin Fault
origin_at document widget position word = origin_of document widget position word (mark_number document word)

-- the name of a mark, if there is one
abbrev pub mark_answer : Document → Option WidgetMark → Result Answer Fault
mark_answer document None = Ok Empty
mark_answer document (Some mark) = Ok (Text (slice_index_or (mark_names document) (rank_of mark) []))

abbrev pub next_from : Document → Widget → Origin → Result Answer Fault
next_from document widget origin = mark_answer document (next_mark origin (usable_marks document widget))

abbrev pub previous_from : Document → Widget → Origin → Result Answer Fault
previous_from document widget origin = mark_answer document (previous_mark origin (usable_marks document widget))

abbrev pub next_at : Document → Widget → ℕ → List ℕ → Result Answer Fault
next_at document widget position word = with_value (origin_at document widget position word) (next_from document widget)

abbrev pub previous_at : Document → Widget → ℕ → List ℕ → Result Answer Fault
previous_at document widget position word =
    with_value (origin_at document widget position word) (previous_from document widget)

-- `W mark next I`
abbrev pub mark_next : Document → Widget → ℕ → List (List ℕ) → Result Answer Fault
mark_next document widget position words = with_value (one_of words) (next_at document widget position)

-- `W mark previous I`
abbrev pub mark_previous : Document → Widget → ℕ → List (List ℕ) → Result Answer Fault
mark_previous document widget position words = with_value (one_of words) (previous_at document widget position)
