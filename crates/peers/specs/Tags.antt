-- Commands on tags.
use Rattle.std.specs.Prelude.{ℕ, ◌+◌, nat_lt, nat_le, List, length, Option, None, Some, Result, Ok}
use Rattle.text_model.specs.LimitTable.{LimitTable}
use Rattle.tcl_words.specs.ListText.{list_text}
use Rattle.command_effects.specs.declared.answers.Answer.{Answer}
use Rattle.command_effects.specs.declared.answers.Answer.TheVariants.{Text}
use Rattle.command_effects.specs.declared.answers.Fault.{Fault}
use Rattle.peers.specs.Arguments.{one_or_more_of, none_or_one_of, one_of, one_or_two_of, two_or_three_of}
use Rattle.command_effects.specs.Faults.{with_value}
use Rattle.documents.specs.Indices.{place_at}
use Rattle.documents.specs.Promise.{Change, change_with}
use Rattle.peers.specs.Ranges.{places_at}
use Rattle.documents.specs.Views.{shown}
use Rattle.documents.specs.Documents.{Document, Widget}
use Rattle.documents.specs.Listing.{begun, range_words}
use Rattle.documents.specs.Tags.{add_spans, remove_spans, tags_on, flags_of, raised, lowered, reordered}
use Rattle.text_index.specs.Ranges.{tag_ranges, next_range, previous_range}
use Rattle.text_index.specs.declared.ranges.TagRange.{TagRange}

-- ---- on characters

abbrev pub add_words : LimitTable → Document → Widget → ℕ → List ℕ × List (List ℕ) → Change
add_words limits document widget position (name, words) =
    change_with document (places_at document widget (position + 1) words) (add_spans limits document widget name)

-- `W tag add T I ?I ..?`
abbrev pub tag_add : LimitTable → Document → Widget → ℕ → List (List ℕ) → Change
tag_add limits document widget position words =
    change_with document (one_or_more_of words) (add_words limits document widget position)

abbrev pub remove_words : Document → Widget → ℕ → List ℕ × List (List ℕ) → Change
remove_words document widget position (name, words) =
    change_with document (places_at document widget (position + 1) words) (remove_spans document widget name)

-- `W tag remove T I ?I ..?`
abbrev pub tag_remove : Document → Widget → ℕ → List (List ℕ) → Change
tag_remove document widget position words =
    change_with document (one_or_more_of words) (remove_words document widget position)

-- ---- names and ranges

abbrev pub listed : List (List ℕ) → Result Answer Fault
listed elements = Ok (Text (list_text elements))

abbrev pub names_on : Document → Widget → ℕ → Result Answer Fault
names_on document widget place = listed (tags_on document widget place)

abbrev pub names_at_word : Document → Widget → ℕ → Option (List ℕ) → Result Answer Fault
names_at_word document widget position None = listed document.tags
names_at_word document widget position (Some word) =
    with_value (place_at document widget position word) (names_on document widget)

-- `W tag names ?I?`
abbrev pub tag_names : Document → Widget → ℕ → List (List ℕ) → Result Answer Fault
tag_names document widget position words = with_value (none_or_one_of words) (names_at_word document widget position)

abbrev pub listed_ranges : Document → Widget → List TagRange → Result Answer Fault
listed_ranges document widget ranges = listed (range_words (shown document widget) ranges)

abbrev pub ranges_of : Document → Widget → List ℕ → Result Answer Fault
ranges_of document widget name = listed_ranges document widget (tag_ranges (flags_of document widget name))

-- `W tag ranges T`
abbrev pub tag_ranges_of : Document → Widget → List (List ℕ) → Result Answer Fault
tag_ranges_of document widget words = with_value (one_of words) (ranges_of document widget)

-- the place of a last index, if it is there
abbrev pub place_or : Document → Widget → ℕ → ℕ → Option (List ℕ) → Result ℕ Fault
place_or document widget place position None = Ok place
place_or document widget place position (Some word) = place_at document widget position word

-- the first range from one place on, if it begins before another
abbrev pub next_between : Document → Widget → List ℕ → ℕ → ℕ → Result Answer Fault
next_between document widget name from to =
    listed_ranges document widget (begun (λ start. nat_lt start to) (next_range (flags_of document widget name) from))

abbrev pub next_words : Document → Widget → ℕ → List ℕ × List ℕ × Option (List ℕ) → Result Answer Fault
next_words document widget position (name, first, last) =
    with_value (place_at document widget (position + 1) first) (λ from.
    with_value (place_or document widget (length (shown document widget)) (position + 2) last)
    (next_between document widget name from))

-- `W tag nextrange T A ?B?`
abbrev pub tag_nextrange : Document → Widget → ℕ → List (List ℕ) → Result Answer Fault
tag_nextrange document widget position words = with_value (two_or_three_of words) (next_words document widget position)

-- the last range that begins before one place, if it doesn't begin before another
abbrev pub previous_between : Document → Widget → List ℕ → ℕ → ℕ → Result Answer Fault
previous_between document widget name from to =
    listed_ranges document widget (begun (λ start. nat_le to start)
    (previous_range (flags_of document widget name) from))

abbrev pub previous_words : Document → Widget → ℕ → List ℕ × List ℕ × Option (List ℕ) → Result Answer Fault
previous_words document widget position (name, first, last) =
    with_value (place_at document widget (position + 1) first) (λ from.
    with_value (place_or document widget 0 (position + 2) last) (previous_between document widget name from))

-- `W tag prevrange T A ?B?`
abbrev pub tag_prevrange : Document → Widget → ℕ → List (List ℕ) → Result Answer Fault
tag_prevrange document widget position words =
    with_value (two_or_three_of words) (previous_words document widget position)

-- ---- priority

-- `W tag raise T ?U?`
abbrev pub tag_raise : Document → ℕ → List (List ℕ) → Change
tag_raise document position words = change_with document (one_or_two_of words) (reordered document position raised)

-- `W tag lower T ?U?`
abbrev pub tag_lower : Document → ℕ → List (List ℕ) → Change
tag_lower document position words = change_with document (one_or_two_of words) (reordered document position lowered)
