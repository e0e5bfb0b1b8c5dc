-- Commands that ask what stands in a view: `search`, `count` and `dump`.
use Rattle.std.specs.Prelude.{ℕ, suc, ◌+◌, min, Bool, true, ◌||◌, List, [], ◌∷◌, length, map, reverse, Option, None}
use Rattle.std.specs.Prelude.{Some, Result, Ok, if◌then◌else◌}
use Rattle.std.specs.List.{find, list_any, starts_with}
use Rattle.command_table.specs.Words.{is_character}
use Rattle.index_grammar.specs.declared.indices.Direction.{Direction}
use Rattle.index_grammar.specs.declared.indices.Direction.TheVariants.{Forward, Back}
use Rattle.search_dump.specs.Counts.{counted}
use Rattle.search_dump.specs.Dump.{dump_elements}
use Rattle.search_dump.specs.Matches.{search_result}
use Rattle.search_dump.specs.declared.counting.Counted.{Counted}
use Rattle.search_dump.specs.declared.counting.Counted.TheVariants.{Characters, Lines}
use Rattle.search_dump.specs.declared.dumping.Listed.{Listed}
use Rattle.search_dump.specs.declared.searching.SearchSwitches.{SearchSwitches}
use Rattle.search_dump.specs.declared.searching.Wanted.TheVariants.{First, Apart, All}
use Rattle.command_effects.specs.declared.answers.Answer.{Answer}
use Rattle.command_effects.specs.declared.answers.Fault.{Fault}
use Rattle.peers.specs.Arguments.{one_or_two_of, two_of, two_or_three_of}
use Rattle.command_effects.specs.Faults.{with_value}
use Rattle.command_effects.specs.Words.{is_same, literal}
use Rattle.documents.specs.Indices.{place_at}
use Rattle.peers.specs.Tags.{listed, place_or}
use Rattle.documents.specs.Views.{shown}
use Rattle.documents.specs.Documents.{Document, Widget}
use Rattle.documents.specs.Queries.{seen}

-- ---- switches, each the front of its name

abbrev pub stands_for : List ℕ → List ℕ → Bool
stands_for name word = starts_with is_character name word

abbrev pub has_switch : List ℕ → List (List ℕ) → Bool
has_switch name words = list_any (stands_for name) words

-- ---- search

-- the later of `-forwards` and `-backwards` counts
abbrev pub is_direction : List ℕ → Bool
is_direction word = stands_for (literal "-forwards") word || stands_for (literal "-backwards") word

-- a direction with a word more
abbrev pub turned : Direction → List ℕ → Direction
turned direction word =
    if stands_for (literal "-backwards") word then Back
    else (if stands_for (literal "-forwards") word then Forward else direction)

abbrev pub direction_by : Option (List ℕ) → Direction
direction_by None = Forward
direction_by (Some word) = if stands_for (literal "-backwards") word then Back else Forward

abbrev pub direction_of : List (List ℕ) → Direction
direction_of words = direction_by (find is_direction (reverse words))

abbrev pub search_switches : List (List ℕ) → SearchSwitches
search_switches words = record {
  direction = direction_of words;
  wanted = if has_switch (literal "-all") words then (if has_switch (literal "-overlap") words then All else Apart)
      else First;
  ignores_case = has_switch (literal "-nocase") words;
  is_strict = has_switch (literal "-strictlimits") words;
}

-- the place of an index that may be left out
abbrev pub stop_at : Document → Widget → ℕ → Option (List ℕ) → Result (Option ℕ) Fault
stop_at document widget position None = Ok None
stop_at document widget position (Some word) =
    with_value (place_at document widget position word) (λ place. Ok (Some place))

abbrev pub searched : Document → Widget → SearchSwitches → List ℕ → ℕ → Option ℕ → Result Answer Fault
searched document widget switches pattern from stop =
    listed (search_result switches pattern (shown document widget) from stop)

abbrev pub search_words : Document → Widget → SearchSwitches → ℕ → List ℕ × List ℕ × Option (List ℕ) →
    Result Answer Fault
search_words document widget switches position (pattern, first, last) =
    with_value (place_at document widget (position + 1) first) (λ from.
    with_value (stop_at document widget (position + 2) last) (searched document widget switches pattern from))

-- `W search ?switch ..? pattern I ?J?`
abbrev pub search : Document → Widget → List (List ℕ) → ℕ → List (List ℕ) → Result Answer Fault
search document widget switches position words =
    with_value (two_or_three_of words) (search_words document widget (search_switches switches) position)

-- ---- count

abbrev pub counted_as : List ℕ → Counted
counted_as word = if is_same word (literal "-lines") then Lines else Characters

abbrev pub count_between : Document → Widget → List Counted → ℕ → ℕ → Result Answer Fault
count_between document widget options from to = listed (counted options (shown document widget) from to)

abbrev pub count_words : Document → Widget → List Counted → ℕ → List ℕ × List ℕ → Result Answer Fault
count_words document widget options position (first, second) =
    with_value (place_at document widget position first) (λ from.
    with_value (place_at document widget (position + 1) second) (count_between document widget options from))

-- `W count ?option ..? A B`
abbrev pub count : Document → Widget → List (List ℕ) → ℕ → List (List ℕ) → Result Answer Fault
count document widget options position words =
    with_value (two_of words) (count_words document widget (map counted_as options) position)

-- ---- dump

-- what is listed: everything without a switch
abbrev pub listed_by : List (List ℕ) → Listed
listed_by [] = record { tags = true; marks = true; text = true }
listed_by (switch ∷ switches) =
    let words = switch ∷ switches in
    let all = has_switch (literal "-all") words in
    record {
      tags = all || has_switch (literal "-tag") words;
      marks = all || has_switch (literal "-mark") words;
      text = all || has_switch (literal "-text") words;
    }

abbrev pub dumped : Document → Widget → Listed → ℕ → ℕ → Result Answer Fault
dumped document widget elements from to = listed (dump_elements elements (seen document widget) from to)

-- without a last index up to the character behind, or to the end
abbrev pub place_behind : Document → Widget → ℕ → ℕ
place_behind document widget place = min (suc place) (length (shown document widget))

abbrev pub dump_words : Document → Widget → Listed → ℕ → List ℕ × Option (List ℕ) → Result Answer Fault
dump_words document widget elements position (first, last) =
    with_value (place_at document widget position first) (λ from.
    with_value (place_or document widget (place_behind document widget from) (position + 1) last)
    (dumped document widget elements from))

-- `W dump ?switch ..? A ?B?`
abbrev pub dump : Document → Widget → List (List ℕ) → ℕ → List (List ℕ) → Result Answer Fault
dump document widget switches position words =
    with_value (one_or_two_of words) (dump_words document widget (listed_by switches) position)
