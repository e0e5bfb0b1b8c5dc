-- Commands that take text out: `delete` and `replace`.
use Rattle.std.specs.Prelude.{ℕ, ◌+◌, nat_lt, List, if◌then◌else◌}
use Rattle.text_model.specs.LimitTable.{LimitTable}
use Rattle.command_effects.specs.declared.answers.Fault.TheVariants.{IndexOrder}
use Rattle.peers.specs.Arguments.{two_or_more_of}
use Rattle.command_effects.specs.Lists.{Pair, pairs_at}
use Rattle.documents.specs.Indices.{place_at}
use Rattle.documents.specs.Promise.{Change, change_with, refused, unless_idle}
use Rattle.peers.specs.Ranges.{places_at}
use Rattle.documents.specs.Texts.{insertion_offset}
use Rattle.documents.specs.Documents.{Document, Widget}
use Rattle.documents.specs.Deletions.{delete_places, replace_span}

-- ---- delete

-- `W delete I ?I ..?`
abbrev pub delete : Document → Widget → ℕ → List (List ℕ) → Change
delete document widget position words =
    change_with document (places_at document widget position words) (λ places.
    unless_idle widget document (delete_places document widget places))

-- ---- replace

-- The second place, of which the word stands at a position, may not be before the first; behind the last character both
-- are before it.
abbrev pub replace_places : LimitTable → Document → Widget → ℕ → ℕ → ℕ → List Pair → Change
replace_places limits document widget second from to pairs =
    if nat_lt to from then refused document (IndexOrder second)
    else unless_idle widget document (replace_span limits document widget (insertion_offset document widget from)
    (insertion_offset document widget to) pairs)

abbrev pub replace_words : LimitTable → Document → Widget → ℕ → List ℕ × List ℕ × List (List ℕ) → Change
replace_words limits document widget position (first, second, words) =
    change_with document (place_at document widget position first) (λ from.
    change_with document (place_at document widget (position + 1) second) (λ to.
    change_with document (pairs_at (position + 2) words)
    (replace_places limits document widget (position + 1) from to)))

-- `W replace A B chars ?tagList chars ..?`
abbrev pub replace : LimitTable → Document → Widget → ℕ → List (List ℕ) → Change
replace limits document widget position words =
    change_with document (two_or_more_of words) (replace_words limits document widget position)
