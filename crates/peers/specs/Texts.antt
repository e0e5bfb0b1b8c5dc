-- Commands on texts: `insert` and `get`.
use Rattle.std.specs.Prelude.{ℕ, suc, ◌+◌, List, [], ◌∷◌, filter, slice_range, Option, None}
use Rattle.std.specs.Prelude.{Some, Result, Ok}
use Rattle.text_model.specs.LimitTable.{LimitTable}
use Rattle.tcl_words.specs.ListText.{list_text}
use Rattle.command_effects.specs.declared.answers.Answer.{Answer}
use Rattle.command_effects.specs.declared.answers.Answer.TheVariants.{Empty, Text}
use Rattle.command_effects.specs.declared.answers.Fault.{Fault}
use Rattle.peers.specs.Arguments.{one_or_more_of}
use Rattle.command_effects.specs.Faults.{with_value}
use Rattle.documents.specs.Indices.{place_at}
use Rattle.command_effects.specs.Lists.{Pair, pairs_at}
use Rattle.documents.specs.Promise.{Change, answered, change_with, unless_idle}
use Rattle.peers.specs.Ranges.{places_at}
use Rattle.documents.specs.Views.{shown}
use Rattle.documents.specs.Documents.{Document, Widget}
use Rattle.documents.specs.Listing.{is_filled}
use Rattle.documents.specs.Texts.{insert_at, insertion_offset}

-- texts are inserted at an offset, if there is one
abbrev pub inserted_at : LimitTable → Document → Widget → Option ℕ → List Pair → Change
inserted_at limits document widget None pairs = answered document Empty
inserted_at limits document widget (Some offset) pairs = insert_at limits document widget offset pairs

abbrev pub insert_pairs : LimitTable → Document → Widget → Result (List Pair) Fault → ℕ → Change
insert_pairs limits document widget pairs place =
    change_with document pairs (λ pairs. unless_idle widget document
    (insert_at limits document widget (insertion_offset document widget place) pairs))

abbrev pub insert_words : LimitTable → Document → Widget → ℕ → List ℕ × List (List ℕ) → Change
insert_words limits document widget position (index, words) =
    change_with document (place_at document widget position index)
    (insert_pairs limits document widget (pairs_at (position + 1) words))

-- `W insert I chars ?tagList chars ..?`
abbrev pub insert : LimitTable → Document → Widget → ℕ → List (List ℕ) → Change
insert limits document widget position words =
    change_with document (one_or_more_of words) (insert_words limits document widget position)

-- the characters of the view from one place to another
abbrev pub text_of : Document → Widget → ℕ → ℕ → List ℕ
text_of document widget from to = slice_range (shown document widget) from to

-- the texts of pairs of places; a last place alone stands for one character
abbrev pub texts_of_places : Document → Widget → List ℕ → List (List ℕ)
texts_of_places document widget [] = []
texts_of_places document widget (from ∷ []) = text_of document widget from (suc from) ∷ []
texts_of_places document widget (from ∷ to ∷ places) =
    text_of document widget from to ∷ texts_of_places document widget places

-- the text of one range; of more the list of the texts that aren't empty
abbrev pub got : Document → Widget → List ℕ → Answer
got document widget [] = Text []
got document widget (from ∷ []) = Text (text_of document widget from (suc from))
got document widget (from ∷ to ∷ []) = Text (text_of document widget from to)
got document widget (from ∷ to ∷ next ∷ places) =
    Text (list_text (filter is_filled (texts_of_places document widget (from ∷ to ∷ next ∷ places))))

-- `W get I ?I ..?`
abbrev pub get : Document → Widget → ℕ → List (List ℕ) → Result Answer Fault
get document widget position words =
    with_value (places_at document widget position words) (λ places. Ok (got document widget places))
