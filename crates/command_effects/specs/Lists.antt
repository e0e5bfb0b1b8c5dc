-- Tag lists and pairs of a text and a tag list.
use Rattle.std.specs.Prelude.{ℕ, ◌+◌, List, [], ◌∷◌, ◌++◌, length, sum_by, Option, None, Some, Result, Ok, Err}
use Rattle.std.specs.Prelude.{if◌then◌else◌}
use Rattle.tcl_words.specs.ListText.{AtElement, read_list}
use Rattle.command_effects.specs.declared.answers.Fault.{Fault}
use Rattle.command_effects.specs.declared.answers.Fault.TheVariants.{BadList}
use Rattle.command_effects.specs.Faults.{with_value}
use Rattle.command_effects.specs.Words.{is_among}

-- a text, and the names of its tag list where it has one
pub record Pair : Type 0 where
  pub text : List ℕ
  pub names : Option (List (List ℕ))

abbrev pub list_at : ℕ → Option (List (List ℕ)) → Result (List (List ℕ)) Fault
list_at position None = Err (BadList position)
list_at position (Some names) = Ok names

-- the elements of the list at a position of the command
abbrev pub names_at : ℕ → List ℕ → Result (List (List ℕ)) Fault
names_at position word = list_at position (read_list word 0 AtElement)

-- a text at a position, with the list behind it where there is one
abbrev pub pair_at : ℕ → List ℕ → Option (List ℕ) → Result Pair Fault
pair_at position text None = Ok (record { text = text; names = None })
pair_at position text (Some list) =
    with_value (names_at (position + 1) list) (λ names. Ok (record { text = text; names = Some names }))

abbrev pub and_pairs : Result Pair Fault → Result (List Pair) Fault → Result (List Pair) Fault
and_pairs pair pairs = with_value pair (λ pair. with_value pairs (λ pairs. Ok (pair ∷ pairs)))

-- `chars ?tagList chars ..?`, from a position on
abbrev pub pairs_at : ℕ → List (List ℕ) → Result (List Pair) Fault
pairs_at position [] = Ok []
pairs_at position (text ∷ []) = and_pairs (pair_at position text None) (Ok [])
pairs_at position (text ∷ list ∷ words) = and_pairs (pair_at position text (Some list)) (pairs_at (position + 2) words)

abbrev pub listed_names : Option (List (List ℕ)) → List (List ℕ)
listed_names None = []
listed_names (Some names) = names

-- the names of all lists, in the order given
abbrev pub all_names : List Pair → List (List ℕ)
all_names [] = []
all_names (pair ∷ pairs) = listed_names pair.names ++ all_names pairs

-- tags with one more, which comes last if it is new
abbrev pub with_name : List (List ℕ) → List ℕ → List (List ℕ)
with_name tags name = if is_among name tags then tags else tags ++ name ∷ []

abbrev pub with_names : List (List ℕ) → List (List ℕ) → List (List ℕ)
with_names tags [] = tags
with_names tags (name ∷ names) = with_names (with_name tags name) names

-- how many characters texts have
abbrev pub total : List Pair → ℕ
total pairs = sum_by (λ (pair : Pair). length pair.text) pairs
