-- Commands on indices: `index` and `compare`.
use Rattle.std.specs.Prelude.{ℕ, ◌+◌, List, Result, Ok, ok_or}
use Rattle.text_index.specs.Positions.{position_text}
use Rattle.command_effects.specs.declared.answers.Answer.{Answer}
use Rattle.command_effects.specs.declared.answers.Answer.TheVariants.{Text, Flag}
use Rattle.command_effects.specs.declared.answers.Fault.{Fault}
use Rattle.command_effects.specs.declared.answers.Fault.TheVariants.{BadComparison}
use Rattle.peers.specs.declared.comparisons.Comparison.{Comparison}
use Rattle.peers.specs.Arguments.{one_of, three_of}
use Rattle.command_effects.specs.Faults.{with_value}
use Rattle.documents.specs.Views.{shown}
use Rattle.documents.specs.Documents.{Document, Widget}
use Rattle.peers.specs.Comparisons.{comparison_of, holds}
use Rattle.documents.specs.Indices.{place_at}

-- a place as `line.char`
abbrev pub position_answer : Document → Widget → ℕ → Result Answer Fault
position_answer document widget place = Ok (Text (position_text (shown document widget) place))

abbrev pub index_of : Document → Widget → ℕ → List ℕ → Result Answer Fault
index_of document widget position word =
    with_value (place_at document widget position word) (position_answer document widget)

-- `W index I`
abbrev pub index : Document → Widget → ℕ → List (List ℕ) → Result Answer Fault
index document widget position words = with_value (one_of words) (index_of document widget position)

-- whether a comparison holds of two places: the first is decided first, then the comparison, then the second
abbrev pub compared : Result ℕ Fault → Result Comparison Fault → Result ℕ Fault → Result Answer Fault
compared left operator right =
    with_value left (λ from. with_value operator (λ comparison.
    with_value right (λ to. Ok (Flag (holds comparison from to)))))

abbrev pub compared_at : Document → Widget → ℕ → List ℕ × List ℕ × List ℕ → Result Answer Fault
compared_at document widget position words =
    compared (place_at document widget position words.0)
    (ok_or (comparison_of words.1) (BadComparison (position + 1))) (place_at document widget (position + 2) words.2)

-- `W compare A op B`
abbrev pub compare : Document → Widget → ℕ → List (List ℕ) → Result Answer Fault
compare document widget position words = with_value (three_of words) (compared_at document widget position)
