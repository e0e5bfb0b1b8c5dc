-- The ranges that a command's indices make.
use Rattle.std.specs.Prelude.{ℕ, suc, List, [], ◌∷◌, Result, Ok}
use Rattle.command_effects.specs.declared.answers.Fault.{Fault}
use Rattle.command_effects.specs.Faults.{with_value}
use Rattle.documents.specs.Indices.{place_at}
use Rattle.documents.specs.Documents.{Document, Widget}

abbrev pub and_place : Result ℕ Fault → Result (List ℕ) Fault → Result (List ℕ) Fault
and_place place places = with_value place (λ place. with_value places (λ places. Ok (place ∷ places)))

-- the places of indices, the first of which stands at a position
abbrev pub places_at : Document → Widget → ℕ → List (List ℕ) → Result (List ℕ) Fault
places_at document widget position [] = Ok []
places_at document widget position (word ∷ words) =
    and_place (place_at document widget position word) (places_at document widget (suc position) words)
