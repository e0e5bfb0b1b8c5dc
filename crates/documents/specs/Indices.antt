-- Commands on indices: `index` and `compare`.
use Rattle.std.specs.Prelude.{ℕ, List, Result}
use Rattle.command_effects.specs.declared.answers.Fault.{Fault}
use Rattle.command_effects.specs.Faults.{at_position}
use Rattle.documents.specs.Names.{place_of}
use Rattle.documents.specs.Documents.{Document, Widget}

-- the place of the index at a position of the command, or the fault there
abbrev pub place_at : Document → Widget → ℕ → List ℕ → Result ℕ Fault
place_at document widget position word = at_position position (place_of document widget word)
