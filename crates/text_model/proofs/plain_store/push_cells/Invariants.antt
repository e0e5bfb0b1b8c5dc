use Rattle.text_model.proofs.Common.{◌≡◌, ◌++◌, cells_of}
use Rattle.text_model.proofs.plain_store.push_cells.Given as goal

abbrev pub invariant-loop-character : goal.invariant-loop-character
invariant-loop-character l = l.cells.items ≡ l.initial.cells.items ++ cells_of l.yielded l.tags
