use Rattle.undo_stack.proofs.FitsLaws.{redo-goes, redo-fits}
use Rattle.undo_stack.proofs.laws.redo_fits.Goals as goal

pub returns : goal.returns
returns c = record { goes = redo-goes; fits = redo-fits }
