use Rattle.undo_stack.proofs.FitsLaws.{undo-goes, undo-fits}
use Rattle.undo_stack.proofs.laws.undo_fits.Goals as goal

pub returns : goal.returns
returns c = record { goes = undo-goes; fits = undo-fits }
