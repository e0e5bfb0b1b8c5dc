use Rattle.undo_stack.proofs.FitsLaws.{note-fits}
use Rattle.undo_stack.proofs.laws.note_fits.Goals as goal

pub returns : goal.returns
returns c = note-fits
