use Rattle.undo_stack.proofs.FitsLaws.{nothing-fits, separated-fits, limited-fits}
use Rattle.undo_stack.proofs.laws.rest_fits.Goals as goal

pub returns : goal.returns
returns c = record { nothing = nothing-fits; separated = separated-fits; limited = limited-fits }
