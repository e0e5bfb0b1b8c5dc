use Rattle.peers.proofs.UndoBackLaws.{undo-runs}
use Rattle.peers.proofs.laws.undo_runs.Goals as goal

pub returns : goal.returns
returns c = undo-runs
