use Rattle.peers.proofs.SettledLaws.{settled}
use Rattle.peers.proofs.laws.answers.Goals as goal

pub returns : goal.returns
returns c = settled
