use Rattle.peers.proofs.ArgumentLaws.{arguments-part, switches-part}
use Rattle.peers.proofs.requests.Request.of.Goals as goal

pub returns-clause-switches : goal.returns-clause-switches
returns-clause-switches c = switches-part c.args.words.now c.args.shape

pub returns-clause-arguments : goal.returns-clause-arguments
returns-clause-arguments c = arguments-part c.args.words.now c.args.shape
