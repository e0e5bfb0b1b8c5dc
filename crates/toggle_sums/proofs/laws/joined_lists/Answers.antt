use Rattle.toggle_sums.proofs.ToggleLaws.{parity-append, presence-append}
use Rattle.toggle_sums.proofs.laws.joined_lists.Goals as goal

pub returns-clause-parity : goal.returns-clause-parity
returns-clause-parity c = parity-append

pub returns-clause-presence : goal.returns-clause-presence
returns-clause-presence c = presence-append
