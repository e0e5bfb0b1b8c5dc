use Rattle.toggle_sums.proofs.ToggleLaws.{odd_toggles, tags_by_parity}
use Rattle.toggle_sums.proofs.laws.tags_by_parity.Goals as goal

pub returns-clause-cell : goal.returns-clause-cell
returns-clause-cell c = tags_by_parity

pub returns-clause-odd : goal.returns-clause-odd
returns-clause-odd c = odd_toggles
