use Rattle.toggle_sums.proofs.Common.{◌≡◌, ◌≤◌, last_used}
use Rattle.toggle_sums.proofs.toggle_words.used_words.Given as goal

abbrev pub invariant-loop-used : goal.invariant-loop-used
invariant-loop-used g l = record {
  small : l.used ≤ g.row.K;
  same : last_used g.row.K l.parity l.presence ≡ last_used l.used l.parity l.presence;
}

abbrev pub decreases-loop-used : goal.decreases-loop-used
decreases-loop-used g l = l.used
