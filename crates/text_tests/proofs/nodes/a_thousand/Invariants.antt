use Rattle.std.proofs.Common.{◌≤◌}
use Rattle.raw_nodes.specs.Names.{rooms, spares}
use Rattle.text_tests.proofs.nodes.a_thousand.Given as goal

abbrev pub invariant-loop-left : goal.invariant-loop-left
invariant-loop-left l = (l.left ≤ spares l.store) × (l.left ≤ rooms l.store)

abbrev pub decreases-loop-left : goal.decreases-loop-left
decreases-loop-left l = l.left
