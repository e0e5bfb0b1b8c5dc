use Rattle.line_tree.proofs.Common.{records}
use Rattle.line_tree.proofs.RootLaws.{stands-few}
use Rattle.line_tree.proofs.tree.LineTree.next_marked.Goals as goal

pub next-requires-clause-fits : goal.next-requires-clause-fits
next-requires-clause-fits g c =
    stands-few (records c.self.inside.store) c.self.inside.height c.self.inside.root c.self.invariant.0.stands
