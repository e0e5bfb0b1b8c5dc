use Rattle.line_tree.proofs.Common.{records}
use Rattle.line_tree.proofs.RootLaws.{stands-few}
use Rattle.line_tree.proofs.tree.LineTree.locate_line.Goals as goal

pub locate-requires-clause-fits : goal.locate-requires-clause-fits
locate-requires-clause-fits g c =
    stands-few (records c.self.inside.store) c.self.inside.height c.self.inside.root c.self.invariant.0.stands
