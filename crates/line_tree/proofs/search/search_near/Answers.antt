use Rattle.line_tree.proofs.Common.{records}
use Rattle.line_tree.proofs.TreeLaws.{named-row}
use Rattle.line_tree.proofs.search.search_near.Goals as goal

pub pass-requires-clause-named : goal.pass-requires-clause-named
pass-requires-clause-named g c = named-row (records c.args.store.now) c.args.sought.node c.requires.row
