use Rattle.line_tree.proofs.Common.{arith}
use Rattle.line_tree.proofs.ListedLaws.{characters-in, place-holds}
use Rattle.line_tree.proofs.tree_lines.TreeLinesLineList.locate.Goals as goal

pub locate-requires : goal.locate-requires
locate-requires c = let all = characters-in c.args.self.now.tree.lines in let within = c.requires in
    omega (arith, all, within)

pub returns : goal.returns
returns c =
    place-holds c.args.self.now.tree.lines c.args.offset c.locate.result.0 c.locate.result.1 c.locate.ensures.place
