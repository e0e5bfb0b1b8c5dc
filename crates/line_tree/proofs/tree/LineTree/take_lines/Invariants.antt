use Rattle.line_tree.proofs.Common.{◌≡◌, ◌+◌, ◌++◌, take, drop, KeepsRoom}
use Rattle.line_tree.proofs.tree.LineTree.take_lines.Given as goal

abbrev pub invariant-loop : goal.invariant-loop
invariant-loop g l =
    (l.self.lines ≡ take l.k l.initial.self.lines ++ drop (l.k + l.counter) l.initial.self.lines)
    × KeepsRoom l.initial.self l.self
