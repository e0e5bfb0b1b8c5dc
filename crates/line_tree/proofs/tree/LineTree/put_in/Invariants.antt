use Rattle.line_tree.proofs.SpliceLaws.{PutsIn}
use Rattle.line_tree.proofs.tree.LineTree.put_in.Given as goal

abbrev pub invariant-loop-line : goal.invariant-loop-line
invariant-loop-line g l =
    PutsIn l.initial.self l.k l.fn.gone l.fn.lines.items l.yielded l.line-iterator.rest.items l.at l.self l.behind
