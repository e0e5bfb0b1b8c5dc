use Rattle.line_tree.proofs.Common.{arith}
use Rattle.line_tree.proofs.SpendingLaws.{keeps-on, keeps-out}
use Rattle.line_tree.proofs.SpliceLaws.{next-out}
use Rattle.line_tree.proofs.tree.LineTree.take_lines.Goals as goal

pub loop-preserved : goal.loop-preserved
loop-preserved g c = let within = c.requires.within in let out = c.remove.ensures in (
  next-out c.args.self.now.lines c.loop.self.lines c.remove.new.self.lines c.args.k c.loop.counter (omega arith)
      c.loop.invariant.0 out.lines,
  keeps-on c.args.self.now c.loop.self c.remove.new.self c.loop.invariant.1
      (keeps-out c.loop.self c.remove.new.self out.nodes out.spares out.rooms out.names out.room),
)
