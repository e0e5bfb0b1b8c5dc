use Rattle.std.proofs.Common.{◌-◌, arith}
use Rattle.raw_nodes.specs.Names.{records}
use Rattle.line_tree.proofs.PlaceLaws.{child-is-tree, linked}
use Rattle.line_tree.proofs.TreeLaws.{named-tree}
use Rattle.tree_bench.proofs.shape.+walk_below.Goals as goal

pub walk_line-requires : goal.walk_line-requires
walk_line-requires t c = named-tree (records c.args.store.now) c.args.height c.args.node c.requires

pub children-count-requires : goal.children-count-requires
children-count-requires t c = named-tree (records c.args.store.now) c.args.height c.args.node c.requires

pub line-requires : goal.line-requires
line-requires t c = named-tree (records c.args.store.now) c.args.height c.args.node c.requires

pub walk_below-below-requires : goal.walk_below-below-requires
walk_below-below-requires t c = let more = c.if-height-eq0.false in let child = c.in-Some.child in (
  omega (arith, c.decreases),
  child-is-tree (records c.args.store.now) (c.args.height - 1) c.args.node c.loop-slot.slot child
      (c.child_in.ensures child c.in-Some.is),
)

pub is_linked-requires-clause-link : goal.is_linked-requires-clause-link
is_linked-requires-clause-link t c = let child = c.in-Some.child in
    linked (records c.args.store.now) (c.args.height - 1) c.args.node c.loop-slot.slot child
    (c.child_in.ensures child c.in-Some.is)

pub sum-requires : goal.sum-requires
sum-requires t c = named-tree (records c.args.store.now) c.args.height c.args.node c.requires
