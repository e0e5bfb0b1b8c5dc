use Rattle.line_tree.proofs.tree.LineTree.take_mark.Goals as goal

pub take_mark_named-requires : goal.take_mark_named-requires
take_mark_named-requires g c = (c.args.k, c.select-name.ensures.name)

pub returns-clause-lines : goal.returns-clause-lines
returns-clause-lines g c = c.take_mark_named.ensures.lines c.args.k c.select-name.ensures.name
