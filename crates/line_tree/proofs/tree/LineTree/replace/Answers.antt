use Rattle.line_tree.proofs.tree.LineTree.replace.Goals as goal

pub replace_named-requires-clause-named : goal.replace_named-requires-clause-named
replace_named-requires-clause-named g c = (c.args.k, c.select-name.ensures.name)

pub returns-clause-lines : goal.returns-clause-lines
returns-clause-lines g c = c.replace_named.ensures.lines c.args.k c.select-name.ensures.name
