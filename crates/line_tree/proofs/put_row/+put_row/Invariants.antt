use Rattle.line_tree.proofs.put_row.+put_row.Given as goal

abbrev pub decreases-put_row : goal.decreases-put_row
decreases-put_row g l = l.branch.height
