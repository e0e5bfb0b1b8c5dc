use Rattle.line_tree.proofs.Common.{ap, sym, subst, records, IsLineAt}
use Rattle.line_tree.proofs.GivingLaws.{node-above}
use Rattle.line_tree.proofs.RootLaws.{positive-root}
use Rattle.line_tree.proofs.tree.LineTree.branch_near.Goals as goal

pub lines_from-rest-requires : goal.lines_from-rest-requires
lines_from-rest-requires g c = let m = records c.self.inside.store in let h = c.self.inside.height in
    let r = c.self.inside.root in let stands = c.self.invariant.0.stands in
    let above = node-above m h r c.args.k c.select-line.result (positive-root m h r stands) stands.tree
    (subst (λ ls. IsLineAt ls c.args.k c.select-line.result) (sym (ap (λ v. v.lines) c.self.view_is))
    c.select-line.ensures.name) in record { line = above.0; above = above.1 }
