use Rattle.line_tree.proofs.Common.{sym, ap, ◌∙◌, subst, Some, slice_get, entry, records, lines_in, at_some, IsLineAt}
use Rattle.line_tree.proofs.LineNodes.{lent-same, lent-some, named-line, stands-at}
use Rattle.line_tree.proofs.tree.LineTree.line.Goals as goal

pub line-requires : goal.line-requires
line-requires g c = let m = records c.self.inside.store in let h = c.self.inside.height in let r = c.self.inside.root in
    let p = c.args.name in let k = c.requires.0 in
    let at = subst (λ v. IsLineAt v.lines k p) (sym c.self.view_is) c.requires.1 in
    named-line m (lines_in m h r) k p (stands-at m h r p k c.self.invariant.0.stands.tree at)

pub unwrap-requires : goal.unwrap-requires
unwrap-requires g c = let m = records c.self.inside.store in let h = c.self.inside.height in
    let r = c.self.inside.root in let p = c.args.name in let k = c.requires.0 in
    let at = subst (λ v. IsLineAt v.lines k p) (sym c.self.view_is) c.requires.1 in
    let s = stands-at m h r p k c.self.invariant.0.stands.tree at in
    lent-some (λ x. x.now) c.line.result s.line (at_some (entry c.self.inside.store p) _ s.found c.line.ensures s.is
    ∙ s.held)

pub returns : goal.returns
returns g c k is = let m = records c.self.inside.store in let h = c.self.inside.height in let r = c.self.inside.root in
    let p = c.args.name in
    let at = subst (λ v. IsLineAt v.lines k p) (sym c.self.view_is) is in
    let s = stands-at m h r p k c.self.invariant.0.stands.tree at in
    ap (λ v. slice_get v.lines k) (sym c.self.view_is) ∙ s.at
    ∙ ap (λ x. Some (p, x)) (lent-same (λ x. x.now) c.line.result c.unwrap.result s.line
    (at_some (entry c.self.inside.store p) _ s.found c.line.ensures s.is ∙ s.held) c.unwrap.ensures)
