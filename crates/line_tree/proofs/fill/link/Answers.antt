use Rattle.line_tree.proofs.Common.{sym, ap, ◌∙◌, subst, Some, IsSome, link_one, records, update, with_child}
use Rattle.line_tree.proofs.Common.{with_parent, named-update}
use Rattle.line_tree.proofs.RowLaws.{none_of}
use Rattle.std.specs.FinMap as finite
use Rattle.line_tree.proofs.fill.link.Goals as goal

pub set_parent-requires : goal.set_parent-requires
set_parent-requires g c = let m = records c.args.store.now in let d = c.in-Some.child in
    subst (λ n. IsSome (finite.get n d)) (sym c.set_child.ensures.records)
    (named-update m c.args.node (λ r. with_child r c.args.slot c.args.child) d (c.requires.child d c.in-Some.is))

pub returns-in-Some-clause-records : goal.returns-in-Some-clause-records
returns-in-Some-clause-records g c =
    let m = records c.args.store.now in let p = c.args.node in let i = c.args.slot in let d = c.in-Some.child in
    c.set_parent.ensures.records ∙ ap (λ n. update n d (λ r. with_parent r (Some p) i)) (c.set_child.ensures.records
    ∙ ap (λ o. update m p (λ r. with_child r i o)) c.in-Some.is)
    ∙ ap (link_one m p i) (sym c.in-Some.is)

pub returns-in_default-clause-records : goal.returns-in_default-clause-records
returns-in_default-clause-records g c =
    let m = records c.args.store.now in let p = c.args.node in let i = c.args.slot in
    let none = none_of c.args.child c.in_default.not-Some in
    c.set_child.ensures.records ∙ ap (λ o. update m p (λ r. with_child r i o)) none ∙ ap (link_one m p i) (sym none)
