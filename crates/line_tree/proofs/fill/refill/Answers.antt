use Rattle.line_tree.proofs.Common.{ap, sym, ◌∙◌, subst, slice_get, records, relinked, update, with_sum, HasRow}
use Rattle.line_tree.proofs.AmongLaws.{get-among}
use Rattle.line_tree.proofs.FillLaws.{relinked-has_row, row-some, sum-relinked, sums-same}
use Rattle.line_tree.proofs.UpdateLaws.{inner-fill, inner-row}
use Rattle.line_tree.proofs.fill.refill.Goals as goal

pub relink-requires-clause-node : goal.relink-requires-clause-node
relink-requires-clause-node g c = inner-fill (records c.args.store.now) c.args.node c.requires.fill.0 c.requires.fill.2

pub relink-requires-clause-children : goal.relink-requires-clause-children
relink-requires-clause-children g c i d is = let cs = c.requires.fill.0 in
    c.requires.fill.2.each d (get-among cs i d (row-some cs i d (ap (λ os. slice_get os i) (sym c.requires.fill.1)
    ∙ is)))

pub set_sum-requires : goal.set_sum-requires
set_sum-requires g c = let m = records c.args.store.now in let p = c.args.node in let cs = c.requires.fill.0 in
    let now = c.relink.ensures.records ∙ sym c.requires.kept ∙ ap (relinked m p 0) c.requires.fill.1 in
    inner-row (records c.relink.new.store) p
    (subst (λ n. HasRow n p) (sym now) (relinked-has_row m p cs c.requires.fill.2).0)

pub returns-clause-records : goal.returns-clause-records
returns-clause-records g c = let m = records c.args.store.now in let p = c.args.node in let os = c.args.children.now in
    let now = c.relink.ensures.records ∙ sym c.requires.kept in
    let sum = c.requires.sum ∙ sym (sums-same m (relinked m p 0 os) os (sum-relinked m p 0 os)) in
    c.set_sum.ensures.records ∙ (λ i. update (now i) p (λ r. with_sum r (sum i)))
