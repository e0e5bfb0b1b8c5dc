use Rattle.line_tree.proofs.Common.{◌≡◌, sym, ap, ◌∙◌, subst, IfSome, Count, CountsFit, plus, FitsSum, NodePtr, Records}
use Rattle.line_tree.proofs.Common.{with_sum, records, sum_at, sum_of, HasRow}
use Rattle.line_tree.proofs.KeptLaws.{update-as}
use Rattle.line_tree.proofs.SumLaws.{fits-both}
use Rattle.line_tree.proofs.UpdateLaws.{inner-row}
use Rattle.line_tree.proofs.fill.add.Goals as goal

-- what a node's record says, with so much more
now : (m : Records) (p : NodePtr) (has : HasRow m p) (more all : Count) → plus (sum_at m p) more ≡ all →
    plus has.found.sum more ≡ all
now m p has more all is = ap (λ o. plus (sum_of o) more) (sym has.is) ∙ is

pub add_sum-requires-clause-name : goal.add_sum-requires-clause-name
add_sum-requires-clause-name g c = inner-row (records c.args.store.now) c.args.node c.requires.row

pub add_sum-requires-clause-fits : goal.add_sum-requires-clause-fits
add_sum-requires-clause-fits g c = let m = records c.args.store.now in let p = c.args.node in
    let has = c.requires.row in let more = c.args.more.now in
    subst (λ o. IfSome o (λ r. CountsFit r.sum more)) (sym has.is)
    (fits-both has.found.sum more (subst FitsSum (sym (now m p has more _ c.requires.sum)) c.requires.fits))

pub returns-clause-records : goal.returns-clause-records
returns-clause-records g c = let m = records c.args.store.now in let p = c.args.node in
    let has = c.requires.row in let more = c.args.more.now in
    c.add_sum.ensures.records
    ∙ update-as m p (λ r. with_sum r (plus r.sum more)) (λ r. with_sum r _) has.found has.is
    (ap (with_sum has.found) (now m p has more _ c.requires.sum))
