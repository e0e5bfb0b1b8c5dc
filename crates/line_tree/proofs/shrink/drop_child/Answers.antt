use Rattle.line_tree.proofs.Common.{◌≡◌, List, refl, sym, ap, subst, ◌∙◌, IsSome, remove, slice_get-get_or, CanFill}
use Rattle.line_tree.proofs.Common.{FitsSum, relinked, resummed, sum_all, sums, NodePtr, Records, kids, row, plus}
use Rattle.line_tree.proofs.Common.{records, sum_at, HasRow}
use Rattle.line_tree.proofs.FillLaws.{relinked-has_row, relinked-sums, sum-relinked}
use Rattle.line_tree.proofs.shrink.drop_child.Goals as goal

pub unwrap-gone-requires : goal.unwrap-gone-requires
unwrap-gone-requires g c = let cs = kids (records c.args.store.now) c.args.node in
    subst (λ o. IsSome o) (sym (c.kid.ensures ∙ slice_get-get_or cs c.args.slot c.args.node c.requires.slot)) refl

pub returns-clause-child : goal.returns-clause-child
returns-clause-child g c = sym c.kid.ensures ∙ c.unwrap-gone.ensures

-- the sum of the children that are left
left : (m n : Records) (p : NodePtr) (cs : List NodePtr) → CanFill m p cs → n ≡ relinked m p 0 (row cs) →
    sums n (row (kids n p)) ≡ sum_all m cs
left m n p cs fill now = ap (λ z. sums z (row (kids z p))) now
    ∙ ap (λ ds. sums (relinked m p 0 (row cs)) (row ds)) (relinked-has_row m p cs fill).1 ∙ relinked-sums m p cs

pub lessen-requires : goal.lessen-requires
lessen-requires g c = let m = records c.args.store.now in let p = c.args.node in let r = c.requires in
    let now = c.close.ensures.records in let cs = remove (kids m p) c.args.slot in
    record {
      row = subst (λ n. HasRow n p) (sym now) (relinked-has_row m p (remove (kids m p) c.args.slot) r.fill).0;
      sum = ap (λ s. plus s c.args.less.now) (left m (records c.close.new.store) p cs r.fill now) ∙ r.sum
          ∙ sym (ap (λ n. sum_at n p) now ∙ sum-relinked m p 0 (row cs) p);
      fits = subst FitsSum (sym (left m (records c.close.new.store) p cs r.fill now)) r.fill.fits;
    }

pub returns-clause-records : goal.returns-clause-records
returns-clause-records g c = let m = records c.args.store.now in let p = c.args.node in let r = c.requires in
    let cs = remove (kids m p) c.args.slot in
    let now = c.close.ensures.records in
    c.lessen.ensures.records ∙ ap (λ n. resummed n p (row (kids n p))) now
    ∙ ap (λ ds. resummed (relinked m p 0 (row cs)) p (row ds)) (relinked-has_row m p cs r.fill).1
