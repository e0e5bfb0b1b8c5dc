use Rattle.line_tree.proofs.Common.{◌≡◌, sym, ap, ◌∙◌, subst, arith, IfSome, CanExchange, Count, IsWithin, exchanged}
use Rattle.line_tree.proofs.Common.{plus, without, FitsSum, resummed, sums, NodePtr, Records, kids, row, records}
use Rattle.line_tree.proofs.Common.{sum_at, sum_of, update, with_sum, same_slots, HasRow}
use Rattle.toggle_sums.proofs.ExchangeLaws.{union-part}
use Rattle.line_tree.proofs.KeptLaws.{update-as}
use Rattle.line_tree.proofs.LessLaws.{without-plus}
use Rattle.line_tree.proofs.ReplacingLaws.{within-both}
use Rattle.line_tree.proofs.SumLaws.{fits-both}
use Rattle.line_tree.proofs.UpdateLaws.{inner-row}
use Rattle.line_tree.proofs.fill.exchange_sum.Goals.{then-not-exchange+else-not-add_until_within, else-not-exchange}
use Rattle.std.specs.FinSet as set
use Rattle.line_tree.proofs.fill.exchange_sum.Goals as goal

pub exchange-requires : goal.exchange-requires
exchange-requires g c = record {
  name = inner-row (records c.args.store.now) c.args.node c.requires.row;
  sum =
      let m = records c.args.store.now in let p = c.args.node in let has = c.requires.row in
      let both = c.args.exchange.now in let below = sums m (row (kids m p)) in let old = has.found.sum in
      let here = ap sum_of has.is in let now = c.requires.sum ∙ ap (λ s. plus s both.more.now) here in
      let lines = ap (λ (s : Count). s.lines) now in let characters = ap (λ (s : Count). s.characters) now in
      let marks = ap (λ (s : Count). s.marks) now in
      subst (λ o. IfSome o (λ r. CanExchange both.gone.now both.more.now both.is_level r.sum)) (sym has.is) (record {
        fits = fits-both old both.more.now (subst (λ s. FitsSum (plus s both.more.now)) here c.requires.fits);
        counts = record { lines = omega arith; characters = omega arith; marks = omega arith };
        level = λ level. subst (λ s. set.union old.presence s ≡ old.presence)
            (same_slots both.gone.now.presence both.more.now.presence (both.level_told level).1)
            (subst (IsWithin both.gone.now) here c.requires.went);
      });
}

-- the sum is that of the children where what went is toggled in these
summed : (m : Records) (p : NodePtr) (has : HasRow m p) (gone more : Count) →
    plus (sums m (row (kids m p))) gone ≡ plus (sum_at m p) more → IsWithin gone (sums m (row (kids m p))) →
    update m p (λ r. with_sum r (exchanged gone more r.sum)) ≡ resummed m p (row (kids m p))
summed m p has gone more sum within =
    let here = ap sum_of has.is in
    update-as m p (λ r. with_sum r (exchanged gone more r.sum)) (λ r. with_sum r _) has.found has.is
    (ap (with_sum has.found) (ap (without gone) (ap (λ s. plus s more) (sym here) ∙ sym sum)
    ∙ without-plus (sums m (row (kids m p))) gone within))

pub returns-clause-records : goal.returns-clause-records
returns-clause-records g c =
    let m = records c.args.store.now in
    let both = c.args.exchange.now in
    let within : IsWithin both.gone.now (sums m (row (kids m c.args.node))) = elim c.if-not-exchange.branch [
      | then-not-exchange+else-not-add_until_within w ↦
          w.add_until_within.ensures.found w.if-not-add_until_within.false
      | else-not-exchange w ↦
          let part = union-part both.gone.now.presence both.more.now.presence
          (both.within_told w.if-not-exchange.false) in
          within-both both.gone.now both.more.now (sums m (row (kids m c.args.node))) part c.requires.came
    ] in
    c.exchange.ensures.records
    ∙ summed m c.args.node c.requires.row both.gone.now both.more.now c.requires.sum within
