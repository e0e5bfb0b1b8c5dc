use Rattle.line_tree.proofs.Common.{sym, ap, ◌∙◌, subst, arith, IfSome, Count, HasCounts, counting, less, kids, row}
use Rattle.line_tree.proofs.Common.{◌≡◌, at_some, records, sum_of, sums, update, with_sum, without}
use Rattle.line_tree.proofs.KeptLaws.{update-as}
use Rattle.line_tree.proofs.LessLaws.{less-plus, without-plus}
use Rattle.line_tree.proofs.UpdateLaws.{inner-row}
use Rattle.line_tree.proofs.fill.lessen.Given.{Over}
use Rattle.line_tree.proofs.fill.lessen.Goals.{Joined-add_until_within, then-add_until_within, else-add_until_within}
use Rattle.std.specs.FinMap as finite
use Rattle.line_tree.proofs.fill.lessen.Goals as goal

pub lose_counts-requires-clause-name : goal.lose_counts-requires-clause-name
lose_counts-requires-clause-name g c = inner-row (records c.args.store.now) c.args.node c.requires.row

pub lose_counts-requires-clause-counts : goal.lose_counts-requires-clause-counts
lose_counts-requires-clause-counts g c =
    let has = c.requires.row in
    let now = sym (ap sum_of has.is) ∙ sym c.requires.sum in
    let lines = ap (λ (s : Count). s.lines) now in let characters = ap (λ (s : Count). s.characters) now in
    let marks = ap (λ (s : Count). s.marks) now in
    let a = c.lines.ensures in let b = c.characters.ensures in let d = c.marks.ensures in
    subst (λ o. IfSome o (λ r. HasCounts (counting c.lines.result c.characters.result c.marks.result) r.sum)) (sym has.is)
    (record { lines = omega arith; characters = omega arith; marks = omega arith })

pub returns-then-is_bare-clause-records : goal.returns-then-is_bare-clause-records
returns-then-is_bare-clause-records g c = let m = records c.args.store.now in let p = c.args.node in
    let has = c.requires.row in
    let now = sym (ap sum_of has.is) ∙ sym c.requires.sum in
    let bare = c.is_bare.ensures.yes c.if-is_bare.true in
    c.lose_counts.ensures.records
    ∙ update-as m p (λ r. with_sum r (less c.lines.result c.characters.result c.marks.result r.sum)) (λ r. with_sum r _)
    has.found has.is
    (ap (with_sum has.found)
    ((λ i. less (c.lines.ensures i) (c.characters.ensures i) (c.marks.ensures i) (now i))
    ∙ less-plus (sums m (row (kids m p))) c.args.gone.now bare))

-- the sum is that of the children, whether these were asked as far as one with the slots or all of them
summed : (g : Over) (c : Joined-add_until_within g) → c.if-add_until_within.sum
    ≡ sums (records c.args.store.now) (row (kids (records c.args.store.now) c.args.node))
summed g c =
    let m = records c.args.store.now in
    let has = c.requires.row in
    let below = sums m (row (kids m c.args.node)) in
    elim c.if-add_until_within.branch [
      | then-add_until_within w ↦
          let here : w.sum-sum.result ≡ has.found.sum = at_some (finite.get m c.args.node)
          (λ r. w.sum-sum.result ≡ r.sum) has.found w.sum-sum.ensures.value has.is in
          w.sum-is ∙ w.lose.ensures
          ∙ ap (without c.args.gone.now) (here ∙ sym (ap sum_of has.is) ∙ sym c.requires.sum)
          ∙ without-plus below c.args.gone.now (c.add_until_within.ensures.found w.if-add_until_within.true)
      | else-add_until_within w ↦ w.sum-is ∙ c.add_until_within.ensures.whole w.if-add_until_within.false
    ]

pub returns-clause-records : goal.returns-clause-records
returns-clause-records g c =
    c.set_sum.ensures.records ∙ ap (λ s. update (records c.args.store.now) c.args.node (λ r. with_sum r s))
    (summed g (goal.at.returns-clause-records g c).Joined-add_until_within)
