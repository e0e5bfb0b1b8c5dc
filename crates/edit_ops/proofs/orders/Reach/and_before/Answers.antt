use Rattle.edit_ops.proofs.Common.{◌∷◌, refl, sym, subst, arith, Step, Reach, LetsPass}
use Rattle.edit_ops.proofs.OrderLaws.{over-insert, over-remove}
use Rattle.edit_ops.proofs.orders.Reach.and_before.Goals as goal

pub returns-in_ok-checked_add-in-Insert : goal.returns-in_ok-checked_add-in-Insert
returns-in_ok-checked_add-in-Insert c = λ steps passes.
    let count = c.count_of-count.ensures in
    let top = c.max.ensures in
    let rest = c.saturating_sub.ensures in
    let added = c.in_ok-checked_add-in-Insert.ensures.1 in
    let new : Reach = record {
      top = c.max.result;
      added = c.in_ok-checked_add-in-Insert.field-0;
      taken = c.args.self.now.taken;
    } in
    subst (λ (step : Step). LetsPass (step ∷ steps) new) (sym c.in-Insert.is)
    (over-insert c.args.self.now new c.in-Insert.at c.in-Insert.text c.in-Insert.field-2 (omega (arith, top))
    (omega (arith, top, rest, count)) (omega (arith, added, count)) refl steps passes)

pub returns-in_ok-checked_add-in-Remove-2 : goal.returns-in_ok-checked_add-in-Remove-2
returns-in_ok-checked_add-in-Remove-2 c = λ steps passes.
    let count = c.in_ok-count-in-Remove.ensures in
    let top = c.max-in-Remove.ensures in
    let rest = c.in_ok-checked_add-in-Remove.ensures.1 in
    let new : Reach = record {
      top = c.max-in-Remove.result;
      added = c.args.self.now.added;
      taken = c.in_ok-checked_add-in-Remove-2.field-0;
    } in
    subst (λ (step : Step). LetsPass (step ∷ steps) new) (sym c.in-Remove.is)
    (over-remove c.args.self.now new c.in-Remove.from c.in-Remove.to c.in_ok-count-in-Remove.count count.0 count.1
    (omega (arith, top)) (omega (arith, top, rest)) refl c.in_ok-checked_add-in-Remove-2.ensures.1 steps passes)
