use Rattle.std.proofs.Common.{arith, ◌∙◌, refl, sym, subst}
use Rattle.std.specs.Prelude.{None}
use Rattle.std.specs.FinSet as set
use Rattle.raw_nodes.specs.Records.{blank, with_sum}
use Rattle.toggle_sums.specs.Counts.{CanExchange, Count, counting, exchanged}
use Rattle.toggle_sums.specs.CountLaws.{union-empty}
use Rattle.text_tests.proofs.EntryLaws.{at, get-made, get-summed, get-updated, inner, named}
use Rattle.text_tests.proofs.nodes.sums_exchanged.Goals as goal

pub set_sum-requires : goal.set_sum-requires
set_sum-requires g c = inner _ _ (blank None) (get-made _ _ _ _ c.make-top.ensures.records) refl

pub exchange-requires-clause-name : goal.exchange-requires-clause-name
exchange-requires-clause-name g c =
    inner _ _ (with_sum (blank None) c.counting.result)
    (get-summed _ _ _ _ c.counting.result c.make-top.ensures.records c.set_sum.ensures.records) refl

pub exchange-requires-clause-sum : goal.exchange-requires-clause-sum
exchange-requires-clause-sum g c =
    at _ _ (with_sum (blank None) c.counting.result)
    (λ r. CanExchange c.between.result.gone.now c.between.result.more.now c.between.result.is_level r.sum)
    (get-summed _ _ _ _ c.counting.result c.make-top.ensures.records c.set_sum.ensures.records)
    (subst (λ (s : Count). CanExchange c.between.result.gone.now c.between.result.more.now c.between.result.is_level s)
    (sym c.counting.ensures)
    (subst (λ (s : Count). CanExchange s c.between.result.more.now c.between.result.is_level (counting 2 9 1))
    (sym (c.between.ensures.same.0 ∙ c.counting-gone.ensures))
    (subst (λ (s : Count). CanExchange (counting 1 4 0) s c.between.result.is_level (counting 2 9 1))
    (sym (c.between.ensures.same.1 ∙ c.counting-more.ensures))
    (record {
      fits = record { lines = omega arith; characters = omega arith; marks = omega arith };
      counts = record { lines = omega arith; characters = omega arith; marks = omega arith };
      level = λ x. union-empty set.empty;
    }))))

pub size-requires : goal.size-requires
size-requires g c =
    named _ _ _
    (get-updated _ _ _ (λ r. with_sum r (exchanged c.between.result.gone.now c.between.result.more.now r.sum))
    (with_sum (blank None) c.counting.result) c.exchange.ensures.records
    (get-summed _ _ _ _ c.counting.result c.make-top.ensures.records c.set_sum.ensures.records))
