use Rattle.std.proofs.Common.{arith, refl, sym, subst}
use Rattle.std.specs.Prelude.{None}
use Rattle.raw_nodes.specs.Records.{blank, with_sum}
use Rattle.toggle_sums.specs.Counts.{Count, CountsFit, counting}
use Rattle.text_tests.proofs.EntryLaws.{at, get-made, get-summed, inner, named}
use Rattle.text_tests.proofs.nodes.sums_added.Goals as goal

pub set_sum-requires : goal.set_sum-requires
set_sum-requires g c = inner _ _ (blank None) (get-made _ _ _ _ c.make-top.ensures.records) refl

pub add_sum_to-requires-clause-name : goal.add_sum_to-requires-clause-name
add_sum_to-requires-clause-name g c =
    named _ _ (with_sum (blank None) c.counting.result)
    (get-summed _ _ _ _ c.counting.result c.make-top.ensures.records c.set_sum.ensures.records)

pub add_sum_to-requires-clause-fits : goal.add_sum_to-requires-clause-fits
add_sum_to-requires-clause-fits g c =
    at _ _ (with_sum (blank None) c.counting.result) (λ r. CountsFit c.counting-sum.result r.sum)
    (get-summed _ _ _ _ c.counting.result c.make-top.ensures.records c.set_sum.ensures.records)
    (subst (λ (s : Count). CountsFit c.counting-sum.result s) (sym c.counting.ensures)
    (subst (λ (s : Count). CountsFit s (counting 2 9 1)) (sym c.counting-sum.ensures)
    (record { lines = omega arith; characters = omega arith; marks = omega arith })))
