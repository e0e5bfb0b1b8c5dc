use Rattle.std.proofs.Common.{arith, refl, sym, subst}
use Rattle.std.specs.Prelude.{None}
use Rattle.raw_nodes.specs.Records.{blank, with_sum}
use Rattle.toggle_sums.specs.Counts.{Count, CountsFit, HasCounts, counting, plus, less}
use Rattle.text_tests.proofs.EntryLaws.{at, get-made, get-summed, get-updated, inner, named}
use Rattle.text_tests.proofs.nodes.counts_below.Goals as goal

pub set_sum-requires : goal.set_sum-requires
set_sum-requires g c = inner _ _ (blank None) (get-made _ _ _ _ c.make-top.ensures.records) refl

pub add_sum-requires-clause-name : goal.add_sum-requires-clause-name
add_sum-requires-clause-name g c =
    inner _ _ (with_sum (blank None) c.counting.result)
    (get-summed _ _ _ _ c.counting.result c.make-top.ensures.records c.set_sum.ensures.records) refl

pub add_sum-requires-clause-fits : goal.add_sum-requires-clause-fits
add_sum-requires-clause-fits g c = let more = c.counting-2.result in
    at _ _ (with_sum (blank None) c.counting.result) (λ r. CountsFit r.sum more)
    (get-summed _ _ _ _ c.counting.result c.make-top.ensures.records c.set_sum.ensures.records)
    (subst (λ (s : Count). CountsFit s more) (sym c.counting.ensures)
    (subst (λ (s : Count). CountsFit (counting 2 9 1) s) (sym c.counting-2.ensures)
    (record { lines = omega arith; characters = omega arith; marks = omega arith })))

pub lose_counts-requires-clause-name : goal.lose_counts-requires-clause-name
lose_counts-requires-clause-name g c = let more = c.counting-2.result in
    inner _ _ (with_sum (blank None) (plus c.counting.result more))
    (get-updated _ _ _ (λ r. with_sum r (plus r.sum more)) (with_sum (blank None) c.counting.result)
    c.add_sum.ensures.records
    (get-summed _ _ _ _ c.counting.result c.make-top.ensures.records c.set_sum.ensures.records)) refl

pub lose_counts-requires-clause-counts : goal.lose_counts-requires-clause-counts
lose_counts-requires-clause-counts g c = let more = c.counting-2.result in
    at _ _ (with_sum (blank None) (plus c.counting.result more))
    (λ r. HasCounts (counting 2 9 1) r.sum)
    (get-updated _ _ _ (λ r. with_sum r (plus r.sum more)) (with_sum (blank None) c.counting.result)
    c.add_sum.ensures.records
    (get-summed _ _ _ _ c.counting.result c.make-top.ensures.records c.set_sum.ensures.records))
    (subst (λ (s : Count). HasCounts (counting 2 9 1) (plus s more)) (sym c.counting.ensures)
    (subst (λ (s : Count). HasCounts (counting 2 9 1) (plus (counting 2 9 1) s)) (sym c.counting-2.ensures)
    (record { lines = omega arith; characters = omega arith; marks = omega arith })))

pub size-requires : goal.size-requires
size-requires g c = let more = c.counting-2.result in
    named _ _ _
    (get-updated _ _ _ (λ r. with_sum r (less 2 9 1 r.sum)) _ c.lose_counts.ensures.records
    (get-updated _ _ _ (λ r. with_sum r (plus r.sum more)) (with_sum (blank None) c.counting.result)
    c.add_sum.ensures.records
    (get-summed _ _ _ _ c.counting.result c.make-top.ensures.records c.set_sum.ensures.records)))
