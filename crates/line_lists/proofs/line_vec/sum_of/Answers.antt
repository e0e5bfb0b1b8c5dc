use Rattle.line_lists.proofs.Common.{subst₂, sym, ap₂, ◌∙◌, arith, CountsFit, plus}
use Rattle.line_lists.proofs.ListLaws.{sum-fits, sum-more}
use Rattle.line_lists.proofs.line_vec.sum_of.Goals as goal

pub plus-sums-requires : goal.plus-sums-requires
plus-sums-requires c =
    let fits = sum-fits c.args.lines.now c.loop-line.line-index c.line-item.result c.loop-line-test.true c.line-item.is
    c.requires in
    (omega arith, subst₂ CountsFit (sym c.loop-line.invariant) (sym c.sum.ensures) fits)

pub loop-line-preserved : goal.loop-line-preserved
loop-line-preserved c =
    c.plus-sums.ensures ∙ ap₂ plus c.loop-line.invariant c.sum.ensures
    ∙ sum-more c.args.lines.now c.loop-line.line-index c.line-item.result c.loop-line-test.true c.line-item.is
