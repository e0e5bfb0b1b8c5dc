use Rattle.line_lists.proofs.Common.{sym, ap, ◌∙◌, Count, has_toggle}
use Rattle.line_lists.proofs.ListLaws.{passed-all, passed-more, passed-stops}
use Rattle.std.specs.FinSet as set
use Rattle.line_lists.proofs.line_vec.first_with.Goals as goal

pub loop-index-preserved : goal.loop-index-preserved
loop-index-preserved c =
    let line = c.index-lines-index.result in
    passed-more (has_toggle c.args.slot.0) c.args.lines.now c.loop-index.index line c.loop-index-test.true
    c.index-lines-index.is (sym (c.has.ensures
    ∙ ap (λ (s : Count). set.contains s.presence c.args.slot.0) c.sum.ensures)
    ∙ c.if-has.false) c.loop-index.invariant

pub returns-then-has : goal.returns-then-has
returns-then-has c =
    let line = c.index-lines-index.result in
    passed-stops (has_toggle c.args.slot.0) c.args.lines.now c.loop-index.index line c.loop-index-test.true
    c.index-lines-index.is (sym (c.has.ensures
    ∙ ap (λ (s : Count). set.contains s.presence c.args.slot.0) c.sum.ensures)
    ∙ c.if-has.true) c.loop-index.invariant

pub returns : goal.returns
returns c = passed-all (has_toggle c.args.slot.0) c.args.lines.now c.loop-index.index c.loop-index-test.false
    c.loop-index.auto.index-end c.loop-index.invariant
