use Rattle.line_lists.proofs.Common.{sym, ap, ◌∙◌, is_some, has_mark}
use Rattle.line_lists.proofs.ListLaws.{passed-all, passed-more, passed-stops}
use Rattle.line_lists.proofs.line_vec.first_with_mark.Goals as goal

pub loop-index-preserved : goal.loop-index-preserved
loop-index-preserved c =
    let line = c.index-lines-index.result in
    passed-more (has_mark c.args.number.0) c.args.lines.now c.loop-index.index line c.loop-index-test.true
    c.index-lines-index.is (sym (c.is_some.ensures ∙ ap is_some c.mark_place.ensures.value)
    ∙ c.if-is_some.false) c.loop-index.invariant

pub returns-then-is_some : goal.returns-then-is_some
returns-then-is_some c =
    let line = c.index-lines-index.result in
    passed-stops (has_mark c.args.number.0) c.args.lines.now c.loop-index.index line c.loop-index-test.true
    c.index-lines-index.is (sym (c.is_some.ensures ∙ ap is_some c.mark_place.ensures.value)
    ∙ c.if-is_some.true) c.loop-index.invariant

pub returns : goal.returns
returns c = passed-all (has_mark c.args.number.0) c.args.lines.now c.loop-index.index c.loop-index-test.false
    c.loop-index.auto.index-end c.loop-index.invariant
