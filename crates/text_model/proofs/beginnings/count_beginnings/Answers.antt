use Rattle.text_model.proofs.Common.{◌+◌, sym, ap, ap₂, ◌∙◌, arith, take_rest, beginnings}
use Rattle.text_model.proofs.BeginningLaws.{fewer_beginnings, more_beginnings, rest_beginnings}
use Rattle.text_model.proofs.beginnings.count_beginnings.Goals as goal

pub overflow_add-count : goal.overflow_add-count
overflow_add-count c =
    omega (
      arith,
      c.loop-start.invariant,
      c.loop-start-test.true,
      c.count_in_block-count.ensures,
      fewer_beginnings c.args.bytes.now c.loop-start.start 32,
    )

pub loop-start-preserved : goal.loop-start-preserved
loop-start-preserved c =
    record {
      within = omega (arith, c.loop-start.invariant.within, c.loop-start-test.true);
      count = ap₂ (λ a b. a + b) c.loop-start.invariant.count c.count_in_block-count.ensures
          ∙ sym (more_beginnings c.args.bytes.now c.loop-start.start 32);
    }

pub returns : goal.returns
returns c =
    let bytes = c.args.bytes.now in
    let start = c.loop-start.start in
    ap₂ (λ a b. a + b) c.loop-start.invariant.count (c.count_each.ensures ∙ ap beginnings (take_rest bytes start))
    ∙ rest_beginnings bytes start
