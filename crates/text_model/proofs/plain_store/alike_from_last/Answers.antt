use Rattle.text_model.proofs.Common.{◌≡◌, take, sym, ap, ◌∙◌, arith, suffix_len, Cell, is_alike, flags}
use Rattle.text_model.proofs.ChangeLaws.{last_more, last_stops}
use Rattle.text_model.proofs.plain_store.alike_from_last.Goals.{then-loop-start-test+else-has-is_on}
use Rattle.text_model.proofs.plain_store.alike_from_last.Goals.{else-loop-start-test}
use Rattle.std.specs.FinSet as set
use Rattle.text_model.proofs.plain_store.alike_from_last.Goals as goal

pub loop-start-preserved : goal.loop-start-preserved
loop-start-preserved c =
    let start = c.loop-start.start in
    let so_far = c.loop-start.invariant in
    let has = c.has.ensures ∙ ap (λ (cell : Cell). set.contains cell.tags c.args.slot.0) (sym c.index-cells-start.is) in
    record {
      within = omega (arith, so_far.within);
      rest = last_more c.args.cells.now c.args.slot.0 start c.args.is_on c.has.result c.index-cells-start.result _
          c.loop-start-test.true so_far.within c.index-cells-start.is has c.if-has-is_on.true so_far.rest;
    }

pub returns : goal.returns
returns c =
    let start = c.loop-start.start in
    let so_far = c.loop-start.invariant in
    elim c.loop-start-test.branch [
      | then-loop-start-test+else-has-is_on w ↦
          let has = w.has.ensures ∙ ap (λ (cell : Cell). set.contains cell.tags c.args.slot.0)
          (sym w.index-cells-start.is) in
          omega (
            arith,
            last_stops c.args.cells.now c.args.slot.0 start c.args.is_on w.has.result
                w.index-cells-start.result _ w.loop-start-test.true so_far.within w.index-cells-start.is has
                w.if-has-is_on.false so_far.rest,
          )
      | else-loop-start-test w ↦
          let none : start ≡ 0 = omega (arith, w.loop-start-test.false) in
          omega (
            arith,
            so_far.rest,
            none,
            ap (λ n. suffix_len (is_alike c.args.is_on) (take n (flags c.args.slot.0 c.args.cells.now))) none,
          )
    ]
