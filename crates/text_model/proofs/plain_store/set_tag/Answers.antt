use Rattle.text_model.proofs.Common.{sym, ◌∙◌}
use Rattle.text_model.proofs.PlainLaws.{cell_more, set_slot-on, set_slot-off}
use Rattle.text_model.proofs.plain_store.set_tag.Goals.{then-is_on, else-is_on}
use Rattle.text_model.proofs.plain_store.set_tag.Goals as goal

pub loop-cell-preserved : goal.loop-cell-preserved
loop-cell-preserved c =
    let more = cell_more c.args.slot.0 c.args.is_on c.args.cells.now c.loop-cell.cells c.loop-cell.cell-index
    c.cell-item.result c.if-is_on.cell c.loop-cell-test.true c.loop-cell.invariant c.cell-item.is in
    elim c.if-is_on.branch [
      | then-is_on w ↦ more (w.cell-is ∙ w.with-cell.ensures
          ∙ sym (set_slot-on c.args.slot.0 c.args.is_on _ w.if-is_on.true))
      | else-is_on w ↦ more (w.cell-is ∙ w.without-cell.ensures
          ∙ sym (set_slot-off c.args.slot.0 c.args.is_on _ w.if-is_on.false))
    ]
