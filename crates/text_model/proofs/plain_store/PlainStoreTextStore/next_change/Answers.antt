use Rattle.text_model.proofs.Common.{arith, length-map, Cell, flags}
use Rattle.text_model.proofs.ChangeLaws.{next_change_found, next_change-le}
use Rattle.std.specs.FinSet as set
use Rattle.text_model.proofs.plain_store.PlainStoreTextStore.next_change.Goals as goal

pub returns-clause-value : goal.returns-clause-value
returns-clause-value c =
    let s = c.args.self.now in
    next_change_found s.cells.items c.deref.result.now c.args.slot.0 c.args.offset c.has-is_on.result c.index.result.now
    c.alike_from_first.result c.requires.within c.deref.ensures.value c.index.ensures c.has-is_on.ensures
    c.alike_from_first.ensures

pub returns-clause-bound : goal.returns-clause-bound
returns-clause-bound c =
    let cells = c.args.self.now.cells.items in
    let long = length-map cells (λ (cell : Cell). set.contains cell.tags c.args.slot.0) in
    omega (
      arith,
      returns-clause-value c,
      next_change-le (flags c.args.slot.0 cells) c.args.offset (omega (arith, long, c.requires.within)),
      long,
    )

pub overflow_add-result : goal.overflow_add-result
overflow_add-result c = omega (arith, returns-clause-bound c, c.args.self.now.cells.ok.0, c.args.self.now.cells.small)
