use Rattle.text_model.proofs.Common.{take, length-take, arith, length-map, suffix_len-le-length, Cell, is_alike, flags}
use Rattle.text_model.proofs.ChangeLaws.{previous_change_found}
use Rattle.std.specs.FinSet as set
use Rattle.text_model.proofs.plain_store.PlainStoreTextStore.previous_change.Goals as goal

pub overflow_sub-result : goal.overflow_sub-result
overflow_sub-result c =
    let front = take c.args.offset c.deref.result.now in
    omega (
      arith,
      c.alike_from_last.ensures,
      suffix_len-le-length (is_alike c.has-is_on.result) (flags c.args.slot.0 front),
      length-map front (λ (cell : Cell). set.contains cell.tags c.args.slot.0),
      length-take c.args.offset c.deref.result.now,
    )

pub returns-clause-value : goal.returns-clause-value
returns-clause-value c =
    let s = c.args.self.now in
    previous_change_found s.cells.items c.deref.result.now c.args.slot.0 c.args.offset c.has-is_on.result
    c.index.result.now c.alike_from_last.result c.requires.some c.requires.within c.deref.ensures.value
    c.index.ensures c.has-is_on.ensures c.alike_from_last.ensures
