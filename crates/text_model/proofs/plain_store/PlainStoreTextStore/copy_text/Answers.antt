use Rattle.text_model.proofs.Common.{sym, ap, ◌∙◌, ◌-◌, take, drop, chars, chars-nil, take_all, take-map, drop-map}
use Rattle.text_model.proofs.Common.{Cell, characters}
use Rattle.text_model.proofs.plain_store.PlainStoreTextStore.copy_text.Goals as goal

pub loop-cell-init : goal.loop-cell-init
loop-cell-init c = ap chars c.in_ok-text.ensures.bytes ∙ chars-nil

pub returns : goal.returns
returns c =
    let cells = c.args.self.now.cells.items in
    let count = c.args.end - c.args.start in
    let character = λ (cell : Cell). cell.character in
    c.loop-cell.invariant
    ∙ ap characters (take_all c.loop-cell.cell-index _ c.loop-cell-test.false)
    ∙ ap (λ xs. characters (take count (drop c.args.start xs))) c.deref.ensures.value
    ∙ sym (take-map character count (drop c.args.start cells))
    ∙ ap (take count) (sym (drop-map character c.args.start cells))
