use Rattle.text_model.proofs.Common.{sym, ap, ◌∙◌, take, take-map, Cell, characters, lines}
use Rattle.text_model.proofs.plain_store.PlainStoreTextStore.line_of.Goals as goal

pub returns : goal.returns
returns c =
    c.count_newlines.ensures
    ∙ ap (λ cells. lines (characters (take c.args.offset cells))) c.deref.ensures.value
    ∙ ap lines (sym (take-map (λ (cell : Cell). cell.character) c.args.offset c.args.self.now.cells.items))
