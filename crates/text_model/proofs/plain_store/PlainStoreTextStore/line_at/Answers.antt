use Rattle.text_model.proofs.Common.{◌+◌, sym, ap, ◌∙◌, take, take-map, Cell, characters, line_start, lines}
use Rattle.text_model.proofs.plain_store.PlainStoreTextStore.line_at.Goals as goal

pub returns : goal.returns
returns c =
    let number = c.count_newlines-number.result in
    record {
      number = c.count_newlines-number.ensures
          ∙ ap (λ cells. lines (characters (take c.args.offset cells))) c.deref.ensures.value
          ∙ ap lines (sym (take-map (λ (cell : Cell). cell.character) c.args.offset c.args.self.now.cells.items));
      start = c.find_line.ensures.value ∙ ap (λ cells. line_start number (characters cells)) c.deref-2.ensures.value;
      end = c.find_line-2.ensures.value
          ∙ ap (λ cells. line_start (number + 1) (characters cells)) c.deref-3.ensures.value;
    }
