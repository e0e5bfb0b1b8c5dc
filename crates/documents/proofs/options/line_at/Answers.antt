use Rattle.documents.proofs.Common.{arith, length-map, Cell}
use Rattle.text_model.specs.Content.{characters}
use Rattle.documents.proofs.WidgetLaws.{line-short}
use Rattle.documents.proofs.options.line_at.Goals as goal

pub overflow_add-result : goal.overflow_add-result
overflow_add-result g c =
    let cells = (g.S.TextStore.content c.args.store.now).cells in
    let short = line-short (characters cells) c.in_ok-anchor.anchor in
    omega (arith, short, c.line_of.ensures, c.requires.short, length-map cells (λ (cell : Cell). cell.character))
