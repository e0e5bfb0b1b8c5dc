use Rattle.edit_ops.proofs.Common.{ap, ◌∙◌, arith, length-map, Cell, characters, line_start, line-before}
use Rattle.edit_ops.proofs.SpotLaws.{start-at}
use Rattle.edit_ops.proofs.spot_walks.SpotWalk.to.Goals as goal

pub along-requires-2-clause-stands : goal.along-requires-2-clause-stands
along-requires-2-clause-stands g c =
    let line = c.line_at-line.result in let is = c.line_at-line.ensures in
    start-at (characters (g.S.TextStore.content c.args.store.now).cells) c.args.offset line.number line.start _
    c.start_of.ensures is.number is.start

pub along-requires-2-clause-ordered : goal.along-requires-2-clause-ordered
along-requires-2-clause-ordered g c =
    let cells = (g.S.TextStore.content c.args.store.now).cells in
    let text = characters cells in
    let is = c.line_at-line.ensures in
    let start = is.start ∙ ap (λ n. line_start n text) is.number in
    omega (
      arith,
      start,
      line-before text c.args.offset
          (omega (arith, length-map cells (λ (cell : Cell). cell.character), c.requires.within)),
    )
