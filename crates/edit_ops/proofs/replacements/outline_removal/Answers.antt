use Rattle.edit_ops.proofs.Common.{◌-◌, length, ap, ◌∙◌, arith, characters, length-characters, next_line-drawn}
use Rattle.edit_ops.proofs.RemovalLaws.{none-cells, none-out, none-stand, stand-out, taken-out}
use Rattle.edit_ops.proofs.replacements.outline_removal.Goals as goal

pub overflow_sub-next-2 : goal.overflow_sub-next-2
overflow_sub-next-2 g c =
    let cells = (g.S.TextStore.content c.args.text.now.store).cells in
    let long = length-characters cells in
    let drawn = next_line-drawn (characters cells) c.args.span.from c.args.span.to c.requires.ordered
    (omega (arith, long, c.requires.within)) in
    omega (arith, drawn.0, c.line_behind.ensures)

pub returns-clause-stand : goal.returns-clause-stand
returns-clause-stand g c =
    let cells = (g.S.TextStore.content c.args.text.now.store).cells in
    let long = length-characters cells in
    let drawn = next_line-drawn (characters cells) c.args.span.from c.args.span.to c.requires.ordered
    (omega (arith, long, c.requires.within)) in
    stand-out c.in_ok-taken.taken c.line_at.result (c.line_behind.result - (c.args.span.to - c.args.span.from)) c.args.span.from
    c.args.span.to c.in_ok-outline.ensures c.in_ok-remove.ensures (characters cells) (length cells) c.requires.stand long
    c.requires.ordered (omega (arith, c.requires.within)) c.line_at.ensures
    (ap (λ n. n - (c.args.span.to - c.args.span.from)) c.line_behind.ensures ∙ drawn.1)

pub returns-clause-makes : goal.returns-clause-makes
returns-clause-makes g c =
    let content = g.S.TextStore.content c.args.text.now.store in
    let long = length-characters content.cells in
    let drawn = next_line-drawn (characters content.cells) c.args.span.from c.args.span.to c.requires.ordered
    (omega (arith, long, c.requires.within)) in
    taken-out c.in_ok-taken.taken c.line_at.result (c.line_behind.result - (c.args.span.to - c.args.span.from)) c.args.span.from
    c.args.span.to c.in_ok-outline.ensures c.in_ok-remove.ensures c.args.rules.now.recording.undo content
    (omega (arith, c.requires.ordered, c.if-from-to.false)) c.in_ok-taken.ensures c.line_at.ensures
    (ap (λ n. n - (c.args.span.to - c.args.span.from)) c.line_behind.ensures ∙ drawn.1)

pub returns-then-from-to-clause-stand : goal.returns-then-from-to-clause-stand
returns-then-from-to-clause-stand g c =
    none-stand c.in_ok-outline.ensures c.if-from-to.true (length (g.S.TextStore.content c.args.text.now.store).cells)
    c.requires.stand

pub returns-then-from-to-clause-cells : goal.returns-then-from-to-clause-cells
returns-then-from-to-clause-cells g c =
    none-cells c.in_ok-outline.ensures c.if-from-to.true (g.S.TextStore.content c.args.text.now.store)

pub returns-then-from-to-clause-makes : goal.returns-then-from-to-clause-makes
returns-then-from-to-clause-makes g c = λ recording kind log _.
    none-out c.in_ok-outline.ensures c.if-from-to.true (g.S.TextStore.content c.args.text.now.store) recording kind log
