use Rattle.line_tree.proofs.Common.{sym, ap, ◌∙◌, is_some, true, false}
use Rattle.line_tree.proofs.MovingLaws.{alone-here, elsewhere}
use Rattle.line_tree.proofs.moving.other_line.Goals as goal

pub returns-then-is_some : goal.returns-then-is_some
returns-then-is_some c = λ k named.
    alone-here c.args.number.0 c.args.tree.now.lines k c.args.name c.line.result.now c.requires.lines
    (c.line.ensures k named) (ap is_some (sym c.mark_place.ensures.value) ∙ sym c.is_some.ensures ∙ c.if-is_some.true)

pub returns : goal.returns
returns c = λ k named.
    elsewhere c.args.number.0 c.args.tree.now.lines k c.args.name c.line.result.now c.name_of.result c.requires.lines
    (c.line.ensures k named) (ap is_some (sym c.mark_place.ensures.value) ∙ sym c.is_some.ensures ∙ c.if-is_some.false)
    (c.name_of.ensures ∙ c.requires.table.each c.args.number.0)
