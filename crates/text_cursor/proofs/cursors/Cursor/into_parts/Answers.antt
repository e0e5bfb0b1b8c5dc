use Rattle.text_cursor.proofs.CursorLaws.{made-of, parts-fit, parts-cells}
use Rattle.text_cursor.proofs.cursors.Cursor.into_parts.Goals as goal

pub returns-clause-fit : goal.returns-clause-fit
returns-clause-fit c =
    parts-fit c.empty_into-2.new.parts.items c.requires.cursor
    (made-of c.args.self c.new-parts.result.items c.empty_into.new.parts.items c.reverse.new.self.items
    c.empty_into-2.new.parts.items c.new-parts.ensures.items c.in_ok-empty_into.ensures c.reverse.ensures.items
    c.in_ok-empty_into-2.ensures)

pub returns-clause-cells : goal.returns-clause-cells
returns-clause-cells c = λ old long.
    parts-cells old c.args.self c.empty_into-2.new.parts.items
    (made-of c.args.self c.new-parts.result.items c.empty_into.new.parts.items c.reverse.new.self.items
    c.empty_into-2.new.parts.items c.new-parts.ensures.items c.in_ok-empty_into.ensures c.reverse.ensures.items
    c.in_ok-empty_into-2.ensures)
