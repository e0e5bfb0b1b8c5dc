use Rattle.text_cursor.proofs.Common.{refl, arith, side_parts}
use Rattle.text_cursor.proofs.CursorLaws.{leaps-on, behind-block}
use Rattle.text_cursor.proofs.cursors.Cursor.leap_on.Goals as goal

pub returns-clause-moves : goal.returns-clause-moves
returns-clause-moves c = leaps-on c.in-Some.block c.requires.cursor
    (record { ahead = c.in_ok-push_block.ensures.turned; turned = c.in-Some.ensures.turned }) c.in-Some.ensures.items
    c.in_ok-push_block.ensures.items refl refl refl refl

pub overflow_add-self : goal.overflow_add-self
overflow_add-self c =
    let block = behind-block (side_parts c.pop_block.new.self) c.in-Some.block c.requires.cursor
    c.in-Some.ensures.items in
    let some = block.0 in let within = block.1 in
    omega (arith, within)

pub returns-clause-on : goal.returns-clause-on
returns-clause-on c = λ _.
    let block = behind-block (side_parts c.pop_block.new.self) c.in-Some.block c.requires.cursor
    c.in-Some.ensures.items in
    let some = block.0 in let within = block.1 in
    omega (arith, some)
