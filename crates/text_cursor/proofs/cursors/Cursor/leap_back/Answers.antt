use Rattle.text_cursor.proofs.Common.{refl, arith, side_parts}
use Rattle.text_cursor.proofs.CursorLaws.{leaps-back, front-block}
use Rattle.text_cursor.proofs.cursors.Cursor.leap_back.Goals as goal

pub returns-clause-moves : goal.returns-clause-moves
returns-clause-moves c = leaps-back c.in-Some.block c.requires.cursor
    (record { ahead = c.in-Some.ensures.turned; turned = c.in_ok-push_block.ensures.turned }) c.in-Some.ensures.items
    c.in_ok-push_block.ensures.items refl refl refl refl

pub returns-clause-back : goal.returns-clause-back
returns-clause-back c = λ _.
    let block = front-block (side_parts c.pop_block.new.self) c.in-Some.block c.requires.cursor
    c.in-Some.ensures.items in
    let some = block.0 in let within = block.1 in
    omega (arith, some, within)
