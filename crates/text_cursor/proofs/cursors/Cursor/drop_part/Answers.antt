use Rattle.text_cursor.proofs.Common.{refl, ◌∙◌, side_parts}
use Rattle.text_cursor.proofs.CursorLaws.{takes-part, takes-some}
use Rattle.text_cursor.proofs.cursors.Cursor.drop_part.Goals as goal

pub returns-then-count-most-clause-takes : goal.returns-then-count-most-clause-takes
returns-then-count-most-clause-takes c =
    takes-part c.in-Some.part c.requires.cursor (record { ahead = refl; turned = c.in-Some.ensures.turned })
    c.in-Some.ensures.items refl refl refl refl refl

pub returns-clause-takes : goal.returns-clause-takes
returns-clause-takes c =
    takes-some c.in-Some.part (side_parts c.pop.new.self) c.args.most c.requires.cursor
    (record { ahead = refl; turned = c.in_ok-push.ensures.turned ∙ c.in-Some.ensures.turned })
    c.in-Some.ensures.items c.if-count-most.false c.in_ok-push.ensures.items refl refl refl refl refl
