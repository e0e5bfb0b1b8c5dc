use Rattle.text_cursor.proofs.Common.{◌+◌, ◌++◌, ◌∷◌, [], refl, ap, ◌∙◌, Part, side_parts}
use Rattle.text_cursor.proofs.CursorLaws.{moves-over, moves-in}
use Rattle.text_cursor.proofs.cursors.Cursor.step_on.Goals as goal

pub returns-then-count-most-clause-moves : goal.returns-then-count-most-clause-moves
returns-then-count-most-clause-moves c =
    moves-over c.in-Some.part c.requires.cursor (record {
      ahead = c.in_ok-push.ensures.turned ∙ c.in_ok-make_room.ensures.turned;
      turned = c.in-Some.ensures.turned;
    })
    c.in-Some.ensures.items
    (c.in_ok-push.ensures.items ∙ ap (λ parts. parts ++ c.in-Some.part ∷ []) c.in_ok-make_room.ensures.parts)
    refl refl refl refl

pub returns-clause-moves : goal.returns-clause-moves
returns-clause-moves c =
    let first : Part = record c.in-Some.part { to = c.in-Some.part.from + c.args.most } in
    moves-in c.in-Some.part (side_parts c.pop.new.self) c.args.most c.requires.cursor (record {
      ahead = c.in_ok-push-3.ensures.turned ∙ c.in_ok-make_room.ensures.turned;
      turned = c.in_ok-push-2.ensures.turned ∙ c.in-Some.ensures.turned;
    })
    c.in-Some.ensures.items
    c.requires.some c.if-count-most.false
    c.in_ok-push-2.ensures.items
    (c.in_ok-push-3.ensures.items ∙ ap (λ parts. parts ++ first ∷ []) c.in_ok-make_room.ensures.parts)
    refl refl refl refl
