use Rattle.text_cursor.proofs.Common.{◌++◌, ◌∷◌, [], refl, ap, ◌∙◌}
use Rattle.text_cursor.proofs.CursorLaws.{moves-back}
use Rattle.text_cursor.proofs.cursors.Cursor.step_back.Goals as goal

pub returns-clause-moves : goal.returns-clause-moves
returns-clause-moves c = moves-back c.in-Some.part c.requires.cursor (record {
  ahead = c.in-Some.ensures.turned;
  turned = c.in_ok-push.ensures.turned ∙ c.in_ok-make_room.ensures.turned;
})
    c.in-Some.ensures.items
    (c.in_ok-push.ensures.items ∙ ap (λ parts. parts ++ c.in-Some.part ∷ []) c.in_ok-make_room.ensures.parts)
    refl refl refl refl
