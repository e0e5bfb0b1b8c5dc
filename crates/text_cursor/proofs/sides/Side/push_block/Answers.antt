use Rattle.text_cursor.proofs.Common.{◌++◌, refl, ap₂, ◌∙◌, Side, turned_if}
use Rattle.text_cursor.proofs.SideLaws.{side-block}
use Rattle.text_cursor.proofs.sides.Side.push_block.Goals as goal

pub returns-clause-items : goal.returns-clause-items
returns-clause-items c =
    let shut = c.shut_all.new.self in
    let now : Side = record { turned = shut.turned; least = shut.least; far = c.push.new.self; near = shut.near } in
    let stays = c.in_ok-shut_all.ensures.stays in
    side-block now shut c.args.block refl c.in_ok-shut_all.ensures.none refl c.in_ok-push.ensures.items
    ∙ ap₂ (λ parts turned. parts ++ turned_if turned c.args.block.parts.items) stays.parts stays.turned
