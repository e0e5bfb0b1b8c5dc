use Rattle.search_dump.proofs.Common.{part_of, ap, refl, ◌∙◌, change_after}
use Rattle.search_dump.proofs.ChangeLaws.{put-ahead, put-keeps, put-known}
use Rattle.search_dump.proofs.tag_changes.TagChanges.look.Goals as goal

pub returns : goal.returns
returns g c =
    let view = c.args.sight.now.view.now in
    let known = c.change_after.ensures.value
    ∙ ap (change_after (part_of view) c.args.place) c.own_slot.ensures.value in
    record {
      known = put-known c.args.at c.requires.ahead c.requires.row refl known;
      keeps = put-keeps c.args.at c.requires.ahead c.requires.row refl known;
      ahead = put-ahead c.args.at c.requires.ahead c.requires.row refl known;
    }
