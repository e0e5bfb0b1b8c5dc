use Rattle.text_index.proofs.Common.{flags}
use Rattle.text_index.proofs.FlagLaws.{part-flag}
use Rattle.text_index.proofs.ranges.is_tagged.Goals as goal

pub returns : goal.returns
returns g c =
    let view = c.args.view.now in
    part-flag (flags c.args.slot.0 (g.S.TextStore.content view.store.now).cells) view.start view.end c.args.place
    c.has_tag.result c.requires.within c.has_tag.ensures
