use Rattle.text_model.proofs.Common.{ap, ◌∙◌, beginnings}
use Rattle.text_model.proofs.BeginningLaws.{beginnings-chars}
use Rattle.text_model.proofs.beginnings.count_characters.Goals as goal

pub returns : goal.returns
returns c =
    c.count_beginnings.ensures
    ∙ ap beginnings c.as_bytes.ensures.value
    ∙ beginnings-chars c.args.text.now c.utf8.text
