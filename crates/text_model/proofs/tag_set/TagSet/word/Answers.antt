use Rattle.text_model.proofs.Common.{◌∙◌, ap, in_word}
use Rattle.text_model.proofs.OneWordSteps.{slots_of-word}
use Rattle.text_model.proofs.tag_set.TagSet.word.Goals as goal

pub returns-clause-slots : goal.returns-clause-slots
returns-clause-slots c =
    c.of_bits.ensures.slots ∙ slots_of-word c.self.inside.words c.args.index c.requires
    ∙ ap (in_word c.args.index) c.self.view_is
