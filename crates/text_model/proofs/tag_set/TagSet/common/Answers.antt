use Rattle.text_model.proofs.Common.{arith}
use Rattle.text_model.proofs.TagSteps.{slots_of-common}
use Rattle.text_model.proofs.tag_set.TagSet.common.Goals as goal

pub returns : goal.returns
returns c =
    let seen = c.loop-index.invariant.seen in
    rw (← c.self.view_is, ← c.other.view_is)
    (slots_of-common c.self.inside.words c.other.inside.words c.loop-index.words (λ i below.
    seen i (omega (arith, below, c.loop-index-test.false))))
