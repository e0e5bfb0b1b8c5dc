use Rattle.peers.proofs.Common.{◌∙◌}
use Rattle.peers.proofs.SwitchLaws.{direction-step}
use Rattle.peers.proofs.queries.direction_of.Goals as goal

pub loop-word-preserved : goal.loop-word-preserved
loop-word-preserved c =
    c.turned-direction.ensures
    ∙ direction-step c.args.words.now c.loop-word.word-index c.word-item.result c.as_str.result.now
    c.loop-word.direction c.loop-word-test.true c.word-item.is c.as_str.ensures.value
    c.loop-word.invariant
