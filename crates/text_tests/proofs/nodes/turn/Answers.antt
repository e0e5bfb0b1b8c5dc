use Rattle.std.proofs.Common.{sym}
use Rattle.raw_nodes.proofs.UpdateLaws.{fresh-other, named-made, still-given, still-made}
use Rattle.text_tests.proofs.nodes.turn.Goals as goal

pub give_back-requires : goal.give_back-requires
give_back-requires c =
    still-made _ _ _ _ _ c.make-second.ensures.records (named-made _ _ _ _ c.make-first.ensures.records)

pub give_back-requires-2 : goal.give_back-requires-2
give_back-requires-2 c =
    let first = named-made _ _ _ _ c.make-first.ensures.records in
    let other = fresh-other _ _ _ c.make-second.ensures.fresh first in
    still-given _ _ _ _ c.give_back.ensures.records (λ e. other (sym e))
    (named-made _ _ _ _ c.make-second.ensures.records)
