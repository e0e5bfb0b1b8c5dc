use Rattle.std.proofs.Common.{sym}
use Rattle.raw_nodes.proofs.UpdateLaws.{fresh-other, named-made, still-given, still-made}
use Rattle.text_tests.proofs.EntryLaws.{still-same}
use Rattle.text_tests.proofs.nodes.turn_and_free.Goals as goal

pub give_back-requires : goal.give_back-requires
give_back-requires c =
    still-made _ _ _ _ _ c.make-third.ensures.records (named-made _ _ _ _ c.make-second.ensures.records)

pub give_back-requires-2 : goal.give_back-requires-2
give_back-requires-2 c =
    let second = named-made _ _ _ _ c.make-second.ensures.records in
    let other = fresh-other _ _ _ c.make-third.ensures.fresh second in
    still-same _ _ _ c.free_spares.ensures.records
    (still-given _ _ _ _ c.give_back.ensures.records (λ e. other (sym e))
    (named-made _ _ _ _ c.make-third.ensures.records))

pub give_back-requires-3 : goal.give_back-requires-3
give_back-requires-3 c =
    let first = named-made _ _ _ _ c.make-first.ensures.records in
    let later = still-made _ _ _ _ _ c.make-second.ensures.records first in
    still-given _ _ _ _ c.give_back-3.ensures.records (fresh-other _ _ _ c.make-third.ensures.fresh later)
    (still-same _ _ _ c.free_spares.ensures.records
    (still-given _ _ _ _ c.give_back.ensures.records (fresh-other _ _ _ c.make-second.ensures.fresh first)
    (still-made _ _ _ _ _ c.make-third.ensures.records later)))
