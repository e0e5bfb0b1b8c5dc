use Rattle.raw_nodes.proofs.UpdateLaws.{named-made, still-made}
use Rattle.text_tests.proofs.nodes.spares_freed.Goals as goal

pub same-requires : goal.same-requires
same-requires g c =
    let first = named-made _ _ _ _ c.make-first.ensures.records in
    record {
      names = (
        still-made _ _ _ _ _ c.make-second.ensures.records first,
        named-made _ _ _ _ c.make-second.ensures.records,
      );
    }
