use Rattle.raw_nodes.proofs.UpdateLaws.{named-made, still-made}
use Rattle.text_tests.proofs.nodes.two_names.Goals as goal

pub same-requires : goal.same-requires
same-requires g c =
    let first = named-made _ _ _ _ c.make-first.ensures.records in
    record {
      names = (
        still-made _ _ _ _ _ c.make-second.ensures.records first,
        named-made _ _ _ _ c.make-second.ensures.records,
      );
    }

pub same-requires-2 : goal.same-requires-2
same-requires-2 g c = let second = named-made _ _ _ _ c.make-second.ensures.records in
    record { names = (second, second) }
