use Rattle.raw_nodes.proofs.UpdateLaws.{named-made, still-made}
use Rattle.text_tests.proofs.nodes.after_a_refusal.Goals as goal

pub same-requires : goal.same-requires
same-requires g c =
    let name = still-made _ _ _ _ _ c.make.ensures.records (named-made _ _ _ _ c.make-name.ensures.records) in
    record { names = (name, name) }
