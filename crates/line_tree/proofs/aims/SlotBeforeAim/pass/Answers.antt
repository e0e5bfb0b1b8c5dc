use Rattle.line_tree.proofs.Common.{refl, entry}
use Rattle.line_tree.proofs.SlotLaws.{passed-slot}
use Rattle.line_tree.proofs.aims.SlotBeforeAim.pass.Goals as goal

pub returns-clause-value : goal.returns-clause-value
returns-clause-value g c =
    passed-slot (entry c.args.store.now c.args.node) c.args.self.now _ c.is_odd.result refl refl c.is_odd.ensures.value
