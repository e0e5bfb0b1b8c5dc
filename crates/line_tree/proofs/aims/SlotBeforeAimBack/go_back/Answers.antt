use Rattle.line_tree.proofs.Common.{refl, Count, records, sum_at, slot_behind}
use Rattle.line_tree.proofs.RowLaws.{said}
use Rattle.line_tree.proofs.SlotLaws.{back-slot}
use Rattle.std.specs.FinSet as set
use Rattle.line_tree.proofs.aims.SlotBeforeAimBack.go_back.Goals as goal

pub returns-clause-value : goal.returns-clause-value
returns-clause-value g c = λ a is. let m = records c.args.store.now in let p = c.args.node in
    back-slot a c.args.self.now _ (sum_at m p) c.is_odd.result refl refl
    (said (slot_behind a) m p c.args.self.now c.requires.named is)
    (said (λ (s : Count). set.contains s.parity c.args.self.now.slot.0) m p _ c.requires.named c.is_odd.ensures.value)
