use Rattle.line_tree.proofs.Common.{◌≡◌, ap, ◌∙◌, Slots, differing, differing-associative, differing-empty}
use Rattle.line_tree.proofs.Common.{differing-self, Count, records, sum_at, slots_behind, SlotsBefore}
use Rattle.line_tree.proofs.RowLaws.{said}
use Rattle.line_tree.proofs.aims.SlotsBeforeAimBack.go_back.Goals as goal

-- what differs twice is as before
differing-twice : (r s : Slots) → differing (differing r s) s ≡ r
differing-twice r s = differing-associative r s s ∙ ap (differing r) (differing-self s) ∙ differing-empty r

pub returns-clause-value : goal.returns-clause-value
returns-clause-value g c = λ a is. let m = records c.args.store.now in let p = c.args.node in
    let parity = (sum_at m p).parity in
    let before = said (slots_behind a) m p c.args.self.now c.requires.named is in
    let now = said (λ (s : Count). differing c.args.self.now.slots s.parity) m p _ c.requires.named
    c.turn_odd_slots.ensures.value in
    let slots = now ∙ ap (λ (b : SlotsBefore). differing b.slots parity) before ∙ differing-twice a.slots parity in
    λ i. record { slots = slots i }
