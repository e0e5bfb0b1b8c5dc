use Rattle.segments.proofs.Common.{◌≡◌, ◌*◌, ◌&&◌, nat_le, nat_lt, true, false, Bool, sym, ap, ◌∙◌, rules, WORDS}
use Rattle.segments.proofs.Common.{toggled_at, ℕ, refl, nat_tests, arith, Slots, if◌then◌else◌}
use Rattle.segments.proofs.ToggleLaws.{cleared_none, lies_cleared, slots_stay_cleared}
use Rattle.std.specs.FinSet as set
use Rattle.segments.proofs.toggles.clear.Goals as goal

-- where nothing is toggled, nothing is taken away
stays : (test : Bool) (slot : ℕ) (slots : Slots) → (test ≡ true → slots ≡ set.empty) →
    slots ≡ (if test then set.remove slots slot else slots)
stays true slot slots none = none refl ∙ sym (cleared_none slot 0 1 0) ∙ ap (λ s. set.remove s slot) (sym (none refl))
stays false slot slots none = refl

pub returns-then-is_toggled-clause-lie : goal.returns-then-is_toggled-clause-lie
returns-then-is_toggled-clause-lie c = λ low high lie.
    lies_cleared _ _ c.args.slot.0 c.args.from c.args.to (λ x b t y k. (search rules, search rules)) (WORDS * low)
    (WORDS * high) _ _ c.retain_mut.ensures.filtered lie

pub returns-then-is_toggled-clause-slots : goal.returns-then-is_toggled-clause-slots
returns-then-is_toggled-clause-slots c = λ low high at lie.
    slots_stay_cleared _ _ c.args.slot.0 c.args.from c.args.to (λ x b t y k. (search rules, search rules)) _ _ at
    c.retain_mut.ensures.filtered

pub returns-else-is_toggled-clause-slots : goal.returns-else-is_toggled-clause-slots
returns-else-is_toggled-clause-slots c = λ low high at lie.
    let slots = toggled_at c.args.toggles.now.items at in
    let slot = c.args.slot.0 in
    let free : nat_le c.args.from at && nat_lt at c.args.to ≡ true → slots ≡ set.empty = λ inside.
    (rw c.deref.ensures.value at (c.is_toggled.ensures c.if-is_toggled.false low high at)) lie
    (grind (arith, nat_tests)) (grind (arith, nat_tests)) in
    stays (nat_le c.args.from at && nat_lt at c.args.to) slot slots free
