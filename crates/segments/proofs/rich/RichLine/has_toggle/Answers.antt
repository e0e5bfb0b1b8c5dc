use Rattle.segments.proofs.Common.{◌∙◌, ap, sym, drop_all, nat_cmp, presence, Toggled, toggles, any_of, ◌≡◌}
use Rattle.segments.proofs.RichLaws.{same_presence}
use Rattle.segments.proofs.SumLaws.{met_slot, passed_slot}
use Rattle.segments.proofs.rich.RichLine.has_toggle.Goals.{After-deref-entry-items}
use Rattle.std.specs.FinSet as set
use Rattle.segments.proofs.rich.RichLine.has_toggle.Goals as goal

pub loop-entry-preserved : goal.loop-entry-preserved
loop-entry-preserved c =
    let slot = c.args.slot.0 in
    c.loop-entry.invariant
    ∙ passed_slot c.deref-entry-items.result.now c.loop-entry.entry-index c.entry-item.result slot
    c.loop-entry-test.true
    (ap (λ (e : Toggled). set.contains e.slots slot) (sym c.entry-item.is) ∙ sym c.has.ensures ∙ c.if-has.false)

-- whether one of the entries has it is what was asked
told : (c : After-deref-entry-items) → set.contains (any_of c.deref-entry-items.result.now) c.args.slot.0
    ≡ set.contains (presence (toggles c.args.self.now.columns)) c.args.slot.0
told c = ap (λ s. set.contains s c.args.slot.0) (ap any_of c.deref-entry-items.ensures.value
    ∙ sym (same_presence c.self.inside c.self.view_is c.self.invariant.0))

pub returns-then-has : goal.returns-then-has
returns-then-has c =
    let slot = c.args.slot.0 in
    sym (c.loop-entry.invariant
    ∙ met_slot c.deref-entry-items.result.now c.loop-entry.entry-index c.entry-item.result slot
    c.loop-entry-test.true
    (ap (λ (e : Toggled). set.contains e.slots slot) (sym c.entry-item.is) ∙ sym c.has.ensures ∙ c.if-has.true))
    ∙ told (goal.at.returns-then-has c).After-deref-entry-items

pub returns : goal.returns
returns c =
    let slot = c.args.slot.0 in
    sym (c.loop-entry.invariant
    ∙ ap (λ es. set.contains (any_of es) slot)
    (drop_all c.loop-entry.entry-index c.deref-entry-items.result.now c.loop-entry-test.false)
    ∙ set.contains-empty nat_cmp slot)
    ∙ told (goal.at.returns c).After-deref-entry-items
