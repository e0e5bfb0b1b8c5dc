use Rattle.segments.proofs.Common.{◌≡◌, ◌+◌, ◌<◌, length, refl, sym, ap, ◌∙◌, arith, false≢true, on_ok_weaker}
use Rattle.segments.proofs.Common.{booleans_Decides, changed, set_slot, LineContent, with_toggle, toggled_at}
use Rattle.segments.proofs.ChangeLaws.{columns_changed, columns_turned, slots_kept}
use Rattle.segments.proofs.RichLaws.{as_long}
use Rattle.segments.proofs.rich.RichLine.set_toggle.Goals.{After-has_toggle}
use Rattle.std.specs.FinSet as finset
use Rattle.segments.proofs.rich.RichLine.set_toggle.Goals as goal

within : (c : After-has_toggle) → c.args.column < length c.self.inside.text
within c = omega (arith, c.requires.within, as_long c.self.inside c.self.view_is)

-- what was asked is whether the slot is toggled at the column
asked : (c : After-has_toggle) → c.has_toggle.result
    ≡ finset.contains (toggled_at c.self.inside.toggles.items c.args.column) c.args.slot.0
asked c = (rw c.deref.ensures.value at (c.has_toggle.ensures 0 (length c.self.inside.text))) c.self.invariant.0

pub returns-then-has_toggle-is_toggled-clause-columns : goal.returns-then-has_toggle-is_toggled-clause-columns
returns-then-has_toggle-is_toggled-clause-columns c =
    let text = c.self.inside.text in
    let entries = c.self.inside.toggles.items in
    let column = c.args.column in
    let place = (goal.at.returns-then-has_toggle-is_toggled-clause-columns c).After-has_toggle in
    let is = sym (asked place)
    ∙ (booleans_Decides c.has_toggle.result c.args.is_toggled).0 c.if-has_toggle-is_toggled.true in
    ap (λ (line : LineContent). line.columns) (sym c.self.view_is)
    ∙ columns_changed column (set_slot c.args.slot.0 c.args.is_toggled) text entries entries (within place)
    (slots_kept c.args.slot.0 c.args.is_toggled (toggled_at entries column) is) (λ k other. refl)
    ∙ ap (λ (line : LineContent). changed (with_toggle c.args.slot.0 c.args.is_toggled) column (column + 1)
    line.columns) c.self.view_is

pub invariant_of-self : goal.invariant_of-self
invariant_of-self c = (
  c.flip_slot.ensures.lie 0 (length c.self.inside.text) c.self.invariant.0 (omega arith)
      (within (goal.at.invariant_of-self c).After-has_toggle),
  c.self.invariant.1,
)

pub returns-clause-columns : goal.returns-clause-columns
returns-clause-columns c =
    let text = c.self.inside.text in
    let entries = c.self.inside.toggles.items in
    let new = c.flip_slot.new.toggles.items in
    let column = c.args.column in
    let place = (goal.at.returns-clause-columns c).After-has_toggle in
    let other : finset.contains (toggled_at entries column) c.args.slot.0 ≡ c.args.is_toggled → ⊥ =
    λ same. false≢true (sym c.if-has_toggle-is_toggled.false
    ∙ (booleans_Decides c.has_toggle.result c.args.is_toggled).1 (asked place ∙ same)) in
    on_ok_weaker c.flip_slot.result (λ flips.
    columns_turned column c.args.slot.0 c.args.is_toggled (finset.insert finset.empty c.args.slot.0) text new entries
    (within place) refl other flips
    ∙ ap (λ (line : LineContent). changed (with_toggle c.args.slot.0 c.args.is_toggled) column (column + 1)
    line.columns) c.self.view_is) c.flip_slot.ensures.slots
