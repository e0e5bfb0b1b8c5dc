use Rattle.segments.proofs.Common.{◌<◌, ◌≤◌, length, sym, ap, subst, ◌∙◌, arith, IfSome, LineContent, previous_toggle}
use Rattle.segments.proofs.NextLaws.{previous_below, previous_column}
use Rattle.segments.proofs.RichLaws.{as_long}
use Rattle.segments.proofs.rich.RichLine.previous_toggle.Goals as goal

pub returns-clause-value : goal.returns-clause-value
returns-clause-value c =
    let text = c.self.inside.text in
    let within : c.args.column ≤ length text =
    omega (arith, c.requires.within, as_long c.self.inside c.self.view_is) in
    (rw c.deref.ensures.value at (c.previous_toggle.ensures 0 (length text))) c.self.invariant.0
    ∙ previous_column c.args.slot.0 c.args.column text c.self.inside.toggles.items c.self.invariant.0 within
    ∙ ap (λ (line : LineContent). previous_toggle c.args.slot.0 c.args.column line.columns) c.self.view_is

pub returns-clause-below : goal.returns-clause-below
returns-clause-below c =
    subst (λ r. IfSome r (λ previous. previous < c.args.column))
    (sym ((rw c.deref.ensures.value at (c.previous_toggle.ensures 0 (length c.self.inside.text)))
    c.self.invariant.0)) (previous_below c.args.slot.0 c.args.column c.self.inside.toggles.items)
