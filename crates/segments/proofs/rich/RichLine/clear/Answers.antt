use Rattle.segments.proofs.Common.{◌≤◌, false, length, ap, ◌∙◌, arith, changed, LineContent, with_toggle}
use Rattle.segments.proofs.ChangeLaws.{columns_cleared}
use Rattle.segments.proofs.RichLaws.{as_long}
use Rattle.segments.proofs.rich.RichLine.clear.Goals as goal

pub returns-clause-columns : goal.returns-clause-columns
returns-clause-columns c =
    let text = c.self.inside.text in
    let within : c.args.to ≤ length text =
    omega (arith, c.requires.within, as_long c.self.inside c.self.view_is) in
    columns_cleared c.args.slot.0 c.args.from c.args.to text c.clear.new.toggles.items c.self.inside.toggles.items
    c.requires.ordered within
    (λ at. c.clear.ensures.slots 0 (length text) at c.self.invariant.0)
    ∙ ap (λ (line : LineContent). changed (with_toggle c.args.slot.0 false) c.args.from c.args.to line.columns)
    c.self.view_is
