use Rattle.segments.proofs.Common.{take, sym, ap, ◌∙◌, nat_cmp, parity, LineContent, toggles, content}
use Rattle.segments.proofs.PlainLaws.{front-plain}
use Rattle.std.specs.FinSet as set
use Rattle.segments.proofs.line.Line.is_odd_left_of.Goals as goal

pub returns-in-Plain : goal.returns-in-Plain
returns-in-Plain c =
    let slot = c.args.slot.0 in
    sym (set.contains-empty nat_cmp slot)
    ∙ ap (λ s. set.contains s slot) (sym (front-plain c.args.column c.in-Plain.field-0))
    ∙ ap (λ (line : LineContent). set.contains (parity (toggles (take c.args.column line.columns))) slot)
    (ap content (sym c.in-Plain.is) ∙ c.self.view_is)
