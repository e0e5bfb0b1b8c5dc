use Rattle.segments.proofs.Common.{◌≤◌, length, sym, ap, ◌∙◌, arith, LineContent, previous_toggle, content}
use Rattle.segments.proofs.PlainLaws.{length-plain, previous-plain}
use Rattle.segments.proofs.line.Line.previous_toggle.Goals as goal

pub returns-in-Plain-clause-value : goal.returns-in-Plain-clause-value
returns-in-Plain-clause-value c =
    let text = c.in-Plain.field-0 in let now = ap content (sym c.in-Plain.is) ∙ c.self.view_is in
    let within : c.args.column ≤ length text = omega (
      arith,
      c.requires.within,
      ap (λ (line : LineContent). length line.columns) now,
      length-plain text,
    ) in
    sym (previous-plain c.args.slot.0 c.args.column text within)
    ∙ ap (λ (line : LineContent). previous_toggle c.args.slot.0 c.args.column line.columns) now
