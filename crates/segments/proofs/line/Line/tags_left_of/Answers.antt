use Rattle.segments.proofs.Common.{take, sym, ap, ◌∙◌, parity, LineContent, toggles, content}
use Rattle.segments.proofs.PlainLaws.{front-plain}
use Rattle.segments.proofs.line.Line.tags_left_of.Goals as goal

pub returns-in-Plain : goal.returns-in-Plain
returns-in-Plain c = c.empty.ensures ∙ sym (front-plain c.args.column c.in-Plain.field-0)
    ∙ ap (λ (line : LineContent). parity (toggles (take c.args.column line.columns))) (ap content (sym c.in-Plain.is)
    ∙ c.self.view_is)
