use Rattle.segments.proofs.Common.{◌+◌, take, sym, ap, ◌∙◌, LineContent, parity, tags_before, toggles, content}
use Rattle.segments.proofs.PlainLaws.{front-plain}
use Rattle.segments.proofs.line.Line.is_toggled.Goals as goal

pub returns-in-Plain : goal.returns-in-Plain
returns-in-Plain c = λ none.
    let seen = ap content (sym c.in-Plain.is) ∙ c.self.view_is in
    sym (ap (λ (line : LineContent). tags_before c.args.column line.columns) seen)
    ∙ front-plain (c.args.column + 1) c.in-Plain.field-0 ∙ sym (front-plain c.args.column c.in-Plain.field-0)
    ∙ ap (λ (line : LineContent). parity (toggles (take c.args.column line.columns))) seen
