use Rattle.segments.proofs.Common.{◌+◌, sym, ap, ◌∙◌, LineContent, tags_before, content}
use Rattle.segments.proofs.PlainLaws.{front-plain}
use Rattle.segments.proofs.line.Line.tags_before.Goals as goal

pub returns-in-Plain : goal.returns-in-Plain
returns-in-Plain c = c.empty.ensures ∙ sym (front-plain (c.args.column + 1) c.in-Plain.field-0)
    ∙ ap (λ (line : LineContent). tags_before c.args.column line.columns) (ap content (sym c.in-Plain.is)
    ∙ c.self.view_is)
