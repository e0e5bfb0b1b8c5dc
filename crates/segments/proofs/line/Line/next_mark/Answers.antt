use Rattle.segments.proofs.Common.{sym, ap, ◌∙◌, next_mark, LineContent, content}
use Rattle.segments.proofs.PlainLaws.{next_mark-none}
use Rattle.segments.proofs.line.Line.next_mark.Goals as goal

pub returns-in-Plain-clause-value : goal.returns-in-Plain-clause-value
returns-in-Plain-clause-value c = sym (next_mark-none c.args.column)
    ∙ ap (λ (line : LineContent). next_mark c.args.column line.marks) (ap content (sym c.in-Plain.is) ∙ c.self.view_is)
