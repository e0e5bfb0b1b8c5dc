use Rattle.segments.proofs.Common.{sym, ap, ◌∙◌, previous_mark, LineContent, content}
use Rattle.segments.proofs.PlainLaws.{previous_mark-none}
use Rattle.segments.proofs.line.Line.previous_mark.Goals as goal

pub returns-in-Plain-clause-value : goal.returns-in-Plain-clause-value
returns-in-Plain-clause-value c = sym (previous_mark-none c.args.column)
    ∙ ap (λ (line : LineContent). previous_mark c.args.column line.marks) (ap content (sym c.in-Plain.is)
    ∙ c.self.view_is)
