use Rattle.segments.proofs.Common.{sym, ap, ◌∙◌, slice_get, marks_at, LineContent, content}
use Rattle.segments.proofs.PlainLaws.{mark_at-none}
use Rattle.segments.proofs.line.Line.mark_at.Goals as goal

pub returns-in-Plain : goal.returns-in-Plain
returns-in-Plain c = sym (mark_at-none c.args.column c.args.index)
    ∙ ap (λ (line : LineContent). slice_get (marks_at c.args.column line.marks) c.args.index)
    (ap content (sym c.in-Plain.is) ∙ c.self.view_is)
