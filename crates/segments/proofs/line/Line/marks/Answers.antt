use Rattle.segments.proofs.Common.{sym, ap, ◌∙◌, Count, line_count, content}
use Rattle.segments.proofs.PlainLaws.{sum-plain}
use Rattle.segments.proofs.line.Line.marks.Goals as goal

pub returns-in-Plain : goal.returns-in-Plain
returns-in-Plain c =
    let marks = λ (count : Count). count.marks in
    ap marks (sym (sum-plain c.in-Plain.field-0))
    ∙ ap (λ line. marks (line_count line)) (ap content (sym c.in-Plain.is) ∙ c.self.view_is)
