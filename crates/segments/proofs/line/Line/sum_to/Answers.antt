use Rattle.segments.proofs.Common.{sym, ap, ◌∙◌, Count, counting, no_text-plus, plus, line_count, content}
use Rattle.segments.proofs.PlainLaws.{sum-plain}
use Rattle.segments.proofs.line.Line.sum_to.Goals as goal

pub returns-in-Plain : goal.returns-in-Plain
returns-in-Plain c = c.add_counts.ensures ∙ ap (λ (sum : Count). plus sum (counting 1 c.len.result 0)) c.requires ∙ no_text-plus _
    ∙ ap (λ n. counting 1 n 0) c.len.ensures ∙ sym (sum-plain c.in-Plain.text)
    ∙ ap line_count (ap content (sym c.in-Plain.is) ∙ c.self.view_is)
