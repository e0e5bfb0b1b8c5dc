use Rattle.segments.proofs.Common.{sym, ap, ◌∙◌, Count, counting, plus, line_count, content}
use Rattle.segments.proofs.PlainLaws.{sum-plain}
use Rattle.segments.proofs.line.Line.add_to.Goals as goal

pub returns-in-Plain : goal.returns-in-Plain
returns-in-Plain c =
    let old : Count = c.args.sum.now in
    c.add_counts.ensures
    ∙ ap (plus old) (ap (λ n. counting 1 n 0) c.len.ensures ∙ sym (sum-plain c.in-Plain.text)
    ∙ ap line_count (ap content (sym c.in-Plain.is) ∙ c.self.view_is))
