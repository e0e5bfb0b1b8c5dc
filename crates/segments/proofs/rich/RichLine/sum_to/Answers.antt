use Rattle.segments.proofs.Common.{◌∙◌, ap, Count, counting, no_text-plus, plus, with_toggles_of, line_count}
use Rattle.segments.proofs.SumLaws.{counted, sized}
use Rattle.segments.proofs.rich.RichLine.sum_to.Goals as goal

pub returns : goal.returns
returns c =
    c.add_toggles.ensures ∙ ap (with_toggles_of (line_count c.args.self.now)) (c.add_counts.ensures
    ∙ ap (λ (sum : Count). plus sum (counting 1 c.len.result c.len-2.result)) c.requires ∙ no_text-plus _)
    ∙ counted (sized c.self.inside c.self.view_is c.self.invariant.1.rise c.len.ensures
    (c.len-2.ensures ∙ c.self.inside.marks.ok.0))
