use Rattle.segments.proofs.Common.{rules, ◌∙◌, ap, with_toggles_of, line_count}
use Rattle.segments.proofs.SumLaws.{counted_more, fits_more, sized}
use Rattle.segments.proofs.rich.RichLine.add_to.Goals as goal

pub add_counts-requires : goal.add_counts-requires
add_counts-requires c =
    let size = sized c.self.inside c.self.view_is c.self.invariant.1.rise c.len.ensures
    (c.len-2.ensures ∙ c.self.inside.marks.ok.0) in
    (search rules, fits_more size c.args.sum.now c.requires)

pub returns : goal.returns
returns c =
    let size = sized c.self.inside c.self.view_is c.self.invariant.1.rise c.len.ensures
    (c.len-2.ensures ∙ c.self.inside.marks.ok.0) in
    c.add_toggles.ensures ∙ ap (with_toggles_of (line_count c.args.self.now)) c.add_counts.ensures
    ∙ counted_more size c.args.sum.now
