use Rattle.segments.proofs.Common.{sym, ap, ◌∙◌, line_count}
use Rattle.segments.proofs.MarkPlaceLaws.{len-marks}
use Rattle.segments.proofs.rich.RichLine.marks.Goals as goal

pub returns : goal.returns
returns c =
    c.len.ensures ∙ c.self.inside.marks.ok.0 ∙ sym (len-marks c.self.inside.marks.items c.self.invariant.1.rise)
    ∙ ap (λ line. (line_count line).marks) c.self.view_is
