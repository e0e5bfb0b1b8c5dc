use Rattle.segments.proofs.Common.{sym, ap, ◌∙◌, slice_get, LineContent, content}
use Rattle.segments.proofs.PlainLaws.{mark-none}
use Rattle.std.specs.FinMap as finite
use Rattle.segments.proofs.line.Line.mark.Goals as goal

pub returns-in-Plain-clause-value : goal.returns-in-Plain-clause-value
returns-in-Plain-clause-value c = sym (mark-none c.args.index)
    ∙ ap (λ (line : LineContent). slice_get (finite.entries line.marks) c.args.index) (ap content (sym c.in-Plain.is)
    ∙ c.self.view_is)
