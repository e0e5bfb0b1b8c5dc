use Rattle.segments.proofs.Common.{sym, ap, ◌∙◌, LineContent, content}
use Rattle.segments.proofs.PlainLaws.{place-none}
use Rattle.std.specs.FinMap as finite
use Rattle.segments.proofs.line.Line.mark_place.Goals as goal

pub returns-in-Plain-clause-value : goal.returns-in-Plain-clause-value
returns-in-Plain-clause-value c = sym (place-none c.args.number.0)
    ∙ ap (λ (line : LineContent). finite.get line.marks c.args.number.0) (ap content (sym c.in-Plain.is)
    ∙ c.self.view_is)
