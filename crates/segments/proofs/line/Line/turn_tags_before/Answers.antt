use Rattle.segments.proofs.Common.{◌+◌, sym, ap, ◌∙◌, differing, differing-empty, LineContent, tags_before, content}
use Rattle.segments.proofs.PlainLaws.{front-plain}
use Rattle.segments.proofs.line.Line.turn_tags_before.Goals as goal

pub returns-in-Plain : goal.returns-in-Plain
returns-in-Plain c = sym (differing-empty c.args.slots.now)
    ∙ ap (differing c.args.slots.now) (sym (front-plain (c.args.column + 1) c.in-Plain.field-0)
    ∙ ap (λ (line : LineContent). tags_before c.args.column line.columns) (ap content (sym c.in-Plain.is)
    ∙ c.self.view_is))
