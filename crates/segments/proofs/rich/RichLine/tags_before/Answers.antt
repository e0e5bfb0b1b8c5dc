use Rattle.segments.proofs.Common.{◌∙◌, ap, empty-differing, differing, tags_before}
use Rattle.segments.proofs.rich.RichLine.tags_before.Goals as goal

pub returns : goal.returns
returns c =
    let tags = tags_before c.args.column c.args.self.now.columns in
    c.turn_tags_before.ensures ∙ ap (λ s. differing s tags) c.empty-slots.ensures ∙ empty-differing tags
