use Rattle.segments.proofs.Common.{◌∙◌}
use Rattle.segments.proofs.RichLaws.{as_long}
use Rattle.segments.proofs.rich.RichLine.len.Goals as goal

pub returns : goal.returns
returns c = c.len.ensures ∙ as_long c.self.inside c.self.view_is
