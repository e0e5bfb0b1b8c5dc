use Rattle.segments.proofs.Common.{sym}
use Rattle.segments.proofs.RichLaws.{same_text}
use Rattle.segments.proofs.rich.RichLine.into_text.Goals as goal

pub returns : goal.returns
returns c = sym (same_text c.self.inside c.self.view_is)
