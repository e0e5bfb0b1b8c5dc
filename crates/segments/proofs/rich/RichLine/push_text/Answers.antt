use Rattle.segments.proofs.Common.{arith}
use Rattle.segments.proofs.RichLaws.{as_long, same_text}
use Rattle.segments.proofs.rich.RichLine.push_text.Goals as goal

pub push-requires-clause-within : goal.push-requires-clause-within
push-requires-clause-within c = omega (arith, c.requires.within, as_long c.self.inside c.self.view_is)

pub returns : goal.returns
returns c = rw (same_text c.self.inside c.self.view_is) c.push.ensures
