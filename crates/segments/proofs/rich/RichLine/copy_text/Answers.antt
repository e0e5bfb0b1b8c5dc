use Rattle.segments.proofs.Common.{arith}
use Rattle.segments.proofs.RichLaws.{as_long, same_text}
use Rattle.segments.proofs.rich.RichLine.copy_text.Goals as goal

pub copy-requires-clause-within : goal.copy-requires-clause-within
copy-requires-clause-within c = omega (arith, c.requires.within, as_long c.self.inside c.self.view_is)

pub returns : goal.returns
returns c = rw (same_text c.self.inside c.self.view_is) c.copy.ensures
