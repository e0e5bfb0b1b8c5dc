use Rattle.search_dump.proofs.TextLaws.{lower-folds}
use Rattle.search_dump.proofs.patterns.lowered.Goals as goal

pub returns : goal.returns
returns c = lower-folds _ _ c.requires c.make_ascii_lowercase.ensures.bytes
