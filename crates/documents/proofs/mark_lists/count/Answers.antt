use Rattle.documents.proofs.Common.{rules, chars_from_encodes}
use Rattle.documents.proofs.mark_lists.count.Goals as goal

pub returns : goal.returns
returns c = search (rules, chars_from_encodes)
