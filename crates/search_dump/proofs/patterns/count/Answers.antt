use Rattle.search_dump.proofs.Common.{YieldsList-from_chars, count_from_yields_List}
use Rattle.search_dump.proofs.patterns.count.Goals as goal

pub returns : goal.returns
returns c =
    count_from_yields_List c.chars.result c.count.result c.count.ensures.ran
    (YieldsList-from_chars c.args.text.now c.utf8.text cc)
