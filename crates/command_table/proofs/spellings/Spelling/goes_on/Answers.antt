use Rattle.command_table.proofs.Common.{length, ap, arith, spelled}
use Rattle.command_table.proofs.EntryLaws.{begins-too_many}
use Rattle.command_table.proofs.spellings.Spelling.goes_on.Goals as goal

pub returns-in-len1-up : goal.returns-in-len1-up
returns-in-len1-up c = begins-too_many c.args.words.now _ 0 (ap (λ s. length (spelled s)) c.in-First.is)
    (omega (arith, c.in-len1-up.len_at_least))

pub returns-in-len2-up : goal.returns-in-len2-up
returns-in-len2-up c = begins-too_many c.args.words.now _ 1 (ap (λ s. length (spelled s)) c.in-Alone.is)
    (omega (arith, c.in-len2-up.len_at_least))

pub returns-in-len3-up : goal.returns-in-len3-up
returns-in-len3-up c = begins-too_many c.args.words.now _ 2 (ap (λ s. length (spelled s)) c.in-Member.is)
    (omega (arith, c.in-len3-up.len_at_least))
