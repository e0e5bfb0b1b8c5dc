use Rattle.command_table.proofs.Common.{arith}
use Rattle.command_table.proofs.PlaceLaws.{by_first, by_second}
use Rattle.command_table.proofs.entries.place_of.Goals as goal

pub returns-in-len1 : goal.returns-in-len1
returns-in-len1 c =
    by_first _ c.args.words.now c.word-item.result _ (omega (arith, c.in-len1.len_at_least)) c.word-item.is
    c.as_bytes.ensures.value c.place_alone.ensures

pub returns-in-len2-up : goal.returns-in-len2-up
returns-in-len2-up c =
    by_second _ c.args.words.now c.first-item.result c.second-item.result _ _ (omega (arith, c.in-len2-up.len_at_least))
    c.first-item.is c.second-item.is c.as_bytes-in-len2-up.ensures.value c.as_bytes-in-len2-up-2.ensures.value
    c.place_of_pair.ensures
