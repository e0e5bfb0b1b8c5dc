use Rattle.command_table.proofs.Common.{ap, ◌∙◌, reading}
use Rattle.command_table.proofs.EntryLaws.{first_and_rest, found-behind}
use Rattle.command_table.proofs.readings.shape.Goals as goal

pub returns-in-Some-clause-value : goal.returns-in-Some-clause-value
returns-in-Some-clause-value c =
    c.read.ensures.value ∙ found-behind c.in-Some.entry.now _ c.len-count.result c.len-count.ensures
    ∙ c.in-Some.ensures.value
    ∙ ap reading (first_and_rest c.args.words.now c.name-item.result _ c.in-len1-up.len_at_least c.name-item.is
    c.as_str.ensures.value)
