use Rattle.command_table.proofs.Common.{sym, ◌∙◌, arith, length-map, chars, string_bytes, texts_of}
use Rattle.command_table.proofs.EntryLaws.{unknown-short}
use Rattle.command_table.proofs.readings.unknown.Goals as goal

pub returns-in_default : goal.returns-in_default
returns-in_default c =
    let few = c.in_default.len_below in
    let counted = length-map c.args.words.now (λ word. chars (string_bytes word)) in
    sym (unknown-short (texts_of c.args.words.now) (omega (arith, few, counted)) (sym c.goes_on.ensures
    ∙ c.if-goes_on.false))
