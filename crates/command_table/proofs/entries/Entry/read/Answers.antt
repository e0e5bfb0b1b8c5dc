use Rattle.command_table.proofs.Common.{drop, sym, ap, ap₂, ◌∙◌, take-map, chars, string_bytes, texts_of, decided}
use Rattle.command_table.proofs.Common.{entry_rule}
use Rattle.command_table.proofs.EntryLaws.{rest_from}
use Rattle.command_table.proofs.entries.Entry.read.Goals as goal

pub returns-in_default-clause-value : goal.returns-in_default-clause-value
returns-in_default-clause-value c =
    let words = c.args.words.now in
    let count = c.count_switches-count in
    c.decide.ensures.value
    ∙ ap₂ (decided (entry_rule c.args.self.now) c.args.position)
    (sym (take-map (λ word. chars (string_bytes word)) count.result words) ∙ count.ensures.front)
    (rest_from words count.result ∙ ap (λ n. drop n (texts_of words)) count.ensures.value)
