use Rattle.command_table.proofs.Common.{◌≡◌, drop, map, list_any, texts_of, begins, table, entry_rule}
use Rattle.command_table.proofs.entries.goes_on.Given as goal

abbrev pub invariant-loop-entry : goal.invariant-loop-entry
invariant-loop-entry l =
    list_any (λ entry. begins (texts_of l.words) entry.spelling) table
    ≡ list_any (λ entry. begins (texts_of l.words) entry.spelling) (map entry_rule (drop l.entry-index l.entry-items))
