use Rattle.command_table.proofs.Common.{◌≡◌, drop, map, find, texts_of, begins, table, entry_rule}
use Rattle.command_table.proofs.entries.find_entry.Given as goal

abbrev pub invariant-loop-entry : goal.invariant-loop-entry
invariant-loop-entry l =
    find (λ entry. begins entry.spelling (texts_of l.words)) table
    ≡ find (λ entry. begins entry.spelling (texts_of l.words)) (map entry_rule (drop l.entry-index l.entry-items))
