-- How a program ends after a run.
use Rattle.std.specs.Prelude.{ℕ, nat_lt, Result, Ok, Err, List, [], codes, if◌then◌else◌}
use Rattle.script_cli.specs.declared.summary.RunSummary.{RunSummary}
use Rattle.script_cli.specs.declared.summary.RunFault.{RunFault}
use Rattle.script_cli.specs.declared.summary.RunFault.TheVariants.{Read, Write, Memory, Endless}

-- 2 after a script fault or a fault of the run, 1 after a refused command, else 0
abbrev pub status_of : Result RunSummary RunFault → ℕ
status_of (Ok summary) = if summary.script_fault then 2 else (if nat_lt 0 summary.refused then 1 else 0)
status_of (Err fault) = 2

abbrev pub words_for : RunFault → List ℕ
words_for Read = codes "read failed"
words_for Write = codes "write failed"
words_for Memory = codes "out of memory"
words_for Endless = codes "too many reads"

-- what is written on standard error, without its newline
abbrev pub error_words : Result RunSummary RunFault → List ℕ
error_words (Ok summary) = []
error_words (Err fault) = words_for fault
