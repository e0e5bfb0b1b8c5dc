-- What a run writes where its devices tell their bytes: the reader those that it has left, and the writer those that it
-- holds.
use Rattle.std.specs.Prelude.{◌≡◌, ℕ, List, ◌++◌, length, Option, None, Some, is_some, encode_utf8_all, ⊤}
use Rattle.text_model.specs.LimitTable.{LimitTable}
use Rattle.tcl_words.specs.ScriptGrammar.{ReadsScript, ReadsFront}
use Rattle.tcl_words.specs.declared.fault.ScriptFault.{ScriptFault}
use Rattle.script_cli.specs.declared.summary.RunSummary.{RunSummary}
use Rattle.script_cli.specs.Devices.{Appends}
use Rattle.script_cli.specs.PlainRun.{IsPlainUpToRefusal}
use Rattle.script_cli.specs.Run.{no_documents, RunsTo}

-- From old to new the run of a script was written, of which this is the summary.
abbrev pub WritesRunOf : LimitTable → List ℕ → Option (List ℕ) → Option (List ℕ) → RunSummary → Type 0
WritesRunOf limits script old new summary =
    (commands : List (List (List ℕ))) × (fault : Option ScriptFault) × (out : List ℕ)
    × ReadsScript script commands fault × RunsTo (no_documents limits) commands fault out summary.refused
    × Appends old new (encode_utf8_all out)
    × (summary.commands ≡ length commands) × (summary.script_fault ≡ is_some fault)

-- From old to new a front of the run of a script was written.
abbrev pub WritesFrontOf : LimitTable → List ℕ → Option (List ℕ) → Option (List ℕ) → Type 0
WritesFrontOf limits script old new =
    (commands : List (List (List ℕ))) × (fault : Option ScriptFault) × (out : List ℕ) × (refused : ℕ)
    × (front : List ℕ) × (back : List ℕ)
    × ReadsScript script commands fault × RunsTo (no_documents limits) commands fault out refused
    × (encode_utf8_all out ≡ front ++ back) × Appends old new front

-- The same of the commands that are whole in the bytes read, and of a fault that these hold however they go on.
abbrev pub WritesFrontOfRead : LimitTable → List ℕ → Option (List ℕ) → Option (List ℕ) → Option (List ℕ) → Type 0
WritesFrontOfRead limits script None old new = ⊤
WritesFrontOfRead limits script (Some unread) old new =
    (read : List ℕ) × (script ≡ read ++ unread)
    × (commands : List (List (List ℕ))) × (fault : Option ScriptFault) × (out : List ℕ) × (refused : ℕ)
    × (front : List ℕ) × (back : List ℕ)
    × ReadsFront read commands fault × RunsTo (no_documents limits) commands fault out refused
    × (encode_utf8_all out ≡ front ++ back) × Appends old new front

-- These bytes are those of a run of a script in which a failed allocation shows.
abbrev pub WantsMemory : LimitTable → List ℕ → List ℕ → Type 0
WantsMemory limits script bytes =
    (commands : List (List (List ℕ))) × (fault : Option ScriptFault) × (out : List ℕ)
    × ReadsScript script commands fault × IsPlainUpToRefusal (no_documents limits) commands out
    × (bytes ≡ encode_utf8_all out)
