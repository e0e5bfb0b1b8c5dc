-- What a whole script prints.
use Rattle.std.specs.Prelude.{◌≡◌, ℕ, ◌+◌, ◌⊎◌, Bool, true, false, ◌||◌, List, [], ◌∷◌, ◌++◌, length, Option, None}
use Rattle.std.specs.Prelude.{Some, is_some, is_err, encode_utf8_all, Err, if◌then◌else◌}
use Rattle.text_model.specs.LimitTable.{LimitTable}
use Rattle.tcl_words.specs.ScriptGrammar.{ReadsScript, ReadsFront}
use Rattle.tcl_words.specs.declared.fault.ScriptFault.{ScriptFault}
use Rattle.command_effects.specs.declared.answers.Fault.TheVariants.{Memory}
use Rattle.peers.specs.World.{World}
use Rattle.peers.specs.Step.{step}
use Rattle.script_cli.specs.declared.summary.RunSummary.{RunSummary}
use Rattle.script_cli.specs.Devices.{ReadLog, WriteLog, HandsOut, Takes}
use Rattle.script_cli.specs.Lines.{piece, error_line, script_fault_text}

-- the world before the first command
abbrev pub no_documents : LimitTable → World
no_documents limits = record { limits = limits; documents = [] }

-- the piece of a script fault, where there is one
abbrev pub last_piece : Option ScriptFault → List ℕ
last_piece None = []
last_piece (Some fault) = error_line (script_fault_text fault)

-- what a script prints where no memory is refused: the answers and the faults of its commands, and its own fault
abbrev pub run_output : World → List (List (List ℕ)) → Option ScriptFault → List ℕ
run_output world [] fault = last_piece fault
run_output world (words ∷ commands) fault =
    piece words (step world words).reply ++ run_output (step world words).world commands fault

-- how many of the commands are refused where no memory is
abbrev pub refused_count : World → List (List (List ℕ)) → ℕ
refused_count world [] = 0
refused_count world (words ∷ commands) =
    (if is_err (step world words).reply then 1 else 0) + refused_count (step world words).world commands

-- What a script may print where any command may be refused for memory, which leaves the world as it was; and how
-- many of its commands are refused.
abbrev pub RunsTo : World → List (List (List ℕ)) → Option ScriptFault → List ℕ → ℕ → Type 0
RunsTo world [] fault out refused = (out ≡ last_piece fault) × (refused ≡ 0)
RunsTo world (words ∷ commands) fault out refused =
    ((rest : List ℕ) × (others : ℕ) × (out ≡ piece words (step world words).reply ++ rest)
    × (refused ≡ (if is_err (step world words).reply then 1 else 0) + others)
    × RunsTo (step world words).world commands fault rest others)
    ⊎ ((rest : List ℕ) × (others : ℕ) × (out ≡ piece words (Err Memory) ++ rest)
    × (refused ≡ 1 + others) × RunsTo world commands fault rest others)

-- These commands stand in the bytes that were read, and then perhaps a fault: all those of the script where its end was
-- met, and else those that are whole, with a fault that the bytes hold however they go on.
abbrev pub Holds : Bool → List ℕ → List (List (List ℕ)) → Option ScriptFault → Type 0
Holds true read commands fault = ReadsScript read commands fault
Holds false read commands fault = ReadsFront read commands fault

-- From old to new the reader handed out bytes, and the writer took the whole run of these, up to the script's end or
-- its fault; this is its summary.
abbrev pub WritesRun : LimitTable → ReadLog → ReadLog → WriteLog → WriteLog → RunSummary → Type 0
WritesRun limits source_old source_new sink_old sink_new summary =
    (read : List ℕ) × (ended : Bool) × (commands : List (List (List ℕ))) × (fault : Option ScriptFault) × (out : List ℕ)
    × HandsOut source_old source_new read ended × Holds ended read commands fault × ((ended || is_some fault) ≡ true)
    × RunsTo (no_documents limits) commands fault out summary.refused × Takes sink_old sink_new (encode_utf8_all out)
    × (summary.commands ≡ length commands) × (summary.script_fault ≡ is_some fault)

-- From old to new the reader handed out bytes, and the writer took a front of the run of these.
abbrev pub WritesFront : LimitTable → ReadLog → ReadLog → WriteLog → WriteLog → Type 0
WritesFront limits source_old source_new sink_old sink_new =
    (read : List ℕ) × (ended : Bool) × (commands : List (List (List ℕ))) × (fault : Option ScriptFault) × (out : List ℕ)
    × (refused : ℕ) × (front : List ℕ) × (back : List ℕ)
    × HandsOut source_old source_new read ended × Holds ended read commands fault
    × RunsTo (no_documents limits) commands fault out refused × (encode_utf8_all out ≡ front ++ back)
    × Takes sink_old sink_new front
