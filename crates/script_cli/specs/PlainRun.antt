-- How a run in which allocations may fail relates to the run in which none fails.
use Rattle.std.specs.Prelude.{◌≡◌, ◌≢◌, ℕ, ◌<◌, List, ◌∷◌, ◌++◌, Option, None}
use Rattle.tcl_words.specs.declared.fault.ScriptFault.{ScriptFault}
use Rattle.peers.specs.Laws.{after_all}
use Rattle.peers.specs.Step.{step}
use Rattle.peers.specs.World.{World}
use Rattle.script_cli.specs.Lines.{memory_line, piece}
use Rattle.script_cli.specs.Run.{run_output, refused_count}

-- the plain run: its output, and the number of commands that it refuses
abbrev pub IsPlain : World → List (List (List ℕ)) → Option ScriptFault → List ℕ → ℕ → Type 0
IsPlain world commands fault out refused =
    (out ≡ run_output world commands fault) × (refused ≡ refused_count world commands)

-- the output of the plain run, but more refused commands: each of these prints in the plain run what its refusal prints
abbrev pub IsPlainOutput : World → List (List (List ℕ)) → Option ScriptFault → List ℕ → ℕ → Type 0
IsPlainOutput world commands fault out refused =
    (out ≡ run_output world commands fault) × (refused_count world commands < refused)

-- the output of the plain run up to a command, then the line of a failed allocation, which the plain run doesn't print
-- for that command
abbrev pub IsPlainUpToRefusal : World → List (List (List ℕ)) → List ℕ → Type 0
IsPlainUpToRefusal world commands out =
    (before : List (List (List ℕ))) × (words : List (List ℕ)) × (after : List (List (List ℕ))) × (rest : List ℕ)
    × (commands ≡ before ++ words ∷ after)
    × (out ≡ run_output world before None ++ (memory_line ++ rest))
    × (piece words (step (after_all world before) words).reply ≢ memory_line)
