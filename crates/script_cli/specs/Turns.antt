-- What one turn of a run meets: a command, a script fault, or that no command is at hand.
use Rattle.std.specs.Prelude.{◌≡◌, ℕ, ◌<◌, Bool, true, false, ◌⊎◌, List, [], ◌++◌, length, Some, is_err, Err}
use Rattle.tcl_words.specs.Unread.{IsNextCommand, HasNoCommand, HasFault}
use Rattle.tcl_words.specs.declared.fault.ScriptFault.{ScriptFault}
use Rattle.command_effects.specs.declared.answers.Fault.TheVariants.{Memory}
use Rattle.peers.specs.World.{World}
use Rattle.peers.specs.Step.{step}
use Rattle.script_cli.specs.declared.turns.Met.{Met}
use Rattle.script_cli.specs.declared.turns.Met.TheVariants.{Answer, Refusal, Fault, End}
use Rattle.script_cli.specs.Lines.{piece}
use Rattle.script_cli.specs.Run.{last_piece}

-- from old to new a command is carried out, or refused for memory, and this is printed
abbrev pub Replies : World → World → List (List ℕ) → Bool → List ℕ → Type 0
Replies old new words refused text =
    ((text ≡ piece words (step old words).reply) × (refused ≡ is_err (step old words).reply)
    × (new ≡ (step old words).world))
    ⊎ ((text ≡ piece words (Err Memory)) × (refused ≡ true) × (new ≡ old))

-- the next command of the bytes that are left is met
abbrev pub MeetsCommand : Bool → World → List ℕ → World → List ℕ → Bool → List ℕ → Type 0
MeetsCommand finished old rest new left refused text =
    (words : List (List ℕ)) × (used : List ℕ) × (rest ≡ used ++ left) × (length left < length rest)
    × IsNextCommand finished left words used × Replies old new words refused text

-- From old to new, with these bytes before and those left of a script that is finished or not, this is met and this
-- text printed.
abbrev pub Meets : Bool → World → List ℕ → World → List ℕ → Met → List ℕ → Type 0
Meets finished old rest new left Answer text = MeetsCommand finished old rest new left false text
Meets finished old rest new left Refusal text = MeetsCommand finished old rest new left true text
Meets finished old rest new left Fault text =
    (fault : ScriptFault) × HasFault finished rest fault × (text ≡ last_piece (Some fault))
Meets finished old rest new left End text = HasNoCommand finished rest × (new ≡ old) × (left ≡ rest) × (text ≡ [])

-- a command was met, and the script goes on
abbrev pub goes_on : Met → Bool
goes_on Answer = true
goes_on Refusal = true
goes_on Fault = false
goes_on End = false

abbrev pub is_refusal : Met → Bool
is_refusal Answer = false
is_refusal Refusal = true
is_refusal Fault = true
is_refusal End = false

abbrev pub is_fault : Met → Bool
is_fault Answer = false
is_fault Refusal = false
is_fault Fault = true
is_fault End = false
