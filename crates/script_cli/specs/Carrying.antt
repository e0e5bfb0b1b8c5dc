-- What the commands at hand print, whatever the rest of the script prints.
use Rattle.std.specs.Prelude.{◌≡◌, ℕ, ◌+◌, Bool, true, false, List, [], ◌++◌, length, Option, Some, ⊤, encode_utf8_all}
use Rattle.tcl_words.specs.Unread.{Unread, HasNoCommand}
use Rattle.tcl_words.specs.declared.fault.ScriptFault.{ScriptFault}
use Rattle.peers.specs.World.{World}
use Rattle.script_cli.specs.declared.summary.RunSummary.{RunSummary}
use Rattle.script_cli.specs.Devices.{WriteLog, Takes}
use Rattle.script_cli.specs.Run.{Holds, RunsTo}

-- From this world the bytes have this run: so many commands, of which so many are refused, perhaps a fault, and this
-- printed.
abbrev pub RunsBytes : World → Bool → List ℕ → ℕ → ℕ → Option ScriptFault → List ℕ → Type 0
RunsBytes world ended bytes met refused fault out =
    (commands : List (List (List ℕ))) × Holds ended bytes commands fault × RunsTo world commands fault out refused
    × (met ≡ length commands)

-- what may follow bytes, the script's end behind it or not: nothing where the script is finished
abbrev pub MayFollow : Bool → Bool → List ℕ → Type 0
MayFollow false ended later = ⊤
MayFollow true ended later = (ended ≡ true) × (later ≡ [])

-- From old to new, with these bytes before and those left, so many commands were met, of which so many were refused,
-- and this was printed: whatever the rest prints, with what follows it, comes behind.
abbrev pub Carries : Bool → World → List ℕ → ℕ → ℕ → List ℕ → World → List ℕ → Type 0
Carries finished old bytes met refused out new left =
    (ended : Bool) (later : List ℕ) (others others_refused : ℕ) (fault : Option ScriptFault) (more : List ℕ)
    → MayFollow finished ended later → RunsBytes new ended (left ++ later) others others_refused fault more
    → RunsBytes old ended (bytes ++ later) (met + others) (refused + others_refused) fault (out ++ more)

-- The same, until no command was left, or up to a fault.
abbrev pub CarriesOut : Bool → World → List ℕ → ℕ → ℕ → List ℕ → World → List ℕ → Bool → Type 0
CarriesOut finished old bytes met refused out new left false =
    Carries finished old bytes met refused out new left × HasNoCommand finished left
CarriesOut finished old bytes met refused out new left true =
    (fault : ScriptFault) × RunsBytes old finished bytes met refused (Some fault) out

-- From old to new the commands at hand were carried out, between these summaries, and what they print was written.
abbrev pub Carried : World → Unread → RunSummary → World → List ℕ → RunSummary → WriteLog → WriteLog → Type 0
Carried old unread before new left after sink_old sink_new =
    (met : ℕ) × (refused : ℕ) × (text : List ℕ)
    × CarriesOut unread.finished old unread.rest met refused text new left after.script_fault
    × (after.commands ≡ before.commands + met) × (after.refused ≡ before.refused + refused)
    × Takes sink_old sink_new (encode_utf8_all text)

-- From old to new the writer took a front of what the bytes print.
abbrev pub Cuts : World → Bool → List ℕ → WriteLog → WriteLog → Type 0
Cuts world ended bytes old new =
    (met : ℕ) × (refused : ℕ) × (fault : Option ScriptFault) × (out : List ℕ) × (front : List ℕ) × (back : List ℕ)
    × RunsBytes world ended bytes met refused fault out × (encode_utf8_all out ≡ front ++ back) × Takes old new front
