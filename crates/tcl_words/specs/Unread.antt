-- What a splitter has still to give.
use Rattle.std.specs.Prelude.{◌≡◌, ℕ, Bool, true, false, List, [], ◌++◌, map, Option, Some, None, chars, string_bytes}
use Rattle.std.specs.Prelude.{String}
use Rattle.tcl_words.specs.declared.fault.ScriptFault.{ScriptFault}
use Rattle.tcl_words.specs.ScriptGrammar.{IsWholeCommand, IsCommandBefore, HoldsNothing, HoldsNoWhole, HoldsFault}
use Rattle.tcl_words.specs.ScriptGrammar.{MeetsFault}

-- the bytes that aren't given as commands yet, whether the script ends with them, and the fault that stopped it
pub record Unread : Type 0 where
  pub rest : List ℕ
  pub finished : Bool
  pub fault : Option ScriptFault

-- what a splitter has before the first piece
abbrev pub nothing_fed : Unread
nothing_fed = record { rest = []; finished = false; fault = None }

-- the bytes after a piece is fed: after a fault they stay as they are
abbrev pub rest_after : Option ScriptFault → List ℕ → List ℕ → List ℕ
rest_after None rest piece = rest ++ piece
rest_after (Some fault) rest piece = rest

abbrev pub fed : Unread → List ℕ → Unread
fed unread piece = record unread { rest = rest_after unread.fault unread.rest piece }

-- a command that may be given: before the end a whole one, and then also the last
abbrev pub IsNextCommand : Bool → List ℕ → List (List ℕ) → List ℕ → Type 0
IsNextCommand false rest words bytes = IsWholeCommand words bytes
IsNextCommand true rest words bytes = IsCommandBefore rest words bytes

-- From old to new the next command is taken, and it has these words.
abbrev pub TakesCommand : Unread → List (List ℕ) → Unread → Type 0
TakesCommand old words new = (used : List ℕ) × (old.fault ≡ None) × (old.rest ≡ used ++ new.rest)
    × (new ≡ record old { rest = new.rest }) × IsNextCommand old.finished new.rest words used

-- no command is left: before the end none that is whole, and then none at all
abbrev pub HasNoCommand : Bool → List ℕ → Type 0
HasNoCommand false rest = HoldsNoWhole rest
HasNoCommand true rest = HoldsNothing rest

-- a fault comes next: before the end, however the script goes on
abbrev pub HasFault : Bool → List ℕ → ScriptFault → Type 0
HasFault false rest fault = HoldsFault rest fault
HasFault true rest fault = MeetsFault rest fault

-- no fault comes next: before the end, none that comes next however the script goes on
abbrev pub HasNoFault : Bool → List ℕ → Type 0
HasNoFault finished rest = (fault : ScriptFault) → ¬ HasFault finished rest fault

-- the fault that was met before, or that is met now
abbrev pub IsFaultOf : Option ScriptFault → Bool → List ℕ → ScriptFault → Type 0
IsFaultOf (Some met) finished rest fault = fault ≡ met
IsFaultOf None finished rest fault = HasFault finished rest fault

-- From old to new a script fault is met, or met again.
abbrev pub StopsAt : Unread → ScriptFault → Unread → Type 0
StopsAt old fault new = IsFaultOf old.fault old.finished old.rest fault × (new ≡ record old { fault = Some fault })

-- the characters of each word
abbrev pub texts_of : {Z : Type 0} → List (String Z) → List (List ℕ)
texts_of words = map (λ word. chars (string_bytes word)) words
