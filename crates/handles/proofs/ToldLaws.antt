-- What a command makes of a session, where it tells and where it doesn't.
use Rattle.handles.proofs.Common.{◌≡◌, ◌≢◌, Bool, true, false, List, ℕ, refl, sym, subst, ap, true≢false, if◌then◌else◌}
use Rattle.handles.proofs.Common.{Unread, TakesCommand, StopsAt, HasNoCommand, Given, TurnEnd, CallEnd, Gives, Called}
use Rattle.handles.proofs.Common.{Turns, status_after, State, said_text, untold, GivesTold, CalledTold, IsTold}
use Rattle.handles.proofs.Common.{TurnsTold, cut, words_at, AreLengths, AreTexts, [], None}
use Rattle.tcl_words.specs.declared.fault.ScriptFault.{ScriptFault}
use Rattle.peers.specs.World.{World}
use Rattle.handles.proofs.CallLaws.{turns-on}
use Rattle.handles.specs.declared.ends.Given.TheVariants as given
use Rattle.handles.specs.declared.ends.TurnEnd.TheVariants as turn
use Rattle.handles.specs.declared.ends.CallEnd.TheVariants as call
use Rattle.handles.specs.declared.session.Said.TheVariants as says

-- ---- words that stand in bytes

called-given : (old new : State) (lengths bytes : List ℕ) (outcome : Given) → AreLengths lengths bytes
    → AreTexts (cut lengths bytes) → Gives old (words_at lengths bytes) new outcome
    → Called old lengths bytes new (call.Given outcome)
called-given old new lengths bytes given.Answer fits texts gives = (fits, texts, gives)
called-given old new lengths bytes given.Fault fits texts gives = (fits, texts, gives)
called-given old new lengths bytes given.Memory fits texts gives = gives

called_told-given : (marks : Bool) (old new : State) (lengths bytes : List ℕ) (outcome : Given)
    → AreLengths lengths bytes → AreTexts (cut lengths bytes)
    → GivesTold marks (untold old) (words_at lengths bytes) new outcome
    → CalledTold marks old lengths bytes new (call.Given outcome)
called_told-given marks old new lengths bytes given.Answer fits texts gives = (fits, texts, gives)
called_told-given marks old new lengths bytes given.Fault fits texts gives = (fits, texts, gives)
called_told-given marks old new lengths bytes given.Memory fits texts gives = gives

-- an end of a call that isn't an answer
called-untold : (marks : Bool) (old new : State) (lengths bytes : List ℕ) (ended : CallEnd)
    → Called (untold old) lengths bytes new ended → ended ≢ call.Given given.Answer
    → CalledTold marks old lengths bytes new ended
called-untold marks old new lengths bytes (call.Given given.Answer) called other = absurd (other refl)
called-untold marks old new lengths bytes (call.Given given.Fault) called other = called
called-untold marks old new lengths bytes (call.Given given.Memory) called other = called
called-untold marks old new lengths bytes call.NotText called other = called
called-untold marks old new lengths bytes call.WrongLengths called other = called
called-untold marks old new lengths bytes call.WrongHandle called other = called

-- both clauses of a call whose words are given to the world, after what was told last is forgotten
pub called-both : (marks tells : Bool) (old mid new : State) (lengths bytes : List ℕ) (words : List (List ℕ))
    (outcome : Given)
    → mid ≡ (if tells then untold old else old) → words ≡ words_at lengths bytes → AreLengths lengths bytes
    → AreTexts (cut lengths bytes) → (tells ≡ false → Gives mid words new outcome)
    → (tells ≡ true → GivesTold marks mid words new outcome)
    → (tells ≡ false → Called old lengths bytes new (call.Given outcome))
    × (tells ≡ true → CalledTold marks old lengths bytes new (call.Given outcome))
called-both marks false old mid new lengths bytes words outcome is spelled fits texts plain told = (
  λ no. called-given old new lengths bytes outcome fits texts
      (subst (λ (ws : List (List ℕ)). Gives old ws new outcome) spelled
      (subst (λ (m : State). Gives m words new outcome) is (plain refl))),
  λ yes. absurd (true≢false (sym yes)),
)
called-both marks true old mid new lengths bytes words outcome is spelled fits texts plain told = (
  λ no. absurd (true≢false no),
  λ yes. called_told-given marks old new lengths bytes outcome fits texts
      (subst (λ (ws : List (List ℕ)). GivesTold marks (untold old) ws new outcome) spelled
      (subst (λ (m : State). GivesTold marks m words new outcome) is (told refl))),
)

-- the same of a call that ends otherwise
pub called_otherwise-both : (marks tells : Bool) (old mid new : State) (lengths bytes : List ℕ) (ended : CallEnd)
    → mid ≡ (if tells then untold old else old) → Called mid lengths bytes new ended → ended ≢ call.Given given.Answer
    → (tells ≡ false → Called old lengths bytes new ended)
    × (tells ≡ true → CalledTold marks old lengths bytes new ended)
called_otherwise-both marks false old mid new lengths bytes ended is called other = (
  λ no. subst (λ (m : State). Called m lengths bytes new ended) is called,
  λ yes. absurd (true≢false (sym yes)),
)
called_otherwise-both marks true old mid new lengths bytes ended is called other = (
  λ no. absurd (true≢false no),
  λ yes. called-untold marks old new lengths bytes ended
      (subst (λ (m : State). Called m lengths bytes new ended) is called) other,
)

pub memory-no_answer : call.Given given.Memory ≢ call.Given given.Answer
memory-no_answer is = (cc)

pub not_text-no_answer : call.NotText ≢ call.Given given.Answer
not_text-no_answer is = (cc)

pub wrong_lengths-no_answer : call.WrongLengths ≢ call.Given given.Answer
wrong_lengths-no_answer is = (cc)

-- ---- a turn of the script

turns_told-on : (marks : Bool) (old : State) (script : Unread) (said new : State) (words : List (List ℕ))
    (outcome : Given) → TakesCommand old.script words script
    → GivesTold marks (record (untold old) { script = script }) words said outcome
    → new ≡ record said { status = status_after outcome said.status } → TurnsTold marks old new (turn.Command outcome)
turns_told-on marks old script said new words given.Answer takes gives noted =
    let moved = ap (λ (x : State). x.world) gives.1 in
    let tells = subst (λ (w : World). IsTold marks old.world w words said.told) moved gives.2 in
    subst (λ (x : State). TurnsTold marks old x (turn.Command given.Answer)) (sym noted)
    (subst (λ (x : State). TurnsTold marks old (record x { status = status_after given.Answer x.status })
    (turn.Command given.Answer)) (sym gives.1)
    (words, takes, (gives.0, refl, tells), refl))
turns_told-on marks old script said new words given.Fault takes gives noted =
    turns-on (untold old) script said new words given.Fault takes gives noted
turns_told-on marks old script said new words given.Memory takes gives noted =
    turns-on (untold old) script said new words given.Memory takes gives noted

-- an end of a turn that isn't an answer
turns-untold : (marks : Bool) (old new : State) (ended : TurnEnd) → Turns (untold old) new ended
    → ended ≢ turn.Command given.Answer → TurnsTold marks old new ended
turns-untold marks old new (turn.Command given.Answer) turns other = absurd (other refl)
turns-untold marks old new (turn.Command given.Fault) turns other = turns
turns-untold marks old new (turn.Command given.Memory) turns other = turns
turns-untold marks old new turn.Fault turns other = turns
turns-untold marks old new turn.End turns other = turns
turns-untold marks old new turn.WrongHandle turns other = turns

-- both clauses of a turn in which a command is carried out
pub turned-both : (marks tells : Bool) (old mid : State) (script : Unread) (said new : State) (words : List (List ℕ))
    (outcome : Given)
    → mid ≡ (if tells then untold old else old) → TakesCommand mid.script words script
    → (tells ≡ false → Gives (record mid { script = script }) words said outcome)
    → (tells ≡ true → GivesTold marks (record mid { script = script }) words said outcome)
    → new ≡ record said { status = status_after outcome said.status }
    → (tells ≡ false → Turns old new (turn.Command outcome))
    × (tells ≡ true → TurnsTold marks old new (turn.Command outcome))
turned-both marks false old mid script said new words outcome is takes plain told noted = (
  λ no. subst (λ (m : State). Turns m new (turn.Command outcome)) is
      (turns-on mid script said new words outcome takes (plain refl) noted),
  λ yes. absurd (true≢false (sym yes)),
)
turned-both marks true old mid script said new words outcome is takes plain told noted = (
  λ no. absurd (true≢false no),
  λ yes. turns_told-on marks old script said new words outcome
      (subst (λ (m : State). TakesCommand m.script words script) is takes)
      (subst (λ (m : State). GivesTold marks (record m { script = script }) words said outcome) is (told refl)) noted,
)

-- the same of a turn that ends otherwise
pub turned_otherwise-both : (marks tells : Bool) (old mid new : State) (ended : TurnEnd)
    → mid ≡ (if tells then untold old else old) → Turns mid new ended → ended ≢ turn.Command given.Answer
    → (tells ≡ false → Turns old new ended) × (tells ≡ true → TurnsTold marks old new ended)
turned_otherwise-both marks false old mid new ended is turns other = (
  λ no. subst (λ (m : State). Turns m new ended) is turns,
  λ yes. absurd (true≢false (sym yes)),
)
turned_otherwise-both marks true old mid new ended is turns other = (
  λ no. absurd (true≢false no),
  λ yes. turns-untold marks old new ended (subst (λ (m : State). Turns m new ended) is turns) other,
)

pub end-no_answer : turn.End ≢ turn.Command given.Answer
end-no_answer is = (cc)

-- no command is at hand
pub turns-end : (old : State) (script : Unread)
    → (script ≡ old.script) × (old.script.fault ≡ None) × HasNoCommand old.script.finished old.script.rest
    → Turns old (record old { script = script; said = [] }) turn.End
turns-end old script none = let same = none.0 in (none.1, none.2, λ i. record old { script = same i; said = [] })

-- the script's fault is met
pub turns-fault : (old new : State) (script : Unread) (cause : ScriptFault) (ended : TurnEnd)
    → StopsAt old.script cause script
    → new ≡ record old { script = script; said = said_text [] (says.Fault cause); status = 2 } → ended ≡ turn.Fault
    → Turns old new ended × (ended ≢ turn.Command given.Answer)
turns-fault old new script cause ended stops is end =
    subst (λ (e : TurnEnd). Turns old new e × (e ≢ turn.Command given.Answer)) (sym end)
    (subst (λ (n : State). Turns old n turn.Fault) (sym is) (cause, stops, refl), λ same. (cc))

-- a command whose words found no memory is dropped
pub turns-back : (old new : State) (script : Unread) (ended : TurnEnd) → script ≡ old.script
    → Turns (record old { script = script }) new ended → Turns old new ended
turns-back old new script ended same turns =
    subst (λ (s : Unread). Turns (record old { script = s }) new ended) same turns
