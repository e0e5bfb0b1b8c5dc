-- What a call from C makes of a session.
use Rattle.std.specs.Prelude.{◌≡◌, ℕ, max, Bool, true, false, List, [], Option, Some, None, IsSome, chars, IsUtf8}
use Rattle.std.specs.Prelude.{Result, Ok, Err, is_ok, is_err, encode_utf8_all}
use Rattle.text_model.specs.LimitTable.{LimitTable, AreLimits}
use Rattle.tcl_words.specs.Unread.{fed, TakesCommand, StopsAt, HasNoCommand}
use Rattle.tcl_words.specs.declared.fault.ScriptFault.{ScriptFault}
use Rattle.command_effects.specs.declared.answers.Answer.{Answer}
use Rattle.command_effects.specs.declared.answers.Fault.{Fault}
use Rattle.command_effects.specs.declared.answers.Fault.TheVariants as fault
use Rattle.peers.specs.History.{can_redo_by, can_undo_by}
use Rattle.peers.specs.Step.{step}
use Rattle.peers.specs.World.{World}
use Rattle.script_cli.specs.Lines.{piece}
use Rattle.script_cli.specs.Run.{last_piece}
use Rattle.handles.specs.declared.ends.Given.{Given}
use Rattle.handles.specs.declared.ends.Given.TheVariants as given
use Rattle.handles.specs.declared.ends.TurnEnd.{TurnEnd}
use Rattle.handles.specs.declared.ends.TurnEnd.TheVariants as turn
use Rattle.handles.specs.declared.ends.CallEnd.{CallEnd}
use Rattle.handles.specs.declared.ends.CallEnd.TheVariants as call
use Rattle.handles.specs.declared.ends.FeedEnd.{FeedEnd}
use Rattle.handles.specs.declared.ends.FeedEnd.TheVariants as feed
use Rattle.handles.specs.declared.ends.MakeEnd.{MakeEnd}
use Rattle.handles.specs.declared.ends.MakeEnd.TheVariants as make
use Rattle.handles.specs.declared.ends.Way.{Way}
use Rattle.handles.specs.declared.ends.Way.TheVariants as way
use Rattle.handles.specs.State.{State, start, memory_said}
use Rattle.handles.specs.Words.{cut, words_at, AreLengths, AreTexts}

abbrev pub given_of : Result Answer Fault → Given
given_of (Ok answer) = given.Answer
given_of (Err fault.Memory) = given.Memory
given_of (Err fault) = given.Fault

-- the state after the step of a command, and what is said of it
abbrev pub stepped : State → List (List ℕ) → State
stepped old words = record old {
  world = (step old.world words).world;
  words = words;
  said = encode_utf8_all (piece words (step old.world words).reply);
}

-- From old to new a command is answered, or refused, which leaves the world as it was.
abbrev pub Gives : State → List (List ℕ) → State → Given → Type 0
Gives old words new given.Answer = (is_ok (step old.world words).reply ≡ true) × (new ≡ stepped old words)
Gives old words new given.Fault =
    (is_err (step old.world words).reply ≡ true) × (new ≡ stepped old words) × (new.world ≡ old.world)
Gives old words new given.Memory = new ≡ record old { words = new.words; said = memory_said }

-- The same of words that stand in bytes, unless they are none, which changes nothing.
abbrev pub Called : State → List ℕ → List ℕ → State → CallEnd → Type 0
Called old lengths bytes new (call.Given given.Memory) = Gives old (words_at lengths bytes) new given.Memory
Called old lengths bytes new (call.Given given) =
    AreLengths lengths bytes × AreTexts (cut lengths bytes) × Gives old (words_at lengths bytes) new given
Called old lengths bytes new call.NotText = (new ≡ old) × ¬ AreTexts (cut lengths bytes)
Called old lengths bytes new call.WrongLengths = (new ≡ old) × ¬ AreLengths lengths bytes
Called old lengths bytes new call.WrongHandle = ⊥

-- the exit status after a command of a script
abbrev pub status_after : Given → ℕ → ℕ
status_after given.Answer status = status
status_after given.Fault status = max status 1
status_after given.Memory status = max status 1

-- From old to new the next command of the script is carried out, or the script's fault is met, or none is at hand.
abbrev pub Turns : State → State → TurnEnd → Type 0
Turns old new (turn.Command given) =
    (words : List (List ℕ)) × TakesCommand old.script words new.script
    × Gives old words (record new { script = old.script; status = old.status }) given
    × (new.status ≡ status_after given old.status)
Turns old new turn.Fault =
    (fault : ScriptFault) × StopsAt old.script fault new.script
    × (new ≡ record old { script = new.script; said = encode_utf8_all (last_piece (Some fault)); status = 2 })
Turns old new turn.End =
    (old.script.fault ≡ None) × HasNoCommand old.script.finished old.script.rest × (new ≡ record old { said = [] })
Turns old new turn.WrongHandle = ⊥

-- ---- a handle, which is empty or has a session

-- From old to new a world of these limits is made, or none.
abbrev pub Makes : Option State → LimitTable → Option State → MakeEnd → Type 0
Makes old limits new make.Made = (old ≡ None) × AreLimits limits × (new ≡ Some (start limits))
Makes old limits new make.Memory = (old ≡ None) × (new ≡ old)
Makes old limits new make.WrongLimits = (new ≡ old) × ¬ AreLimits limits
Makes old limits new make.WrongHandle = (new ≡ old) × IsSome old

abbrev pub Calls : Option State → List ℕ → List ℕ → Option State → CallEnd → Type 0
Calls None lengths bytes new ended = (new ≡ None) × (ended ≡ call.WrongHandle)
Calls (Some old) lengths bytes None ended = ⊥
Calls (Some old) lengths bytes (Some new) ended = Called old lengths bytes new ended

-- From old to new the script goes on by these bytes.
abbrev pub Fed : State → List ℕ → State → FeedEnd → Type 0
Fed old bytes new feed.Fed = (old.script.finished ≡ false) × (new ≡ record old { script = fed old.script bytes })
Fed old bytes new feed.Memory = (old.script.finished ≡ false) × (new ≡ old)
Fed old bytes new feed.Finished = (old.script.finished ≡ true) × (new ≡ old)
Fed old bytes new feed.WrongHandle = ⊥

abbrev pub Feeds : Option State → List ℕ → Option State → FeedEnd → Type 0
Feeds None bytes new ended = (new ≡ None) × (ended ≡ feed.WrongHandle)
Feeds (Some old) bytes None ended = ⊥
Feeds (Some old) bytes (Some new) ended = Fed old bytes new ended

abbrev pub Takes : Option State → Option State → TurnEnd → Type 0
Takes None new ended = (new ≡ None) × (ended ≡ turn.WrongHandle)
Takes (Some old) None ended = ⊥
Takes (Some old) (Some new) ended = Turns old new ended

-- the script ends with what was fed
abbrev pub finished : State → State
finished old = record old { script = record old.script { finished = true } }

-- whether a group can be undone, or be redone, in the text that the widget of a name shows
abbrev pub can_by : Way → World → List ℕ → Option Bool
can_by way.Undo = can_undo_by
can_by way.Redo = can_redo_by

-- what is asked of such a text, of a handle's world
abbrev pub asked : (World → List ℕ → Option Bool) → Option State → List ℕ → Option Bool
asked ask None name = None
asked ask (Some state) name = ask state.world name

-- Bytes that aren't UTF-8 are no widget's name.
abbrev pub Tells : (World → List ℕ → Option Bool) → Option State → List ℕ → Option Bool → Type 0
Tells ask state name answer =
    (IsUtf8 name → answer ≡ asked ask state (chars name)) × (¬ IsUtf8 name → answer ≡ None)
