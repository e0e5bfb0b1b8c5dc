-- What a command that tells makes of a session, and what C reads of it.
use Rattle.std.specs.Prelude.{◌≡◌, ◌≢◌, ℕ, Bool, true, false, ◌||◌, List, [], ◌∷◌, length, Option, Some, None, IsSome}
use Rattle.std.specs.Prelude.{Result, Ok, Err, is_ok, slice_get, chars, encode_utf8_all, option_map, ◌==◌, IsUtf8}
use Rattle.std.specs.Prelude.{if◌then◌else◌}
use Rattle.text_model.specs.declared.places.Place.{Place}
use Rattle.tcl_words.specs.Unread.{TakesCommand}
use Rattle.edit_ops.specs.declared.changes.TextChange.{TextChange}
use Rattle.edit_ops.specs.declared.spots.Spot.{Spot}
use Rattle.command_effects.specs.Words.{literal}
use Rattle.command_effects.specs.declared.answers.Answer.{Answer}
use Rattle.command_effects.specs.declared.answers.Fault.{Fault}
use Rattle.command_effects.specs.declared.answers.Fault.TheVariants as fault
use Rattle.documents.specs.Documents.{sel}
use Rattle.documents.specs.declared.mark_lists.MarkChange.{MarkChange}
use Rattle.documents.specs.declared.mark_lists.MarkKind.{MarkKind}
use Rattle.documents.specs.declared.mark_lists.MarkKind.TheVariants.{Insert, Current, Shared}
use Rattle.reports.specs.declared.tag_lists.TagChange.{TagChange}
use Rattle.peers.specs.Concerned.{homes_asked, is_at, is_one, text_of_words}
use Rattle.peers.specs.Step.{step, Makes}
use Rattle.peers.specs.MarksTold.{MarksTellOf}
use Rattle.peers.specs.Told.{TellsOf}
use Rattle.peers.specs.Windows.{Homes, home_in}
use Rattle.peers.specs.World.{World, home}
use Rattle.handles.specs.declared.ends.Given.{Given}
use Rattle.handles.specs.declared.ends.Given.TheVariants as given
use Rattle.handles.specs.declared.ends.CallEnd.{CallEnd}
use Rattle.handles.specs.declared.ends.CallEnd.TheVariants as call
use Rattle.handles.specs.declared.ends.MakeEnd.{MakeEnd}
use Rattle.handles.specs.declared.ends.MakeEnd.TheVariants as make
use Rattle.handles.specs.declared.ends.MoveEnd.{MoveEnd}
use Rattle.handles.specs.declared.ends.MoveEnd.TheVariants as move
use Rattle.handles.specs.declared.ends.TurnEnd.{TurnEnd}
use Rattle.handles.specs.declared.ends.TurnEnd.TheVariants as turn
use Rattle.handles.specs.Calls.{Called, Gives, Turns, stepped}
use Rattle.handles.specs.State.{State, Telling, nothing_told}
use Rattle.handles.specs.Words.{cut, words_at, AreLengths, AreTexts}

-- nothing is told yet
abbrev pub untold : State → State
untold old = record old { told = nothing_told }

-- which text the report of a command of these words is of, and where each widget was, if `destroy` dropped marks
abbrev pub IsOfText : (marks : Bool) → World → World → List (List ℕ) → Telling → Type 0
IsOfText marks old new words told =
    (told.text ≡ text_of_words new words) × (told.homes ≡ homes_asked marks old.documents words)

-- the report of a command of these words that made a world of another; it has no marks, unless they are asked for
abbrev pub IsTold : (marks : Bool) → World → World → List (List ℕ) → Telling → Type 0
IsTold marks old new words told =
    TellsOf old new words (record { changes = told.changes; tags = told.tags })
    × (marks ≡ true → MarksTellOf old new words told.changes told.marks) × (marks ≡ false → told.marks ≡ [])
    × IsOfText marks old new words told

-- From old to new a command is answered, and what it changed is told; or it is refused, which tells nothing.
abbrev pub GivesTold : (marks : Bool) → State → List (List ℕ) → State → Given → Type 0
GivesTold marks old words new given.Answer =
    (is_ok (step old.world words).reply ≡ true) × (new ≡ record (stepped old words) { told = new.told })
    × IsTold marks old.world new.world words new.told
GivesTold marks old words new given = Gives old words new given

-- From old to new a command is answered, and its report is kept; or it is refused, and nothing changes. Its output is
-- kept later.
abbrev pub RepliesTold : (marks : Bool) → State → List (List ℕ) → State → Result Answer Fault → Type 0
RepliesTold marks old words new (Ok answer) =
    Makes old.world new.world (Ok answer) (step old.world words)
    × (new ≡ record old { world = new.world; told = new.told }) × IsTold marks old.world new.world words new.told
RepliesTold marks old words new (Err cause) =
    (new ≡ old) × (cause ≢ fault.Memory → Makes old.world new.world (Err cause) (step old.world words))

-- The same of words that stand in bytes, unless they are none.
abbrev pub CalledTold : (marks : Bool) → State → List ℕ → List ℕ → State → CallEnd → Type 0
CalledTold marks old lengths bytes new (call.Given given.Answer) =
    AreLengths lengths bytes × AreTexts (cut lengths bytes)
    × GivesTold marks (untold old) (words_at lengths bytes) new given.Answer
CalledTold marks old lengths bytes new ended = Called (untold old) lengths bytes new ended

abbrev pub CallsTold : (marks : Bool) → Option State → List ℕ → List ℕ → Option State → CallEnd → Type 0
CallsTold marks None lengths bytes new ended = (new ≡ None) × (ended ≡ call.WrongHandle)
CallsTold marks (Some old) lengths bytes None ended = ⊥
CallsTold marks (Some old) lengths bytes (Some new) ended = CalledTold marks old lengths bytes new ended

-- From old to new the next command of the script is carried out, and what it changed is told.
abbrev pub TurnsTold : (marks : Bool) → State → State → TurnEnd → Type 0
TurnsTold marks old new (turn.Command given.Answer) =
    (words : List (List ℕ)) × TakesCommand old.script words new.script
    × GivesTold marks (untold old) words (record new { script = old.script; status = old.status }) given.Answer
    × (new.status ≡ old.status)
TurnsTold marks old new ended = Turns (untold old) new ended

abbrev pub TakesTold : (marks : Bool) → Option State → Option State → TurnEnd → Type 0
TakesTold marks None new ended = (new ≡ None) × (ended ≡ turn.WrongHandle)
TakesTold marks (Some old) None ended = ⊥
TakesTold marks (Some old) (Some new) ended = TurnsTold marks old new ended

-- ---- what C reads

-- the bytes of a text, if there is one
abbrev pub bytes_of : Option (List ℕ) → List ℕ
bytes_of None = []
bytes_of (Some text) = encode_utf8_all text

-- a word of the command that was given last
abbrev pub word_given : List (List ℕ) → ℕ → List ℕ
word_given words index = bytes_of (slice_get words index)

abbrev pub words_of : Option State → List (List ℕ)
words_of None = []
words_of (Some state) = state.words

-- what a report has; nothing where there is none
abbrev pub told_of : Option Telling → Telling
told_of None = nothing_told
told_of (Some telling) = telling

-- From was to is an empty report is made.
abbrev pub MakesReport : Option Telling → Option Telling → MakeEnd → Type 0
MakesReport was is make.Made = (was ≡ None) × (is ≡ Some nothing_told)
MakesReport was is make.Memory = (was ≡ None) × (is ≡ was)
MakesReport was is make.WrongLimits = ⊥
MakesReport was is make.WrongHandle = (is ≡ was) × IsSome was

-- From old to new a session's report is moved out, and becomes the report that was another; where there is no session
-- or no report, nothing changes.
abbrev pub MovesReport : Option State → Option Telling → Option State → Option Telling → MoveEnd → Type 0
MovesReport (Some old) (Some was) new is ended =
    (new ≡ Some (untold old)) × (is ≡ Some old.told) × (ended ≡ move.Moved)
MovesReport old was new is ended = (new ≡ old) × (is ≡ was) × (ended ≡ move.WrongHandle)

-- where one of the changes is, and how many characters it took out; 0 where there is none
abbrev pub place_of : Option TextChange → ℕ × ℕ
place_of None = (0, 0)
place_of (Some change) = (change.at, change.removed)

abbrev pub place_told : List TextChange → ℕ → ℕ × ℕ
place_told changes index = place_of (slice_get changes index)

-- one of its ends: where it begins (0), where what it took out ended (1), where what it put in ends (2)
abbrev pub spot_of : TextChange → ℕ → Spot
spot_of change end = if end == 0 then change.start else (if end == 1 then change.old_end else change.new_end)

abbrev pub spot_in : Option TextChange → ℕ → Spot
spot_in None end = record { line = 0; column = 0; bytes = 0; units = 0 }
spot_in (Some change) end = spot_of change end

abbrev pub spot_told : List TextChange → ℕ → ℕ → Spot
spot_told changes index end = spot_in (slice_get changes index) end

-- the bytes of what it put in
abbrev pub text_told : List TextChange → ℕ → List ℕ
text_told changes index = bytes_of (option_map (λ (change : TextChange). change.inserted) (slice_get changes index))

-- a change of a tag: the tag's name, and where it is some widget's `sel`, that widget's
abbrev pub tag_name : TagChange → List ℕ
tag_name change = if change.key.selects then sel else change.key.name

abbrev pub tag_widget : TagChange → List ℕ
tag_widget change = if change.key.selects then change.key.name else []

-- where it begins and ends, and whether the tag is put on there
abbrev pub tag_span : TagChange → ℕ × ℕ × Bool
tag_span change = (change.from, change.to, change.on)

-- the bytes of its names; nothing where there is none
abbrev pub tag_told : List TagChange → ℕ → List ℕ
tag_told tags index = bytes_of (option_map tag_name (slice_get tags index))

abbrev pub widget_told : List TagChange → ℕ → List ℕ
widget_told tags index = bytes_of (option_map tag_widget (slice_get tags index))

abbrev pub span_in : Option TagChange → ℕ × ℕ × Bool
span_in None = (0, 0, false)
span_in (Some change) = tag_span change

abbrev pub span_told : List TagChange → ℕ → ℕ × ℕ × Bool
span_told tags index = span_in (slice_get tags index)

-- a mark: the name by which its widget knows it, and of a widget's own `insert` or `current` that widget's
abbrev pub name_by : MarkKind → List ℕ → List ℕ
name_by Insert name = literal "insert"
name_by Current name = literal "current"
name_by Shared name = name

abbrev pub widget_by : MarkKind → List ℕ → List ℕ
widget_by Shared name = []
widget_by kind name = name

abbrev pub mark_name : MarkChange → List ℕ
mark_name mark = name_by mark.key.kind mark.key.name

abbrev pub mark_widget : MarkChange → List ℕ
mark_widget mark = widget_by mark.key.kind mark.key.name

-- the bytes of its names; nothing where there is none
abbrev pub mark_told : List MarkChange → ℕ → List ℕ
mark_told marks index = bytes_of (option_map mark_name (slice_get marks index))

abbrev pub owner_told : List MarkChange → ℕ → List ℕ
owner_told marks index = bytes_of (option_map mark_widget (slice_get marks index))

-- where it is before the command (0), and after it (any other number)
abbrev pub place_by : MarkChange → ℕ → Option Place
place_by mark end = if end == 0 then mark.old else mark.new

abbrev pub mark_place_in : Option MarkChange → ℕ → Option Place
mark_place_in None end = None
mark_place_in (Some mark) end = place_by mark end

abbrev pub mark_place_told : List MarkChange → ℕ → ℕ → Option Place
mark_place_told marks index end = mark_place_in (slice_get marks index) end

-- ---- which widgets a report concerns

-- whether two widgets showed one document
abbrev pub were_one : Homes → List ℕ → List ℕ → Bool
were_one homes one other = is_one (home_in one homes) (home_in other homes)

-- whether one of the marks is of a widget that showed a widget's document, if that widget showed one
abbrev pub has_lost : Homes → Option ℕ → List MarkChange → Bool
has_lost homes home [] = false
has_lost homes home (mark ∷ marks) = is_one (home_in mark.key.name homes) home || has_lost homes home marks

-- whether a report concerns the widget of a name: it shows the text of the command's widget, or a text that lost a
-- widget by `destroy`
abbrev pub concerns_at : Telling → List ℕ → Option ℕ → Bool
concerns_at told name None = false
concerns_at told name (Some place) = is_at told.text place || has_lost told.homes (home_in name told.homes) told.marks

abbrev pub concerns : World → Telling → List ℕ → Bool
concerns world told name = concerns_at told name (home name world.documents)

-- whether one of its marks concerns a widget that the report concerns: of `destroy` a mark of the widget's text, and
-- else any
abbrev pub mark_concerns : Homes → List ℕ → Option MarkChange → Bool
mark_concerns homes name None = false
mark_concerns homes name (Some mark) = (length homes == 0) || were_one homes mark.key.name name

-- the same of a report and of a session that C keeps
abbrev pub concerned : Option State → Option Telling → List ℕ → Bool
concerned (Some state) (Some told) name = concerns state.world told name
concerned state told name = false

abbrev pub mark_concerned : Telling → ℕ → List ℕ → Bool
mark_concerned told index name = mark_concerns told.homes name (slice_get told.marks index)

-- Bytes that aren't UTF-8 are no widget's name.
abbrev pub Concerns : Option State → Option Telling → List ℕ → Bool → Type 0
Concerns state told name answer =
    (IsUtf8 name → answer ≡ concerned state told (chars name)) × (¬ IsUtf8 name → answer ≡ false)

abbrev pub MarkConcerns : Option Telling → ℕ → List ℕ → Bool → Type 0
MarkConcerns told index name answer =
    (IsUtf8 name → answer ≡ mark_concerned (told_of told) index (chars name)) × (¬ IsUtf8 name → answer ≡ false)
