-- A run so far, and whatever the rest of it prints.
use Rattle.script_cli.proofs.Common.{◌≡◌, ℕ, suc, ◌+◌, ◌<◌, ◌||◌, Bool, true, false, not, cond, List, [], ◌∷◌, ◌++◌}
use Rattle.script_cli.proofs.Common.{length, Option, None, Some, ◌⊎◌, inl, inr, refl, sym, ap, ◌∙◌, append_assoc, arith}
use Rattle.script_cli.proofs.Common.{encode_utf8_all, is_some, is_err, is_ok, Result, Ok, Err, OnOk, OnErr, false≢true}
use Rattle.script_cli.proofs.Common.{append-nil, encodes-append, LimitTable, IsCommandBefore, Unread, IsNextCommand}
use Rattle.script_cli.proofs.Common.{HasNoCommand, HasFault, ScriptFault, a_reading, World, step, RunSummary, Met}
use Rattle.script_cli.proofs.Common.{ReadLog, WriteLog, HandsOut, Takes, piece, memory_line, no_documents, run_output}
use Rattle.script_cli.proofs.Common.{refused_count, RunsTo, Holds, WritesRun, WritesFront, Feeds, Sends, Gathers}
use Rattle.script_cli.proofs.Common.{Replies, MeetsCommand, Meets, true≢false, subst, bytes_eq}
use Rattle.script_cli.specs.declared.summary.RunFault.{RunFault}
use Rattle.script_cli.specs.Carrying.{RunsBytes, MayFollow, Carries, CarriesOut, Carried, Cuts}
use Rattle.script_cli.specs.PlainRun.{IsPlain, IsPlainOutput, IsPlainUpToRefusal}
use Rattle.script_cli.proofs.HarmlessLaws.{harmless}
use Rattle.std.proofs.lemmas.Slice.Eq.{bytes_eq-Decides}
use Rattle.script_cli.proofs.SendingLaws.{Takes-nil, Takes-then, HandsOut-nil, HandsOut-then}
use Rattle.script_cli.specs.declared.turns.Met.TheVariants as kinds

-- the run without refusals for memory is one of the runs
pub plain_runs : (commands : List (List (List ℕ))) (world : World) (fault : Option ScriptFault)
    → RunsTo world commands fault (run_output world commands fault) (refused_count world commands)
plain_runs [] world fault = (refl, refl)
plain_runs (words ∷ commands) world fault =
    let after = (step world words).world in
    inl (run_output after commands fault, refused_count after commands, refl, refl, plain_runs commands after fault)

none : (n : ℕ) → 0 + n ≡ n
none n = omega arith

nothing_later : (n : ℕ) → n + 0 ≡ n
nothing_later n = omega arith

-- a command that is next stays next before what may follow
before_later : (left later : List ℕ) (words : List (List ℕ)) (used : List ℕ) → later ≡ [] →
    IsCommandBefore left words used
    → IsCommandBefore (left ++ later) words used
before_later left later words used none (inl whole) = inl whole
before_later left later words used none (inr last) = inr (ap (λ xs. left ++ xs) none ∙ append-nil left ∙ last.0, last.1)

holds_more : (finished ended : Bool) (rest left later used : List ℕ) (words : List (List ℕ))
    (commands : List (List (List ℕ))) (fault : Option ScriptFault)
    → rest ≡ used ++ left → IsNextCommand finished left words used → MayFollow finished ended later
    → Holds ended (left ++ later) commands fault → Holds ended (rest ++ later) (words ∷ commands) fault
holds_more false true rest left later used words commands fault is next may holds =
    (used, left ++ later, ap (λ xs. xs ++ later) is ∙ append_assoc used left later, inl next, holds)
holds_more false false rest left later used words commands fault is next may holds =
    (used, left ++ later, ap (λ xs. xs ++ later) is ∙ append_assoc used left later, next, holds)
holds_more true true rest left later used words commands fault is next may holds = (
  used,
  left ++ later,
  ap (λ xs. xs ++ later) is ∙ append_assoc used left later,
  before_later left later words used may.1 next,
  holds,
)
holds_more true false rest left later used words commands fault is next may holds = absurd (false≢true may.0)

-- a command more
runs_more : (world after : World) (words : List (List ℕ)) (commands : List (List (List ℕ))) (fault : Option ScriptFault)
    (refused : Bool)
    (text more : List ℕ) (others : ℕ) → Replies world after words refused text → RunsTo after commands fault more others
    → RunsTo world (words ∷ commands) fault (text ++ more) (cond refused 1 0 + others)
runs_more world after words commands fault refused text more others (inl by_step) runs =
    inl (more, others, ap (λ xs. xs ++ more) by_step.0, ap (λ b. cond b 1 0 + others) by_step.1, rw by_step.2 at runs)
runs_more world after words commands fault refused text more others (inr by_memory) runs =
    inr (
      more,
      others,
      ap (λ xs. xs ++ more) by_memory.0,
      ap (λ b. cond b 1 0 + others) by_memory.1,
      rw by_memory.2 at runs,
    )

-- nothing was carried out
carries_none : (finished : Bool) (world : World) (bytes : List ℕ) → Carries finished world bytes 0 0 [] world bytes
carries_none finished world bytes ended later others others_refused fault more may runs =
    (runs.0, runs.1, rw (none others_refused) runs.2, none others ∙ runs.3)

one_more : (met others all : ℕ) → met + suc others ≡ all → met + 1 + others ≡ all
one_more met others all is = omega (arith, is)

-- a command more
carries_more : (finished : Bool) (old : World) (bytes : List ℕ) (met refused : ℕ) (out : List ℕ) (world after : World)
    (rest left text : List ℕ) (is_refused : Bool)
    → Carries finished old bytes met refused out world rest →
    MeetsCommand finished world rest after left is_refused text
    → Carries finished old bytes (met + 1) (refused + cond is_refused 1 0) (out ++ text) after left
carries_more finished old bytes met refused out world after rest left text is_refused carries meets ended later others
    others_refused fault more may runs =
    let words = meets.0 in
    let here : RunsBytes world ended (rest ++ later) (suc others) (cond is_refused 1 0 + others_refused) fault
    (text ++ more) = (
      words ∷ runs.0,
      holds_more finished ended rest left later meets.1 words runs.0 fault meets.2 meets.4 may runs.1,
      runs_more world after words runs.0 fault is_refused text more others_refused meets.5 runs.2,
      ap suc runs.3,
    ) in
    let all = carries ended later (suc others) (cond is_refused 1 0 + others_refused) fault (text ++ more) may here in
    let counts : refused + cond is_refused 1 0 + others_refused
    ≡ refused + (cond is_refused 1 0 + others_refused) = omega arith in
    (all.0, all.1, rw (append_assoc out text more, counts) all.2, one_more met others (length all.0) all.3)

-- the same bytes, and others behind them
pub carries_fed : (old : World) (bytes : List ℕ) (met refused : ℕ) (out : List ℕ) (world : World) (rest piece : List ℕ)
    → Carries false old bytes met refused out world rest →
    Carries false old (bytes ++ piece) met refused out world (rest ++ piece)
carries_fed old bytes met refused out world rest piece carries ended later others others_refused fault more may runs =
    rw (append_assoc bytes piece later) (carries ended (piece ++ later) others others_refused fault more tt
    (rw (append_assoc rest piece later) at runs))

apart : (a b c : ℕ) → (a + b) + c ≡ a + (b + c)
apart a b c = omega arith

-- one after the other
carries_then : (finished : Bool) (old : World) (bytes : List ℕ) (met refused : ℕ) (out : List ℕ) (world : World)
    (rest : List ℕ)
    (more_met more_refused : ℕ) (text : List ℕ) (new : World) (left : List ℕ)
    → Carries false old bytes met refused out world rest →
    Carries finished world rest more_met more_refused text new left
    → Carries finished old bytes (met + more_met) (refused + more_refused) (out ++ text) new left
carries_then finished old bytes met refused out world rest more_met more_refused text new left first second ended later
    others others_refused fault more may runs =
    let all = first ended later (more_met + others) (more_refused + others_refused) fault (text ++ more) tt
    (second ended later others others_refused fault more may runs) in (
      all.0,
      all.1,
      rw (append_assoc out text more, apart refused more_refused others_refused) all.2,
      apart met more_met others ∙ all.3,
    )

ends_so : (finished : Bool) → MayFollow finished finished []
ends_so true = (refl, refl)
ends_so false = tt

-- all of the rest is run
runs_all : (finished ended : Bool) (old : World) (bytes : List ℕ) (met refused : ℕ) (out : List ℕ) (world : World)
    (rest : List ℕ)
    (others others_refused : ℕ) (fault : Option ScriptFault) (text : List ℕ) → MayFollow finished ended []
    → Carries finished old bytes met refused out world rest →
    RunsBytes world ended rest others others_refused fault text
    → RunsBytes old ended bytes (met + others) (refused + others_refused) fault (out ++ text)
runs_all finished ended old bytes met refused out world rest others others_refused fault text may carries runs =
    let all = carries ended [] others others_refused fault text may (rw (append-nil rest) runs) in
    rw (append-nil bytes) at all

-- no command and no fault is met in the rest
runs_none : (ended : Bool) (world : World) (rest : List ℕ) → Holds ended rest [] None →
    RunsBytes world ended rest 0 0 None []
runs_none ended world rest holds = ([], holds, (refl, refl), refl)

runs_so_far : (finished ended : Bool) (old : World) (bytes : List ℕ) (met refused : ℕ) (out : List ℕ) (world : World)
    (rest : List ℕ)
    → MayFollow finished ended [] → Carries finished old bytes met refused out world rest → Holds ended rest [] None
    → RunsBytes old ended bytes met refused None out
runs_so_far finished ended old bytes met refused out world rest may carries holds =
    let all = runs_all finished ended old bytes met refused out world rest 0 0 None [] may carries
    (runs_none ended world rest holds) in
    rw (append-nil out, nothing_later met, nothing_later refused) at all

-- the bytes of what was printed, with a text more
more_bytes : (out text sent waits later left : List ℕ) → encode_utf8_all out ≡ sent ++ waits →
    waits ++ encode_utf8_all text ≡ later ++ left
    → encode_utf8_all (out ++ text) ≡ (sent ++ later) ++ left
more_bytes out text sent waits later left e f =
    encodes-append out text ∙ ap (λ xs. xs ++ encode_utf8_all text) e ∙ append_assoc sent waits (encode_utf8_all text)
    ∙ ap (λ xs. sent ++ xs) f ∙ sym (append_assoc sent later left)

-- From old to new the commands at hand were carried out so far, so many of all and so many refused, and what they print
-- was written, but for the bytes that wait.
abbrev pub SoFar : Bool → World → List ℕ → RunSummary → World → List ℕ → ℕ → ℕ → WriteLog → WriteLog → List ℕ → Type 0
SoFar finished old bytes before new left all all_refused sink_old sink waits =
    (met : ℕ) × (refused : ℕ) × (out : List ℕ) × (sent : List ℕ)
    × (all ≡ before.commands + met) × (all_refused ≡ before.refused + refused)
    × (encode_utf8_all out ≡ sent ++ waits) × Takes sink_old sink sent
    × Carries finished old bytes met refused out new left

-- the same, until no command was left, or up to a fault
abbrev Closed : Bool → World → List ℕ → RunSummary → World → List ℕ → ℕ → ℕ → Bool → WriteLog → WriteLog → List ℕ →
    Type 0
Closed finished old bytes before new left all all_refused faulted sink_old sink waits =
    (met : ℕ) × (refused : ℕ) × (out : List ℕ) × (sent : List ℕ)
    × (all ≡ before.commands + met) × (all_refused ≡ before.refused + refused)
    × (encode_utf8_all out ≡ sent ++ waits) × Takes sink_old sink sent
    × CarriesOut finished old bytes met refused out new left faulted

pub so_far_none : (finished : Bool) (world : World) (bytes : List ℕ) (before : RunSummary) (log : WriteLog)
    → SoFar finished world bytes before world bytes before.commands before.refused log log []
so_far_none finished world bytes before log = (
  0,
  0,
  [],
  [],
  sym (nothing_later before.commands),
  sym (nothing_later before.refused),
  refl,
  Takes-nil log,
  carries_none finished world bytes,
)

-- a command more
so_far_more : (finished : Bool) (old : World) (bytes : List ℕ) (before : RunSummary) (world after : World)
    (rest left text : List ℕ) (is_refused : Bool)
    (all all_refused : ℕ) (sink_old sink new : WriteLog) (waits left_waiting : List ℕ)
    → SoFar finished old bytes before world rest all all_refused sink_old sink waits
    → MeetsCommand finished world rest after left is_refused text
    → Gathers sink waits new left_waiting (encode_utf8_all text) true
    → SoFar finished old bytes before after left (all + 1) (all_refused + cond is_refused 1 0) sink_old new left_waiting
so_far_more finished old bytes before world after rest left text is_refused all all_refused sink_old sink new waits left_waiting so_far meets gathers = (
  so_far.0 + 1,
  so_far.1 + cond is_refused 1 0,
  so_far.2 ++ text,
  so_far.3 ++ gathers.0,
  ap (λ n. n + 1) so_far.4 ∙ apart before.commands so_far.0 1,
  ap (λ n. n + cond is_refused 1 0) so_far.5 ∙ apart before.refused so_far.1 (cond is_refused 1 0),
  more_bytes so_far.2 text so_far.3 waits gathers.0 left_waiting so_far.6 gathers.1,
  Takes-then sink_old sink new so_far.3 gathers.0 so_far.7 gathers.2,
  carries_more finished old bytes so_far.0 so_far.1 so_far.2 world after rest left text is_refused so_far.8 meets,
)

pub answers_more : (finished : Bool) (old : World) (bytes : List ℕ) (before : RunSummary) (world after : World)
    (rest left text : List ℕ)
    (all all_refused : ℕ) (sink_old sink new : WriteLog) (waits left_waiting : List ℕ)
    → SoFar finished old bytes before world rest all all_refused sink_old sink waits
    → Meets finished world rest after left kinds.Answer text
    → Gathers sink waits new left_waiting (encode_utf8_all text) true
    → SoFar finished old bytes before after left (all + 1) all_refused sink_old new left_waiting
answers_more finished old bytes before world after rest left text all all_refused sink_old sink new waits left_waiting
    so_far meets gathers =
    rw (nothing_later all_refused) at
    (so_far_more finished old bytes before world after rest left text false all all_refused sink_old sink new waits
    left_waiting so_far meets gathers)

pub refuses_more : (finished : Bool) (old : World) (bytes : List ℕ) (before : RunSummary) (world after : World)
    (rest left text : List ℕ)
    (all all_refused : ℕ) (sink_old sink new : WriteLog) (waits left_waiting : List ℕ)
    → SoFar finished old bytes before world rest all all_refused sink_old sink waits
    → Meets finished world rest after left kinds.Refusal text
    → Gathers sink waits new left_waiting (encode_utf8_all text) true
    → SoFar finished old bytes before after left (all + 1) (all_refused + 1) sink_old new left_waiting
refuses_more finished old bytes before world after rest left text all all_refused sink_old sink new waits left_waiting
    so_far meets gathers =
    so_far_more finished old bytes before world after rest left text true all all_refused sink_old sink new waits
    left_waiting so_far meets gathers

-- a fault that is met in the rest, as a run of it
holds_fault : (finished : Bool) (rest : List ℕ) (fault : ScriptFault) → HasFault finished rest fault →
    Holds finished rest [] (Some fault)
holds_fault true rest fault has = has
holds_fault false rest fault has = has

-- where no command is left
holds_none : (finished : Bool) (rest : List ℕ) → HasNoCommand finished rest → Holds finished rest [] None
holds_none true rest none = none
holds_none false rest none = tt

-- the script ends at a fault
runs_to_fault : (finished : Bool) (old : World) (bytes : List ℕ) (met refused : ℕ) (out : List ℕ) (world after : World)
    (rest left text : List ℕ)
    → Carries finished old bytes met refused out world rest →
    (meets : Meets finished world rest after left kinds.Fault text)
    → RunsBytes old finished bytes met refused (Some meets.0) (out ++ text)
runs_to_fault finished old bytes met refused out world after rest left text carries meets =
    let all = runs_all finished finished old bytes met refused out world rest 0 0 (Some meets.0) text (ends_so finished)
    carries
    ([], holds_fault finished rest meets.0 meets.1, (meets.2, refl), refl) in
    rw (nothing_later met, nothing_later refused) at all

pub closes_at_fault : (finished : Bool) (old : World) (bytes : List ℕ) (before : RunSummary)
    (world after new_world : World) (rest left text : List ℕ)
    (all all_refused : ℕ) (sink_old sink new : WriteLog) (waits left_waiting : List ℕ)
    → SoFar finished old bytes before world rest all all_refused sink_old sink waits
    → Meets finished world rest after left kinds.Fault text
    → Gathers sink waits new left_waiting (encode_utf8_all text) true
    → Closed finished old bytes before new_world left all all_refused true sink_old new left_waiting
closes_at_fault finished old bytes before world after new_world rest left text all all_refused sink_old sink new waits left_waiting so_far meets gathers = (
  so_far.0,
  so_far.1,
  so_far.2 ++ text,
  so_far.3 ++ gathers.0,
  so_far.4,
  so_far.5,
  more_bytes so_far.2 text so_far.3 waits gathers.0 left_waiting so_far.6 gathers.1,
  Takes-then sink_old sink new so_far.3 gathers.0 so_far.7 gathers.2,
  (meets.0, runs_to_fault finished old bytes so_far.0 so_far.1 so_far.2 world after rest left text so_far.8 meets),
)

pub closes_at_end : (finished : Bool) (old : World) (bytes : List ℕ) (before : RunSummary) (world after : World)
    (rest left text : List ℕ)
    (all all_refused : ℕ) (sink_old sink new : WriteLog) (waits left_waiting : List ℕ)
    → SoFar finished old bytes before world rest all all_refused sink_old sink waits
    → Meets finished world rest after left kinds.End text
    → Gathers sink waits new left_waiting (encode_utf8_all text) true
    → Closed finished old bytes before after left all all_refused false sink_old new left_waiting
closes_at_end finished old bytes before world after rest left text all all_refused sink_old sink new waits left_waiting
    so_far meets gathers =
    let out : so_far.2 ++ text ≡ so_far.2 = ap (λ xs. so_far.2 ++ xs) meets.3 ∙ append-nil so_far.2 in (
      so_far.0,
      so_far.1,
      so_far.2,
      so_far.3 ++ gathers.0,
      so_far.4,
      so_far.5,
      sym (ap encode_utf8_all out) ∙ more_bytes so_far.2 text so_far.3 waits gathers.0 left_waiting so_far.6 gathers.1,
      Takes-then sink_old sink new so_far.3 gathers.0 so_far.7 gathers.2,
      (
        rw (meets.1, meets.2) so_far.8,
        rw meets.2 meets.0,
      ),
    )

-- all that waited is written
pub closed_ok : {T : Type 0} (result : Result T RunFault) (unread : Unread) (old : World) (before : RunSummary)
    (new : World) (left : List ℕ) (after : RunSummary)
    (sink_old sink sink_new : WriteLog) (waits : List ℕ)
    → Closed unread.finished old unread.rest before new left after.commands after.refused after.script_fault sink_old
    sink waits
    → Sends sink sink_new waits (is_ok result)
    → OnOk result (Carried old unread before new left after sink_old sink_new)
closed_ok (Ok value) unread old before new left after sink_old sink sink_new waits closed sends = (
  closed.0,
  closed.1,
  closed.2,
  closed.8,
  closed.4,
  closed.5,
  rw closed.6 (Takes-then sink_old sink sink_new closed.3 waits closed.7 sends),
)
closed_ok (Err fault) unread old before new left after sink_old sink sink_new waits closed sends = tt

-- a run of the bytes that prints this
runs_closed : (finished : Bool) (old : World) (bytes : List ℕ) (met refused : ℕ) (out : List ℕ) (new : World)
    (left : List ℕ) (faulted : Bool)
    → CarriesOut finished old bytes met refused out new left faulted
    → (fault : Option ScriptFault) × RunsBytes old finished bytes met refused fault out
runs_closed finished old bytes met refused out new left false carries = (
  None,
  runs_so_far finished finished old bytes met refused out new left (ends_so finished) carries.0
      (holds_none finished left carries.1),
)
runs_closed finished old bytes met refused out new left true carries = (Some carries.0, carries.1)

-- the writer fails at what waited
pub closed_err : {T : Type 0} (result : Result T RunFault) (finished : Bool) (old : World) (bytes : List ℕ)
    (before : RunSummary) (new : World) (left : List ℕ)
    (all all_refused : ℕ) (faulted : Bool) (sink_old sink sink_new : WriteLog) (waits : List ℕ)
    → Closed finished old bytes before new left all all_refused faulted sink_old sink waits
    → Sends sink sink_new waits (is_ok result)
    → OnErr result (Cuts old finished bytes sink_old sink_new)
closed_err (Ok value) finished old bytes before new left all all_refused faulted sink_old sink sink_new waits closed
    sends =
    tt
closed_err (Err fault) finished old bytes before new left all all_refused faulted sink_old sink sink_new waits closed
    sends =
    let runs = runs_closed finished old bytes closed.0 closed.1 closed.2 new left faulted closed.8 in (
      closed.0,
      closed.1,
      runs.0,
      closed.2,
      closed.3 ++ sends.0,
      sends.1,
      runs.1,
      closed.6 ∙ ap (λ xs. closed.3 ++ xs) sends.2 ∙ sym (append_assoc closed.3 sends.0 sends.1),
      Takes-then sink_old sink sink_new closed.3 sends.0 closed.7 sends.3,
    )

-- a run of the bytes that begins with this text
abbrev Begins : World → Bool → List ℕ → List ℕ → Type 0
Begins world ended bytes out =
    (met : ℕ) × (refused : ℕ) × (fault : Option ScriptFault) × (more : List ℕ)
    × RunsBytes world ended bytes met refused fault (out ++ more)

begins : (finished : Bool) (old : World) (bytes : List ℕ) (met refused : ℕ) (out : List ℕ) (world : World)
    (rest : List ℕ)
    → Carries finished old bytes met refused out world rest → Begins old finished bytes out
begins true old bytes met refused out world rest carries =
    let reading = a_reading rest in let commands = reading.0 in let fault = reading.1 in
    let text = run_output world commands fault in (
      met + length commands,
      refused + refused_count world commands,
      fault,
      text,
      runs_all true true old bytes met refused out world rest (length commands) (refused_count world commands) fault
          text (refl, refl) carries
          (commands, reading.2, plain_runs commands world fault, refl),
    )
begins false old bytes met refused out world rest carries = (
  met,
  refused,
  None,
  [],
  rw (append-nil out)
      (runs_so_far false false old bytes met refused out world rest tt carries tt),
)

begins_with : (finished : Bool) (old : World) (bytes : List ℕ) (met refused : ℕ) (out : List ℕ) (world after : World)
    (rest left text : List ℕ) (found : Met)
    → Carries finished old bytes met refused out world rest → Meets finished world rest after left found text
    → Begins old finished bytes (out ++ text)
begins_with finished old bytes met refused out world after rest left text kinds.Answer carries meets =
    begins finished old bytes (met + 1) (refused + 0) (out ++ text) after left
    (carries_more finished old bytes met refused out world after rest left text false carries meets)
begins_with finished old bytes met refused out world after rest left text kinds.Refusal carries meets =
    begins finished old bytes (met + 1) (refused + 1) (out ++ text) after left
    (carries_more finished old bytes met refused out world after rest left text true carries meets)
begins_with finished old bytes met refused out world after rest left text kinds.Fault carries meets = (
  met,
  refused,
  Some meets.0,
  [],
  rw (append-nil (out ++ text)) (runs_to_fault finished old bytes met refused out world after rest left text carries
      meets),
)
begins_with finished old bytes met refused out world after rest left text kinds.End carries meets =
    let same : out ++ text ≡ out = ap (λ xs. out ++ xs) meets.3 ∙ append-nil out in (
      met,
      refused,
      None,
      [],
      rw (append-nil (out ++ text), same)
          (runs_so_far finished finished old bytes met refused out world rest (ends_so finished) carries
          (holds_none finished rest meets.0)),
    )

-- the writer fails at this text
pub cuts : (finished : Bool) (old : World) (bytes : List ℕ) (before : RunSummary) (world after : World)
    (rest left text : List ℕ) (found : Met)
    (all all_refused : ℕ) (sink_old sink new : WriteLog) (waits left_waiting : List ℕ)
    → SoFar finished old bytes before world rest all all_refused sink_old sink waits
    → Meets finished world rest after left found text
    → Gathers sink waits new left_waiting (encode_utf8_all text) false
    → Cuts old finished bytes sink_old new
cuts finished old bytes before world after rest left text found all all_refused sink_old sink new waits left_waiting
    so_far meets gathers =
    let begun = begins_with finished old bytes so_far.0 so_far.1 so_far.2 world after rest left text found so_far.8
    meets in
    let is = more_bytes so_far.2 text so_far.3 waits gathers.0 gathers.1 so_far.6 gathers.2 in (
      begun.0,
      begun.1,
      begun.2,
      (so_far.2 ++ text) ++ begun.3,
      so_far.3 ++ gathers.0,
      gathers.1 ++ encode_utf8_all begun.3,
      begun.4,
      encodes-append (so_far.2 ++ text) begun.3 ∙ ap (λ xs. xs ++ encode_utf8_all begun.3) is
          ∙ append_assoc (so_far.3 ++ gathers.0) gathers.1 (encode_utf8_all begun.3),
      Takes-then sink_old sink new so_far.3 gathers.0 so_far.7 gathers.3,
    )

-- a turn of which it is known what it met and whether the writer failed
abbrev pub Turned : Bool → World → World → List ℕ → List ℕ → WriteLog → WriteLog → List ℕ → List ℕ → Met → Bool → Type 0
Turned finished world after rest left sink new waits left_waiting found done =
    (text : List ℕ) × Meets finished world rest after left found text
    × Gathers sink waits new left_waiting (encode_utf8_all text) done

from_not : (done is_cut : Bool) → not done ≡ is_cut → done ≡ not is_cut
from_not true is_cut is = ap not is
from_not false is_cut is = ap not is

pub turned : (finished : Bool) (world after : World) (rest left : List ℕ) (sink new : WriteLog)
    (waits left_waiting : List ℕ) (found kind : Met) (done is_cut : Bool)
    → found ≡ kind → not done ≡ is_cut → Turned finished world after rest left sink new waits left_waiting found done
    → Turned finished world after rest left sink new waits left_waiting kind (not is_cut)
turned finished world after rest left sink new waits left_waiting found kind done is_cut is cut turn =
    let is_done = from_not done is_cut cut in rw (is, is_done) at turn

-- From old to new reads were made, and the commands that are whole in the bytes that they brought were carried out and
-- answered.
abbrev pub Running : LimitTable → ReadLog → ReadLog → WriteLog → WriteLog → World → List ℕ → ℕ → ℕ → Type 0
Running limits source_old source sink_old sink world rest met refused =
    (read : List ℕ) × (out : List ℕ) × HandsOut source_old source read false × Takes sink_old sink (encode_utf8_all out)
    × Carries false (no_documents limits) read met refused out world rest

pub running_none : (limits : LimitTable) (source : ReadLog) (sink : WriteLog)
    → Running limits source source sink sink (no_documents limits) [] 0 0
running_none limits source sink =
    ([], [], HandsOut-nil source, Takes-nil sink, carries_none false (no_documents limits) [])

-- the last read brought this, but no more is run
pub running_lost : (limits : LimitTable) (source_old source source_new : ReadLog) (sink_old sink : WriteLog)
    (world : World) (rest : List ℕ) (met refused : ℕ) (piece : List ℕ)
    → Running limits source_old source sink_old sink world rest met refused → HandsOut source source_new piece false
    → WritesFront limits source_old source_new sink_old sink
running_lost limits source_old source source_new sink_old sink world rest met refused piece running hands =
    let runs = runs_so_far false false (no_documents limits) (running.0 ++ piece) met refused running.1 world
    (rest ++ piece) tt
    (carries_fed (no_documents limits) running.0 met refused running.1 world rest piece running.4) tt in (
      running.0 ++ piece,
      false,
      runs.0,
      None,
      running.1,
      refused,
      encode_utf8_all running.1,
      [],
      HandsOut-then source_old source source_new running.0 piece false running.2 hands,
      runs.1,
      runs.2,
      sym (append-nil (encode_utf8_all running.1)),
      running.3,
    )

pub running_stops : (limits : LimitTable) (source_old source : ReadLog) (sink_old sink : WriteLog) (world : World)
    (rest : List ℕ) (met refused : ℕ)
    → Running limits source_old source sink_old sink world rest met refused →
    WritesFront limits source_old source sink_old sink
running_stops limits source_old source sink_old sink world rest met refused running =
    running_lost limits source_old source source sink_old sink world rest met refused [] running (HandsOut-nil source)

-- the writer fails at what the last read brought
pub running_cut : (limits : LimitTable) (source_old source source_new : ReadLog) (sink_old sink sink_new : WriteLog)
    (world : World) (rest : List ℕ) (met refused : ℕ)
    (unread_now : Unread) (ended : Bool) → Running limits source_old source sink_old sink world rest met refused
    → Feeds source source_new rest unread_now ended → Cuts world unread_now.finished unread_now.rest sink sink_new
    → WritesFront limits source_old source_new sink_old sink_new
running_cut limits source_old source source_new sink_old sink sink_new world rest met refused unread_now ended running
    feeds cut_by =
    let piece = feeds.0 in
    let cut = rw feeds.3 at cut_by in
    let runs = runs_all false ended (no_documents limits) (running.0 ++ piece) met refused running.1 world
    (rest ++ piece) cut.0 cut.1 cut.2 cut.3 tt
    (carries_fed (no_documents limits) running.0 met refused running.1 world rest piece running.4) cut.6 in (
      running.0 ++ piece,
      ended,
      runs.0,
      cut.2,
      running.1 ++ cut.3,
      refused + cut.1,
      encode_utf8_all running.1 ++ cut.4,
      cut.5,
      HandsOut-then source_old source source_new running.0 piece ended running.2 feeds.1,
      runs.1,
      runs.2,
      encodes-append running.1 cut.3 ∙ ap (λ xs. encode_utf8_all running.1 ++ xs) cut.7
          ∙ sym (append_assoc (encode_utf8_all running.1) cut.4 cut.5),
      Takes-then sink_old sink sink_new (encode_utf8_all running.1) cut.4 running.3 cut.8,
    )

-- the run goes on behind what a read brought
pub running_more : (limits : LimitTable) (source_old source source_new : ReadLog) (sink_old sink sink_new : WriteLog)
    (world : World) (rest : List ℕ)
    (before : RunSummary) (unread_now : Unread) (new : World) (left : List ℕ) (after : RunSummary)
    → Running limits source_old source sink_old sink world rest before.commands before.refused
    → Feeds source source_new rest unread_now false → Carried world unread_now before new left after sink sink_new →
    after.script_fault ≡ false
    → Running limits source_old source_new sink_old sink_new new left after.commands after.refused
running_more limits source_old source source_new sink_old sink sink_new world rest before unread_now new left after
    running feeds carried_by unfaulted =
    let piece = feeds.0 in
    let carried = rw (feeds.3, unfaulted) at carried_by in (
      running.0 ++ piece,
      running.1 ++ carried.2,
      HandsOut-then source_old source source_new running.0 piece false running.2 feeds.1,
      rw (encodes-append running.1 carried.2)
          (Takes-then sink_old sink sink_new (encode_utf8_all running.1) (encode_utf8_all carried.2) running.3
          carried.6),
      rw (carried.4, carried.5)
          (carries_then false (no_documents limits) (running.0 ++ piece) before.commands before.refused running.1 world
          (rest ++ piece) carried.0 carried.1
          carried.2 new left (carries_fed (no_documents limits) running.0 before.commands before.refused running.1 world
          rest piece running.4) carried.3.0),
    )

or_fault : (ended : Bool) → (ended || true) ≡ true
or_fault true = refl
or_fault false = refl

-- a whole run
run_of : (limits : LimitTable) (source_old source source_new : ReadLog) (sink_old sink sink_new : WriteLog)
    (world : World) (rest : List ℕ)
    (before after : RunSummary) (ended : Bool) (piece : List ℕ) (met refused : ℕ) (fault : Option ScriptFault)
    (text : List ℕ)
    → Running limits source_old source sink_old sink world rest before.commands before.refused
    → HandsOut source source_new piece ended → RunsBytes world ended (rest ++ piece) met refused fault text →
    (ended || is_some fault) ≡ true
    → after.commands ≡ before.commands + met → after.refused ≡ before.refused + refused →
    after.script_fault ≡ is_some fault
    → Takes sink sink_new (encode_utf8_all text) → WritesRun limits source_old source_new sink_old sink_new after
run_of limits source_old source source_new sink_old sink sink_new world rest before after ended piece met refused fault
    text running hands runs_rest over all all_refused faulted takes =
    let runs = runs_all false ended (no_documents limits) (running.0 ++ piece) before.commands before.refused running.1
    world (rest ++ piece) met refused fault text tt
    (carries_fed (no_documents limits) running.0 before.commands before.refused running.1 world rest piece running.4)
    runs_rest in (
      running.0 ++ piece,
      ended,
      runs.0,
      fault,
      running.1 ++ text,
      HandsOut-then source_old source source_new running.0 piece ended running.2 hands,
      runs.1,
      over,
      rw all_refused runs.2,
      rw (encodes-append running.1 text)
          (Takes-then sink_old sink sink_new (encode_utf8_all running.1) (encode_utf8_all text) running.3 takes),
      all ∙ runs.3,
      faulted,
    )

-- the run ends at a script fault
pub run_to_fault : (limits : LimitTable) (source_old source source_new : ReadLog) (sink_old sink sink_new : WriteLog)
    (world : World) (rest : List ℕ)
    (before : RunSummary) (unread_now : Unread) (ended : Bool) (new : World) (left : List ℕ) (after : RunSummary)
    → Running limits source_old source sink_old sink world rest before.commands before.refused
    → Feeds source source_new rest unread_now ended → Carried world unread_now before new left after sink sink_new →
    after.script_fault ≡ true
    → WritesRun limits source_old source_new sink_old sink_new after
run_to_fault limits source_old source source_new sink_old sink sink_new world rest before unread_now ended new left
    after running feeds carried_by faulted =
    let carried = rw (feeds.3, faulted) at carried_by in
    run_of limits source_old source source_new sink_old sink sink_new world rest before after ended feeds.0 carried.0
    carried.1 (Some carried.3.0) carried.2
    running feeds.1 carried.3.1 (or_fault ended) carried.4 carried.5 faulted carried.6

-- the run ends with its script
pub run_to_end : (limits : LimitTable) (source_old source source_new : ReadLog) (sink_old sink sink_new : WriteLog)
    (world : World) (rest : List ℕ)
    (before : RunSummary) (unread_now : Unread) (new : World) (left : List ℕ) (after : RunSummary)
    → Running limits source_old source sink_old sink world rest before.commands before.refused
    → Feeds source source_new rest unread_now true → Carried world unread_now before new left after sink sink_new →
    after.script_fault ≡ false
    → WritesRun limits source_old source_new sink_old sink_new after
run_to_end limits source_old source source_new sink_old sink sink_new world rest before unread_now new left after
    running feeds carried_by unfaulted =
    let carried = rw (feeds.3, unfaulted) at carried_by in
    run_of limits source_old source source_new sink_old sink sink_new world rest before after true feeds.0 carried.0
    carried.1 None carried.2
    running feeds.1
    (runs_so_far true true world (rest ++ feeds.0) carried.0 carried.1 carried.2 new left (
      refl,
      refl,
    ) carried.3.0 carried.3.1)
    refl carried.4 carried.5 unfaulted carried.6

-- ---- the plain run, and runs in which allocations fail

-- what a run is next to the plain one
abbrev pub Compares : World → List (List (List ℕ)) → Option ScriptFault → List ℕ → ℕ → Type 0
Compares world commands fault out refused =
    IsPlain world commands fault out refused
    ⊎ (IsPlainOutput world commands fault out refused ⊎ IsPlainUpToRefusal world commands out)

later_refused : (few one other : ℕ) → one < other → few + one < few + other
later_refused few one other less = omega (arith, less)

-- a run up to a failed allocation, with one command more before it
cut_later : (world : World) (words : List (List ℕ)) (commands : List (List (List ℕ))) (out rest : List ℕ)
    → out ≡ piece words (step world words).reply ++ rest → IsPlainUpToRefusal (step world words).world commands rest
    → IsPlainUpToRefusal world (words ∷ commands) out
cut_later world words commands out rest is cut =
    let text = piece words (step world words).reply in
    let before = run_output (step world words).world cut.0 None in (
      words ∷ cut.0,
      cut.1,
      cut.2,
      cut.3,
      ap (λ cs. words ∷ cs) cut.4,
      is ∙ ap (λ more. text ++ more) cut.5 ∙ sym (append_assoc text before (memory_line ++ cut.3)),
      cut.6,
    )

-- after a command that is answered as in the plain run
plain_more : (world : World) (words : List (List ℕ)) (commands : List (List (List ℕ))) (fault : Option ScriptFault)
    (out rest : List ℕ) (refused others : ℕ)
    → out ≡ piece words (step world words).reply ++ rest → refused ≡ cond (is_err (step world words).reply) 1 0 + others
    → Compares (step world words).world commands fault rest others → Compares world (words ∷ commands) fault out refused
plain_more world words commands fault out rest refused others is count (inl plain) =
    inl (
      is ∙ ap (λ more. piece words (step world words).reply ++ more) plain.0,
      count ∙ ap (λ n. cond (is_err (step world words).reply) 1 0 + n) plain.1,
    )
plain_more world words commands fault out rest refused others is count (inr (inl same)) =
    let one : ℕ = cond (is_err (step world words).reply) 1 0 in
    let later = refused_count (step world words).world commands in
    inr (inl (
      is ∙ ap (λ more. piece words (step world words).reply ++ more) same.0,
      subst (λ n. one + later < n) (sym count) (later_refused one later others same.1),
    ))
plain_more world words commands fault out rest refused others is count (inr (inr cut)) =
    inr (inr (cut_later world words commands out rest is cut))

-- a run with the same output that refuses more commands
refused_more : (world : World) (commands : List (List (List ℕ))) (fault : Option ScriptFault) (out : List ℕ)
    (few refused : ℕ)
    → few < refused → Compares world commands fault out few → Compares world commands fault out refused
refused_more world commands fault out few refused less (inl plain) =
    inr (inl (plain.0, subst (λ n. n < refused) plain.1 less))
refused_more world commands fault out few refused less (inr (inl same)) =
    inr (inl (same.0, omega (arith, less, same.1)))
refused_more world commands fault out few refused less (inr (inr cut)) = inr (inr cut)

-- after a command that is refused where an allocation fails, and prints in the plain run what this prints
same_more : (world : World) (words : List (List ℕ)) (commands : List (List (List ℕ))) (fault : Option ScriptFault)
    (out rest : List ℕ) (refused others : ℕ)
    → out ≡ piece words (step world words).reply ++ rest → refused ≡ 1 + others
    → Compares (step world words).world commands fault rest others → Compares world (words ∷ commands) fault out refused
same_more world words commands fault out rest refused others is count later =
    elim (is_err (step world words).reply) as (λ b. is_err (step world words).reply ≡ b →
    Compares world (words ∷ commands) fault out refused) [
      | true ↦ λ err. plain_more world words commands fault out rest refused others is
          (count ∙ ap (λ b. cond b 1 0 + others) (sym err)) later
      | false ↦ λ ok. refused_more world (words ∷ commands) fault out (cond (is_err (step world words).reply) 1 0 + others)
          refused (subst (λ b. cond b 1 0 + others < refused) (sym ok) (omega (arith, count)))
          (plain_more world words commands fault out rest
          (cond (is_err (step world words).reply) 1 0 + others) others is refl later)
    ] refl

pub compared : (commands : List (List (List ℕ))) (world : World) (fault : Option ScriptFault) (out : List ℕ)
    (refused : ℕ)
    → RunsTo world commands fault out refused → Compares world commands fault out refused
compared [] world fault out refused runs = inl runs
compared (words ∷ commands) world fault out refused (inl by_step) =
    plain_more world words commands fault out by_step.0 refused by_step.1 by_step.2 by_step.3
    (compared commands (step world words).world fault by_step.0 by_step.1 by_step.4)
compared (words ∷ commands) world fault out refused (inr by_memory) =
    let text = piece words (step world words).reply in
    let later = compared commands world fault by_memory.0 by_memory.1 by_memory.4 in
    elim (bytes_eq text memory_line) as (λ b. bytes_eq text memory_line ≡ b →
    Compares world (words ∷ commands) fault out refused) [
      | true ↦ λ same.
          let line : text ≡ memory_line = (bytes_eq-Decides text memory_line).0 same in
          let kept : (step world words).world ≡ world = harmless world words line in
          same_more world words commands fault out by_memory.0 refused by_memory.1
          (by_memory.2 ∙ ap (λ xs. xs ++ by_memory.0) (sym line)) by_memory.3
          (subst (λ after. Compares after commands fault by_memory.0 by_memory.1) (sym kept) later)
      | false ↦ λ other. inr (inr (
        [],
        words,
        commands,
        by_memory.0,
        refl,
        by_memory.2,
        λ line. true≢false (sym ((bytes_eq-Decides text memory_line).1 line) ∙ other),
      ))
    ] refl
