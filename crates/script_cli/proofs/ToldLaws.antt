-- A run over devices that tell their bytes.
use Rattle.script_cli.proofs.Common.{◌≡◌, ℕ, ◌+◌, ◌||◌, Bool, true, false, cond, List, [], ◌∷◌, ◌++◌, length, Option}
use Rattle.script_cli.proofs.Common.{None, Some, inl, inr, refl, ap, ◌∙◌, append_assoc, arith, encode_utf8_all, is_some}
use Rattle.script_cli.proofs.Common.{is_err, IfSome, Err, false≢true, append-nil, encodes-append, LimitTable}
use Rattle.script_cli.proofs.Common.{ReadsScript, ReadsFront, ScriptFault, a_reading, World, step, Memory, RunSummary}
use Rattle.script_cli.proofs.Common.{ReadLog, WriteLog, Consumes, LeavesNone, Appends, piece, no_documents, run_output}
use Rattle.script_cli.proofs.Common.{refused_count, RunsTo, Holds, WritesRun, WritesFront, WritesRunOf, WritesFrontOf}
use Rattle.script_cli.proofs.Common.{WritesFrontOfRead}
use Rattle.script_cli.proofs.RunLaws.{plain_runs}

-- a front with a fault is the script, however it goes on
front_reads : (commands : List (List (List ℕ))) (read rest : List ℕ) (fault : ScriptFault) →
    ReadsFront read commands (Some fault)
    → ReadsScript (read ++ rest) commands (Some fault)
front_reads [] read rest fault holds = holds rest
front_reads (words ∷ commands) read rest fault reads = (
  reads.0,
  reads.1 ++ rest,
  ap (λ xs. xs ++ rest) reads.2 ∙ append_assoc reads.0 reads.1 rest,
  inl reads.3,
  front_reads commands reads.1 rest fault reads.4,
)

-- the script of which these bytes were read, and these are left
holds_script : (ended : Bool) (read rest : List ℕ) (commands : List (List (List ℕ))) (fault : Option ScriptFault) →
    LeavesNone ended (Some rest)
    → (ended || is_some fault) ≡ true → Holds ended read commands fault → ReadsScript (read ++ rest) commands fault
holds_script true read rest commands fault none over holds = rw (none, append-nil read) holds
holds_script false read rest commands None none over holds = absurd (false≢true over)
holds_script false read rest commands (Some fault) none over holds = front_reads commands read rest fault holds

told_run_at : (limits : LimitTable) (left now : Option (List ℕ)) (read : List ℕ) (ended : Bool)
    (commands : List (List (List ℕ))) (fault : Option ScriptFault)
    (out : List ℕ) (old new : Option (List ℕ)) (summary : RunSummary) → Consumes left now read → LeavesNone ended now
    → (ended || is_some fault) ≡ true → Holds ended read commands fault
    → RunsTo (no_documents limits) commands fault out summary.refused → Appends old new (encode_utf8_all out)
    → summary.commands ≡ length commands → summary.script_fault ≡ is_some fault
    → IfSome left (λ script. WritesRunOf limits script old new summary)
told_run_at limits None now read ended commands fault out old new summary consumed none over holds runs appends count
    faulted =
    tt
told_run_at limits (Some script) now read ended commands fault out old new summary consumed none over holds runs appends count faulted = (
  commands,
  fault,
  out,
  rw consumed.2 (holds_script ended read consumed.0 commands fault (rw consumed.1 at none) over holds),
  runs,
  appends,
  count,
  faulted,
)

pub told_run : (limits : LimitTable) (source_old source_new : ReadLog) (sink_old sink_new : WriteLog)
    (summary : RunSummary)
    → WritesRun limits source_old source_new sink_old sink_new summary
    → IfSome source_old.left (λ script. WritesRunOf limits script sink_old.held sink_new.held summary)
told_run limits source_old source_new sink_old sink_new summary run =
    told_run_at limits source_old.left source_new.left run.0 run.1 run.2 run.3 run.4 sink_old.held sink_new.held summary
    run.5.2 run.5.3 run.7 run.6 run.8
    run.9.1 run.10 run.11

-- a run of the script that begins with a run of its front
abbrev Extends : World → List ℕ → List ℕ → Type 0
Extends world script out =
    (commands : List (List (List ℕ))) × (fault : Option ScriptFault) × (more : List ℕ) × (refused : ℕ)
    × ReadsScript script commands fault × RunsTo world commands fault (out ++ more) refused

extends_nil : (world : World) (script out : List ℕ) → out ≡ [] → Extends world script out
extends_nil world script out none =
    let reading = a_reading script in let commands = reading.0 in let fault = reading.1 in (
      commands,
      fault,
      run_output world commands fault,
      refused_count world commands,
      reading.2,
      rw none (plain_runs commands world fault),
    )

extends : (commands : List (List (List ℕ))) (world : World) (read rest out : List ℕ) (refused : ℕ) →
    ReadsFront read commands None
    → RunsTo world commands None out refused → Extends world (read ++ rest) out
extends [] world read rest out refused reads runs = extends_nil world (read ++ rest) out runs.0
extends (words ∷ commands) world read rest out refused reads (inl by_step) =
    let after = extends commands (step world words).world reads.1 rest by_step.0 by_step.1 reads.4 by_step.4 in
    let text = piece words (step world words).reply in (
      words ∷ after.0,
      after.1,
      after.2,
      cond (is_err (step world words).reply) 1 0 + after.3,
      (
        reads.0,
        reads.1 ++ rest,
        ap (λ xs. xs ++ rest) reads.2
            ∙ append_assoc reads.0 reads.1 rest,
        inl reads.3,
        after.4,
      ),
      inl (
        by_step.0 ++ after.2,
        after.3,
        ap (λ xs. xs ++ after.2) by_step.2
            ∙ append_assoc text by_step.0 after.2,
        refl,
        after.5,
      ),
    )
extends (words ∷ commands) world read rest out refused reads (inr by_memory) =
    let after = extends commands world reads.1 rest by_memory.0 by_memory.1 reads.4 by_memory.4 in
    let text = piece words (Err Memory) in (
      words ∷ after.0,
      after.1,
      after.2,
      1 + after.3,
      (
        reads.0,
        reads.1 ++ rest,
        ap (λ xs. xs ++ rest) reads.2
            ∙ append_assoc reads.0 reads.1 rest,
        inl reads.3,
        after.4,
      ),
      inr (
        by_memory.0 ++ after.2,
        after.3,
        ap (λ xs. xs ++ after.2) by_memory.2
            ∙ append_assoc text by_memory.0 after.2,
        refl,
        after.5,
      ),
    )

as_it_is : (world : World) (script out : List ℕ) (commands : List (List (List ℕ))) (fault : Option ScriptFault)
    (refused : ℕ)
    → ReadsScript script commands fault → RunsTo world commands fault out refused → Extends world script out
as_it_is world script out commands fault refused reads runs =
    (commands, fault, [], refused, reads, rw (append-nil out) runs)

extends_held : (ended : Bool) (world : World) (read rest : List ℕ) (commands : List (List (List ℕ)))
    (fault : Option ScriptFault) (out : List ℕ) (refused : ℕ)
    → LeavesNone ended (Some rest) → Holds ended read commands fault → RunsTo world commands fault out refused →
    Extends world (read ++ rest) out
extends_held true world read rest commands fault out refused none holds runs =
    as_it_is world (read ++ rest) out commands fault refused (rw (none, append-nil read) holds) runs
extends_held false world read rest commands None out refused none holds runs =
    extends commands world read rest out refused holds runs
extends_held false world read rest commands (Some fault) out refused none holds runs =
    as_it_is world (read ++ rest) out commands (Some fault) refused (front_reads commands read rest fault holds) runs

told_front_at : (limits : LimitTable) (left now : Option (List ℕ)) (read : List ℕ) (ended : Bool)
    (commands : List (List (List ℕ))) (fault : Option ScriptFault)
    (out : List ℕ) (refused : ℕ) (front back : List ℕ) (old new : Option (List ℕ)) → Consumes left now read →
    LeavesNone ended now
    → Holds ended read commands fault → RunsTo (no_documents limits) commands fault out refused →
    encode_utf8_all out ≡ front ++ back → Appends old new front
    → IfSome left (λ script. WritesFrontOf limits script old new)
told_front_at limits None now read ended commands fault out refused front back old new consumed none holds runs is
    appends =
    tt
told_front_at limits (Some script) now read ended commands fault out refused front back old new consumed none holds runs
    is appends =
    let all = extends_held ended (no_documents limits) read consumed.0 commands fault out refused
    (rw consumed.1 at none) holds runs in (
      all.0,
      all.1,
      out ++ all.2,
      all.3,
      front,
      back ++ encode_utf8_all all.2,
      rw consumed.2 all.4,
      all.5,
      encodes-append out all.2 ∙ ap (λ xs. xs ++ encode_utf8_all all.2) is
          ∙ append_assoc front back (encode_utf8_all all.2),
      appends,
    )

pub told_front : (limits : LimitTable) (source_old source_new : ReadLog) (sink_old sink_new : WriteLog)
    → WritesFront limits source_old source_new sink_old sink_new
    → IfSome source_old.left (λ script. WritesFrontOf limits script sink_old.held sink_new.held)
told_front limits source_old source_new sink_old sink_new cut =
    told_front_at limits source_old.left source_new.left cut.0 cut.1 cut.2 cut.3 cut.4 cut.5 cut.6 cut.7 sink_old.held
    sink_new.held cut.8.2 cut.8.3 cut.9
    cut.10 cut.11 cut.12.1

told_read_at : (limits : LimitTable) (left now : Option (List ℕ)) (read : List ℕ) (commands : List (List (List ℕ)))
    (fault : Option ScriptFault)
    (out : List ℕ) (refused : ℕ) (front back : List ℕ) (old new : Option (List ℕ)) → Consumes left now read
    → ReadsFront read commands fault → RunsTo (no_documents limits) commands fault out refused →
    encode_utf8_all out ≡ front ++ back → Appends old new front
    → IfSome left (λ script. WritesFrontOfRead limits script now old new)
told_read_at limits None now read commands fault out refused front back old new consumed holds runs is appends = tt
told_read_at limits (Some script) now read commands fault out refused front back old new consumed holds runs is appends
    =
    rw consumed.1 (read, consumed.2, commands, fault, out, refused, front, back, holds, runs, is, appends)

none_ended : (ended : Bool) (old new : ℕ) → new ≡ old + cond ended 1 0 → new ≡ old → ended ≡ false
none_ended false old new counted same = refl
none_ended true old new counted same = absurd (omega (arith, counted, same))

pub told_read : (limits : LimitTable) (source_old source_new : ReadLog) (sink_old sink_new : WriteLog)
    → WritesFront limits source_old source_new sink_old sink_new → source_new.ends ≡ source_old.ends
    → IfSome source_old.left (λ script. WritesFrontOfRead limits script source_new.left sink_old.held sink_new.held)
told_read limits source_old source_new sink_old sink_new cut same =
    let is = none_ended cut.1 source_old.ends source_new.ends cut.8.1 same in
    told_read_at limits source_old.left source_new.left cut.0 cut.2 cut.3 cut.4 cut.5 cut.6 cut.7 sink_old.held
    sink_new.held cut.8.2 (rw is at cut.9)
    cut.10 cut.11 cut.12.1
