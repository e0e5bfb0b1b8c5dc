-- What a turn of a run prints, and what it leaves.
use Rattle.script_cli.proofs.Common.{◌≡◌, ◌≢◌, ◌<◌, length, ℕ, Bool, true, List, None, inl, inr, refl, ap, rules}
use Rattle.script_cli.proofs.Common.{Result, Ok, Err, IfErr, is_err, Unread, TakesCommand, HasFault, StopsAt}
use Rattle.script_cli.proofs.Common.{ScriptFault, World, step, piece, Replies, MeetsCommand, Meets, goes_on, is_refusal}
use Rattle.script_cli.proofs.Common.{Met, false≢true, Answer, Fault}
use Rattle.command_effects.specs.declared.answers.Fault.TheVariants as fault
use Rattle.script_cli.specs.declared.turns.Met.TheVariants as met

-- a result that isn't want of memory is the step's
by_step : (world new : World) (words : List (List ℕ)) (reply : Result Answer Fault)
    → reply ≡ (step world words).reply → new ≡ (step world words).world →
    Replies world new words (is_err reply) (piece words reply)
by_step world new words reply same goes = inl (ap (piece words) same, ap is_err same, goes)

pub replies : (world new : World) (words : List (List ℕ)) (reply : Result Answer Fault)
    → (reply ≢ Err fault.Memory → reply ≡ (step world words).reply)
    → (reply ≢ Err fault.Memory → new ≡ (step world words).world)
    → IfErr reply (λ _. new ≡ world)
    → Replies world new words (is_err reply) (piece words reply)
replies world new words (Ok answer) same goes kept =
    by_step world new words (Ok answer) (same (search rules)) (goes (search rules))
replies world new words (Err fault.Memory) same goes kept = inr (refl, refl, kept)
replies world new words (Err fault) same goes kept =
    by_step world new words (Err fault) (same (search rules)) (goes (search rules))

-- the command that is taken
pub meets : (world after : World) (old new : Unread) (words : List (List ℕ)) (refused : Bool) (text : List ℕ)
    → length new.rest < length old.rest → TakesCommand old words new → Replies world after words refused text
    → MeetsCommand old.finished world old.rest after new.rest refused text
meets world after old new words refused text shorter takes reply = (words, takes.0, takes.2, shorter, takes.4, reply)

-- the fault that is met
pub meets_fault : (old new : Unread) (fault : ScriptFault) → old.fault ≡ None → StopsAt old fault new →
    HasFault old.finished old.rest fault
meets_fault old new fault none stops = let is = stops.0 in rw none at is

-- a command that was met goes on, and is refused or not
pub meets_command : (met : Met) (finished : Bool) (world after : World) (rest left text : List ℕ) → goes_on met ≡ true
    → MeetsCommand finished world rest after left (is_refusal met) text → Meets finished world rest after left met text
meets_command met.Answer finished world after rest left text on meets = meets
meets_command met.Refusal finished world after rest left text on meets = meets
meets_command met.Fault finished world after rest left text on meets = absurd (false≢true on)
meets_command met.End finished world after rest left text on meets = absurd (false≢true on)
