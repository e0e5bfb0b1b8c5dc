-- What a handle's session does, seen from the handle; and a command of a script that is carried out.
use Rattle.handles.proofs.Common.{◌≡◌, ℕ, Bool, List, Option, Some, refl, sym, subst, ap, ◌∙◌, Unread, TakesCommand}
use Rattle.handles.proofs.Common.{Session, Given, TurnEnd, CallEnd, Gives, Called, Calls, Fed, Feeds, Turns, Takes}
use Rattle.handles.proofs.Common.{status_after, State, state_of, CalledTold, CallsTold, TurnsTold, TakesTold}
use Rattle.handles.proofs.Common.{option_map}
use Rattle.handles.specs.declared.ends.FeedEnd.{FeedEnd}
use Rattle.handles.specs.declared.ends.Given.TheVariants as given
use Rattle.handles.specs.declared.ends.TurnEnd.TheVariants as turn

pub feeds-held : (was is : Option Session) (old new : Session) (bytes : List ℕ) (ended : FeedEnd) → was ≡ Some old →
    is ≡ Some new
    → Fed (state_of old) bytes (state_of new) ended →
    Feeds (option_map state_of was) bytes (option_map state_of is) ended
feeds-held was is old new bytes ended before after fed =
    subst (λ w. Feeds (option_map state_of w) bytes (option_map state_of is) ended) (sym before)
    (subst (λ i. Feeds (Some (state_of old)) bytes (option_map state_of i) ended) (sym after) fed)

pub calls-held : (was is : Option Session) (old new : Session) (lengths bytes : List ℕ) (ended : CallEnd) →
    was ≡ Some old → is ≡ Some new
    → Called (state_of old) lengths bytes (state_of new) ended →
    Calls (option_map state_of was) lengths bytes (option_map state_of is) ended
calls-held was is old new lengths bytes ended before after called =
    subst (λ w. Calls (option_map state_of w) lengths bytes (option_map state_of is) ended) (sym before)
    (subst (λ i. Calls (Some (state_of old)) lengths bytes (option_map state_of i) ended) (sym after) called)

pub takes-held : (was is : Option Session) (old new : Session) (ended : TurnEnd) → was ≡ Some old → is ≡ Some new
    → Turns (state_of old) (state_of new) ended → Takes (option_map state_of was) (option_map state_of is) ended
takes-held was is old new ended before after turns =
    subst (λ w. Takes (option_map state_of w) (option_map state_of is) ended) (sym before)
    (subst (λ i. Takes (Some (state_of old)) (option_map state_of i) ended) (sym after) turns)

pub calls_told-held : (marks : Bool) (was is : Option Session) (old new : Session) (lengths bytes : List ℕ)
    (ended : CallEnd) → was ≡ Some old → is ≡ Some new
    → CalledTold marks (state_of old) lengths bytes (state_of new) ended →
    CallsTold marks (option_map state_of was) lengths bytes (option_map state_of is) ended
calls_told-held marks was is old new lengths bytes ended before after called =
    subst (λ w. CallsTold marks (option_map state_of w) lengths bytes (option_map state_of is) ended) (sym before)
    (subst (λ i. CallsTold marks (Some (state_of old)) lengths bytes (option_map state_of i) ended) (sym after) called)

pub takes_told-held : (marks : Bool) (was is : Option Session) (old new : Session) (ended : TurnEnd) → was ≡ Some old
    → is ≡ Some new → TurnsTold marks (state_of old) (state_of new) ended →
    TakesTold marks (option_map state_of was) (option_map state_of is) ended
takes_told-held marks was is old new ended before after turns =
    subst (λ w. TakesTold marks (option_map state_of w) (option_map state_of is) ended) (sym before)
    (subst (λ i. TakesTold marks (Some (state_of old)) (option_map state_of i) ended) (sym after) turns)

-- a command is taken off the script and given to the world
turns-after : (old : State) (script : Unread) (said : State) (words : List (List ℕ)) (given : Given)
    → TakesCommand old.script words script → Gives (record old { script = script }) words said given
    → Turns old (record said { status = status_after given said.status }) (turn.Command given)
turns-after old script said words given.Answer takes gives =
    subst (λ x. Turns old (record x { status = status_after given.Answer x.status }) (turn.Command given.Answer))
    (sym gives.1)
    (words, takes, (gives.0, refl), refl)
turns-after old script said words given.Fault takes gives =
    subst (λ x. Turns old (record x { status = status_after given.Fault x.status }) (turn.Command given.Fault))
    (sym gives.1)
    (words, takes, (gives.0, refl, ap (λ (x : State). x.world) (sym gives.1) ∙ gives.2), refl)
turns-after old script said words given.Memory takes gives =
    subst (λ x. Turns old (record x { status = status_after given.Memory x.status }) (turn.Command given.Memory))
    (sym gives)
    (words, takes, refl, refl)

-- the same, and noted in the status
pub turns-on : (old : State) (script : Unread) (said new : State) (words : List (List ℕ)) (given : Given)
    → TakesCommand old.script words script → Gives (record old { script = script }) words said given
    → new ≡ record said { status = status_after given said.status } → Turns old new (turn.Command given)
turns-on old script said new words given takes gives noted =
    subst (λ x. Turns old x (turn.Command given)) (sym noted) (turns-after old script said words given takes gives)
