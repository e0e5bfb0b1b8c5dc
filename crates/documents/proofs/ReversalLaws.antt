-- A document after a group is undone or redone.
use Rattle.documents.proofs.Common.{ap₂, state_of, next_group, after_group, recounted, with_group, edit_group, puts-in}
use Rattle.documents.proofs.Common.{takes-out, stood-cells, replayed_group, ◌≡◌, ℕ, ◌+◌, ◌*◌, ◌<◌, ◌≤◌, ◌&&◌, true}
use Rattle.documents.proofs.Common.{false, List, [], ◌∷◌, Option, None, Some, Ok, length, refl, sym, ap, subst, ◌∙◌}
use Rattle.documents.proofs.Common.{arith, true≢false, option_and_then, IfSome, if◌then◌else◌, IsScalar, All, All-head}
use Rattle.documents.proofs.Common.{All-tail, option_and_then_some, same_Some, MOST_CHARS, Place, Content, AreLimits}
use Rattle.documents.proofs.Common.{LimitTable, length-inserted, length-removed, FitsText, put_in, take_out, repeated}
use Rattle.documents.proofs.Common.{repeated_group, limit_of, times, Action, action_redone, group_redone, put_back}
use Rattle.documents.proofs.Common.{redo_end, taken_back, Log, State, group-redone-text, redone-text, shared_slots}
use Rattle.documents.proofs.Common.{Empty, with_clipped, Document, Parts, Widget, document_of, widget_at, keys_between}
use Rattle.documents.proofs.Common.{without_cells, Stands, action_again, group_again, text_back, with_end, is_idle}
use Rattle.documents.proofs.Common.{IsWellFormedDocument, replays, none-some, Bool, ◌↔◌, ◌||◌, not, slice_get}
use Rattle.documents.proofs.Common.{numbers_of, KnowsDelta, planned, Result, option_map, back-undone, edited}
use Rattle.documents.proofs.Common.{AreScalars, known-shared, Box, IsSome, Delta, Effects}
use Rattle.documents.proofs.BackLaws.{group-replays, group-done}
use Rattle.edit_ops.proofs.ReplayLaws.{back-end, stood-within}
use Rattle.documents.proofs.ChangeLaws.{Leaves, does-changed}
use Rattle.documents.proofs.MeaningLaws.{insert-there}
use Rattle.documents.proofs.PartsLaws.{Sits, sits}
use Rattle.documents.proofs.ReplacementLaws.{name-stays, sits-yet, stands-clipped}
use Rattle.documents.proofs.StateLaws.{keys-put, stands-out, stands-put, state_in, with_log, with_state}
use Rattle.documents.proofs.ViewLaws.{counted}
use Rattle.documents.proofs.WellFormedLaws.{fits-kept}
use Rattle.std.specs.FinMap as finite
use Rattle.text_model.specs.Content as model
use Rattle.edit_ops.specs.Reversals as edits

-- ---- the actions of a group

-- the parts before the group, of which edits change the state alone
module _ (limit : ℕ) (parts : Parts) (bound : limit ≤ MOST_CHARS) where
  abbrev StandsAs : State → Document → Type 0
  StandsAs state document = Stands (with_state parts state) document

  stands-back : (at : ℕ) (text found : List ℕ) (state : State) (document : Document) → All IsScalar text →
      StandsAs state document → put_in limit at text (model.characters state.content.cells) ≡ Some found
      → StandsAs (put_back at text state) (text_back at text document)
  stands-back at text found state document scalars stands is =
      let puts = puts-in limit at text (model.characters state.content.cells) found is in
      let inside = puts.inside in let short = puts.short in let count = counted state.content in
      let within : at < length state.content.cells = omega (arith, inside, count) in
      stands-put (with_state parts state) document at text (shared_slots at state.content.cells)
      (keys_between document.cells at) stands within (omega (arith, short, count, bound)) scalars
      (known-shared parts.seats.entries parts.tags.tags at state.content.cells stands.sound.kept.known within)
      (keys-put (with_state parts state) document at None stands within)

  stands-taken : (at : ℕ) (text found : List ℕ) (state : State) (document : Document) → StandsAs state document →
      take_out at text (model.characters state.content.cells) ≡ Some found
      → StandsAs (taken_back at (at + length text) state) (without_cells at (at + length text) document)
  stands-taken at text found state document stands is =
      let takes = takes-out at text (model.characters state.content.cells) found is in
      let inside = takes.inside in
      stands-out (with_state parts state) document at (at + length text) stands (omega arith)
      (omega (arith, inside, counted state.content))

  stands-again : (action : Action) (found : List ℕ) (state : State) (document : Document) → All IsScalar action.text →
      StandsAs state document → repeated limit action (model.characters state.content.cells) ≡ Some found
      → StandsAs (action_redone action state) (action_again action document)
  stands-again action found state document scalars stands is =
      elim action.inserts as (λ b. (if b then put_in limit action.at action.text (model.characters state.content.cells)
      else take_out action.at action.text (model.characters state.content.cells)) ≡ Some found
      → StandsAs (if b then put_back action.at action.text state
      else taken_back action.at (action.at + length action.text) state)
      (if b then text_back action.at action.text document
      else without_cells action.at (action.at + length action.text) document)) [
        | true ↦ stands-back action.at action.text found state document scalars stands
        | false ↦ stands-taken action.at action.text found state document stands
      ] is

  group-again : (group : List Action) (found : List ℕ) (state : State) (document : Document) → AreScalars group →
      StandsAs state document
      → repeated_group limit group (model.characters state.content.cells) ≡ Some found →
      StandsAs (group_redone group state) (group_again group document)
  group-again [] found state document scalars stands is = stands
  group-again (action ∷ actions) found state document scalars stands is =
      let P = λ (a : Action). All IsScalar a.text in
      option_and_then_some (repeated_group limit actions) (repeated limit action (model.characters state.content.cells))
      found is (λ between one others.
      group-again actions found (action_redone action state) (action_again action document)
      (All-tail P action actions scalars)
      (stands-again action between state document (All-head P action actions scalars) stands one)
      (ap (repeated_group limit actions) (redone-text limit action between state one) ∙ others))

-- ---- where a group ends

-- the widget's `insert` stands there
ended : (limits : LimitTable) (parts : Parts) (made : State) (before document : Document) (place slot : ℕ)
    (end : Option ℕ) → Sits parts before place slot → Stands (with_state parts made) document
    → IfSome end (λ at. at ≤ length made.content.cells)
    → Stands (with_state parts (record made { content = edits.stood (2 * slot) end parts.content made.content }))
    (with_end (widget_at before place) end document)
ended limits parts made before document place slot end seated stands within =
    let widget : Widget = widget_at before place in
    let at_end : Place → Option Place = λ p. option_map (λ at. record p { offset = at }) end in
    let found = option_and_then at_end (finite.get parts.content.marks (2 * slot)) in
    let same : found ≡ at_end widget.insert = ap (option_and_then at_end) (insert-there parts before place slot seated)
    in
    let put = stands-clipped limits (with_state parts made) document place slot widget found stands
    (sits-yet parts (with_state parts made) before document place slot seated stands refl)
    (name-stays parts (with_state parts made) before document place slot seated stands refl)
    (λ target. stood-within (finite.get parts.content.marks (2 * slot)) end (length made.content.cells) target within) in
    subst (λ o.
    Stands (with_state parts (record made { content = edits.stood (2 * slot) end parts.content made.content }))
    (with_clipped widget o document)) same put

-- an action that was made ends in the text
put-end : (limit at : ℕ) (new text found : List ℕ) → put_in limit at new text ≡ Some found →
    at + length new ≤ length found
put-end limit at new text found is =
    let puts = puts-in limit at new text found is in
    let inside = puts.inside in
    omega (arith, inside, length-inserted at new text (omega (arith, inside)), ap length puts.is)

take-end : (at : ℕ) (gone text found : List ℕ) → take_out at gone text ≡ Some found → at ≤ length found
take-end at gone text found is =
    let takes = takes-out at gone text found is in
    let inside = takes.inside in
    let long = length-removed at (at + length gone) text (omega arith) (omega (arith, inside)) in
    omega (arith, inside, long, ap length takes.is)

repeated-end : (limit : ℕ) (action : Action) (text found : List ℕ) → repeated limit action text ≡ Some found →
    (if action.inserts then action.at + length action.text else action.at) ≤ length found
repeated-end limit action text found is =
    elim action.inserts as (λ b. (if b then put_in limit action.at action.text text
    else take_out action.at action.text text) ≡ Some found
    → (if b then action.at + length action.text else action.at) ≤ length found) [
      | true ↦ put-end limit action.at action.text text found
      | false ↦ take-end action.at action.text text found
    ] is

end-within : (limit : ℕ) (group : List Action) (text found : List ℕ) →
    repeated_group limit group text ≡ Some found → IfSome (redo_end group) (λ at. at ≤ length found)
end-within limit [] text found is = tt
end-within limit (action ∷ []) text found is =
    option_and_then_some (repeated_group limit []) (repeated limit action text) found is (λ between one others.
    repeated-end limit action text found (one ∙ others))
end-within limit (action ∷ next ∷ actions) text found is =
    option_and_then_some (repeated_group limit (next ∷ actions)) (repeated limit action text) found is
    (λ between one others. end-within limit (next ∷ actions) between found others)

-- ---- what is kept of the edits then

stands-log : (parts : Parts) (document : Document) (log : Log) → Stands parts document →
    parts.journal.settings.undo ≡ true → log.most ≡ limit_of parts.journal.settings.most_undo
    → Stands (with_log log parts) (record document { history = log.history; modified = log.modified })
stands-log parts document log stands on most =
    let sound = stands.sound in
    record {
      sound = record {
        kept = sound.kept;
        marked = sound.marked;
        orderly = record {
          most = most;
          groups = λ off. absurd (true≢false (sym on ∙ off));
          undone = λ off. absurd (true≢false (sym on ∙ off));
        };
        views = record { anchored = sound.views.anchored; seated = sound.views.seated };
      };
      is = ap (λ (d : Document). record d { history = log.history; modified = log.modified }) stands.is;
    }

-- ---- the whole commands

-- what is known of the actions that are made
pub record AreReplays (limits : LimitTable) (actions : List Action) : Type 0 where
  pub bounds : AreLimits limits
  pub scalars : AreScalars actions

-- actions are kept, and the widget isn't idle
pub record CanRevert (parts : Parts) (document : Document) (place slot : ℕ) : Type 0 where
  pub stands : Stands parts document
  pub sits : Sits parts document place slot
  pub on : parts.journal.settings.undo ≡ true
  pub active : is_idle document (widget_at document place) ≡ false

pub can-revert : {parts : Parts} {document : Document} {slot : ℕ} {found stays : Bool} (place : ℕ)
    → Stands parts document → slice_get (numbers_of parts.seats.entries) place ≡ Some slot
    → stays ≡ (not document.undo || (found && is_idle document (widget_at document place))) → stays ≡ false
    → found ≡ true → CanRevert parts document place slot
can-revert {parts} {document} place stands seated is goes some =
    let idle : Bool = is_idle document (widget_at document place) in
    let both = by document.undo idle (ap (λ b. not document.undo || (b && idle)) (sym some) ∙ sym is ∙ goes) in
    record {
      stands = stands;
      sits = sits place stands seated;
      on = ap (λ (d : Document). d.undo) stands.is ∙ both.0;
      active = both.1;
    }
  where
    by : (undo idle : Bool) → (not undo || idle) ≡ false → (undo ≡ true) × (idle ≡ false)
    by false idle never = absurd (true≢false never)
    by true idle active = (refl, active)

-- what a plan of a group knows of the group, and makes of the text
pub record IsReversal (limits : LimitTable) (follows back : Bool) (found : Option (List Action)) (made : State → State)
    (old : State) (outcome : Content) (effects : Option Effects) {Z : Type 0} (delta : Option (Box Delta Z)) : Type 0
  where
    pub group : List Action
    pub is : found ≡ Some group
    pub sound : AreReplays limits (replays back group)
    pub makes : planned effects outcome old.anchors old.log ≡ made old
    pub knows : KnowsDelta follows (replays back group) old.content.cells outcome.cells delta

pub reversal : {Q E Z : Type 0} (outcome : Q → Content) (effects : Q → Option Effects)
    (delta : Q → Option (Box Delta Z)) {limits given : LimitTable} {follows back : Bool} {made : State → State}
    {old : State} {result : Result (Option Q) E} (found : Option (List Action)) (planned_group : Option Q) {plan : Q}
    → (result ≡ Ok None ↔ found ≡ None) → result ≡ Ok planned_group → planned_group ≡ Some plan → given ≡ limits
    → (IsSome found → AreLimits given) → IfSome found (λ group. AreScalars (replays back group))
    → IfSome planned_group (λ plan. planned (effects plan) (outcome plan) old.anchors old.log ≡ made old)
    → IfSome found (λ group. IfSome planned_group (λ plan.
    KnowsDelta follows (replays back group) old.content.cells (outcome plan).cells (delta plan)))
    → IsReversal limits follows back found made old (outcome plan) (effects plan) (delta plan)
reversal outcome effects delta found None {plan = plan} none was is same bounds scalars makes knows =
    absurd (none-some plan is)
reversal outcome effects delta None (Some other) none was is same bounds scalars makes knows =
    absurd (let h : Ok (Some other) ≡ Ok None = sym was ∙ none.1 refl in cc)
reversal outcome effects delta {limits = limits} {follows = follows} {back} {made} {old} (Some group) (Some other) none
    was is same bounds scalars makes knows =
    subst (λ plan. IsReversal limits follows back (Some group) made old (outcome plan) (effects plan) (delta plan))
    (same_Some other _ is) (record {
      group = group;
      is = refl;
      sound = record { bounds = subst AreLimits same (bounds refl); scalars = scalars };
      makes = makes;
      knows = knows;
    })

-- what a group makes of a state
abbrev pub log_after : Bool → List Action → Log → Log
log_after back group log = record log {
  history = after_group back group log.most log.history;
  modified = times (length group) (recounted back) log.modified;
}

abbrev pub moved_back : Bool → ℕ → State → State
moved_back back mark state = if back then edits.undone mark state else edits.redone mark state

moved-is : (back : Bool) (mark : ℕ) (state : State) (group : List Action) →
    next_group back state.log.history ≡ Some group
    → moved_back back mark state
    ≡ record (replayed_group mark (replays back group) state) { log = log_after back group state.log }
moved-is true mark state group is =
    ap (λ found. edits.undone_group mark found state) is
    ∙ sym (ap₂ (λ (made : State) end. state_of (edits.stood mark end state.content made.content) made.anchors
    (log_after true group state.log)) (back-undone group state) (back-end group))
moved-is false mark state group is = ap (λ found. edits.redone_group mark found state) is

-- the command does what its plan knows
pub group-edits : {old : Parts} {document : Document} {place slot : ℕ} {group : List Action} (back : Bool)
    → CanRevert old document place slot → next_group back old.journal.log.history ≡ Some group
    → edit_group back document (widget_at document place)
    ≡ edited (with_group back (widget_at document place) group document) (replays back group)
group-edits {document = document} {place} {group} back can is =
    group-done back document (widget_at document place) group
    (ap (λ (d : Document). d.undo) (sym can.stands.is) ∙ can.on)
    (ap (λ (d : Document). next_group back d.history) (sym can.stands.is) ∙ is) can.active

pub leaves-group : {limits : LimitTable} {old : Parts} {state : State} {document : Document} {place slot : ℕ}
    {group : List Action} (back : Bool) → CanRevert old document place slot
    → next_group back old.journal.log.history ≡ Some group → AreReplays limits (replays back group)
    → IsWellFormedDocument limits document → state ≡ moved_back back (2 * slot) (state_in old)
    → Leaves limits (with_state old state) document (Ok Empty) (edit_group back document (widget_at document place))
leaves-group {limits} {old} {state} {document} {place} {slot} {group} back can is reverts formed state_is =
    let widget : Widget = widget_at document place in
    let stands = can.stands in
    let before : State = state_in old in
    let log : Log = log_after back group old.journal.log in
    let actions = replays back group in
    let bounds = reverts.bounds.chars in
    let goes = group-replays back limits.chars old.journal.log.most old.journal.log.history
    (model.characters old.content.cells) group (fits-kept limits old document stands.is formed) is in
    let again = group-again limits.chars old (omega (arith, bounds)) actions goes.found before document reverts.scalars
    stands goes.is in
    let left : State = group_redone actions before in
    let text = group-redone-text limits.chars actions goes.found before goes.is in
    let within = subst (λ n. IfSome (redo_end actions) (λ at. at ≤ n)) (sym (ap length text) ∙ counted left.content)
    (end-within limits.chars actions (model.characters old.content.cells) goes.found goes.is) in
    let end = ended limits old left document (group_again actions document) place slot (redo_end actions) can.sits again
    within in
    let made : State = replayed_group (2 * slot) actions before in
    let all = stands-log (with_state old made) (with_end widget (redo_end actions) (group_again actions document)) log
    end can.on stands.sound.orderly.most in
    let histories = ap (λ (d : Document). d.history) stands.is in
    let counts = ap (λ (d : Document). d.modified) stands.is in
    let most = stands.sound.orderly.most ∙ ap (λ (d : Document). limit_of d.most_undo) stands.is in
    let all_is : document_of (with_state old (record made { log = log })) ≡ with_group back widget group document =
    all.is ∙ λ i. record (with_end widget (redo_end actions) (group_again actions document)) {
      history = after_group back group (most i) (histories i);
      modified = times (length group) (recounted back) (counts i);
    } in
    subst (λ (s : State). Leaves limits (with_state old s) document (Ok Empty) (edit_group back document widget))
    (sym (state_is ∙ moved-is back (2 * slot) before group is))
    (does-changed stands (record {
      sound = all.sound;
      is = group-edits back can is ∙ ap (λ d. edited d actions) (sym all_is);
      fits = λ _. subst (λ xs. FitsText limits.chars xs log.history)
          (sym (ap model.characters (stood-cells (2 * slot) _ left.content) ∙ text)) goes.fits;
      tags = λ few. few;
      marks = λ few. few;
      seats = refl;
    }))
