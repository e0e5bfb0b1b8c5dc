-- A document after an edit for which tags were made: it is carried out and reported, or all is as before.
use Rattle.documents.proofs.Common.{◌≡◌, ◌≢◌, ℕ, ◌+◌, Bool, true, List, None, Option, Result, Ok, Err, IfOk, OnOk}
use Rattle.documents.proofs.Common.{OnErr, length, take, sym, ap, subst, ◌∙◌, All, IsScalar, Tags, AreTags, AreLimits}
use Rattle.documents.proofs.Common.{LimitTable, Content, State, log_of, Action, Pair, all_names, total, with_names}
use Rattle.documents.proofs.Common.{names_of, excess, IsFront, Fault, Memory, Empty, Document, Parts, document_of}
use Rattle.documents.proofs.Common.{IsSound, Stands, Change, Does, refused, reply_of, EditTold, TellsCells, KnowsDelta}
use Rattle.documents.proofs.Common.{false≢true, key_pairs, keyed, planned, planned-made, told-planned, IfErr, IsOk, Box}
use Rattle.documents.proofs.Common.{IsTold, Delta, Effects, EditedText}
use Rattle.edit_ops.specs.States.{state_in as state_of_text}
use Rattle.documents.proofs.ChangeLaws.{Leaves, leaves-left}
use Rattle.documents.proofs.InsertionLaws.{IsListed, stands-back, with_tags}
use Rattle.documents.proofs.PlannedLaws.{keyed-before}
use Rattle.documents.proofs.StateLaws.{with_state}

-- what the edit leaves and reports
pub record IsSettled (limits : LimitTable) (new : Parts) (document : Document) (follows : Bool)
    (result : Result EditTold Fault) (change : Change) : Type 0 where
  pub sound : IsSound new
  pub does : Does limits document (document_of new) (reply_of result) change
  pub told : IsTold follows change document (document_of new) result

-- by what is known of the plan, of what is done with it, and of the edit
pub settled : {S P Q Z : Type 0} (content : S → Content) (outcome : Q → Content) (effects : Q → Option Effects)
    (delta : Q → Option (Box Delta Z)) (reason : Fault → Type 0) (change : LimitTable → Change)
    {limits given : LimitTable} {parts : Parts} {document : Document} {tags back : Tags} {front len : ℕ}
    {pairs : List Pair} {target : State} {follows asked : Bool} {actions : List Action} (text done : EditedText S P)
    (made : Result Q Fault) (result : Result EditTold Fault)
    → Stands parts document → front ≡ length parts.tags.tags → given ≡ limits → asked ≡ follows
    → AreLimits given → IsFront parts.tags tags → OnOk made (AreTags tags)
    → OnOk made (All (λ (pair : Pair). All IsScalar pair.text) pairs)
    → OnOk made (names_of tags.tags ≡ with_names (names_of parts.tags.tags) (all_names pairs))
    → OnOk made (excess given (length (with_names (names_of parts.tags.tags) (all_names pairs))) (len + total pairs)
    ≡ None)
    → (content text.store ≡ parts.content) × (log_of text.history ≡ parts.journal.log)
    × (text.anchors.items ≡ parts.journal.anchors)
    → IfOk made (λ plan. planned (effects plan) (outcome plan) parts.journal.anchors parts.journal.log ≡ target)
    → IfOk made (λ plan. KnowsDelta asked actions parts.content.cells (outcome plan).cells (delta plan))
    → IfErr made (λ fault. fault ≢ Memory → reason fault)
    → OnOk result (IsOk made) → OnOk result (back ≡ tags)
    → OnErr result (back ≡ record tags { tags = take front tags.tags }) → OnErr result (done ≡ text)
    → IfErr result (λ fault. fault ≢ Memory → made ≡ Err fault)
    → OnOk result (IfOk made (λ plan. state_of_text content done
    ≡ planned (effects plan) (outcome plan) text.anchors.items (log_of text.history)))
    → IfOk result (λ told. IfOk made (λ plan. (actions : List Action)
    → KnowsDelta true actions (content text.store).cells (outcome plan).cells (delta plan)
    → TellsCells actions (keyed (key_pairs parts.seats.entries back.tags) (content text.store).cells)
    (keyed (key_pairs parts.seats.entries back.tags) (content done.store).cells) told))
    → ((fault : Fault) → reason fault → change given ≡ refused document fault)
    → (IsListed given parts.tags tags pairs len → state_of_text content done ≡ target
    → Leaves given (with_state (with_tags tags parts) (state_of_text content done)) document (Ok Empty) (change given))
    → ((new : Document) → Does given document new (Ok Empty) (change given) → actions ≡ (change given).edits)
    → IsSettled limits (with_state (with_tags back parts) (state_of_text content done)) document follows result
    (change limits)
settled content outcome effects delta reason change {given = given} {parts} {document} {tags} {back} {len = len} {pairs}
    {follows = follows} text done (Ok plan) (Ok told) stands here limited asks bounds front sound scalars named fits same
    leads knows reasons is kept gone left failed does tells why leaves edits =
    let listed : IsListed given parts.tags tags pairs len = record {
      bounds = bounds;
      front = front;
      sound = sound;
      scalars = scalars;
      made = named;
      room = fits;
    } in
    let all = leaves listed (planned-made (effects plan) does same.2 same.1 leads) in
    let before = ap (λ (t : Tags). keyed (key_pairs parts.seats.entries t.tags) parts.content.cells) kept
    ∙ keyed-before stands sound front in
    let there = subst (λ tags. Leaves given (with_state (with_tags tags parts) (state_of_text content done)) document
    (Ok Empty) (change given)) (sym kept) all in
    subst (λ limits. IsSettled limits (with_state (with_tags back parts) (state_of_text content done)) document follows
    (Ok told) (change limits)) limited (record {
      sound = there.sound;
      does = there.does;
      told = λ wanted. told-planned (key_pairs parts.seats.entries back.tags) (delta plan) (outcome plan).cells
          (content done.store).cells tells (ap (λ (content : Content). content.cells) same.0) (asks ∙ wanted)
          (edits _ all.does) knows before;
    })
settled content outcome effects delta reason change text done (Err fault) (Ok told) stands here limited asks bounds front
    sound scalars named fits same leads knows reasons is kept gone left failed does tells why leaves edits =
    absurd (false≢true is)
settled content outcome effects delta reason change {parts = parts} {document} {back = back} {follows = follows} text done
    made (Err fault) stands here limited asks bounds front sound scalars named fits same leads knows reasons is kept gone
    left failed does tells why leaves edits =
    let all = leaves-left (subst (λ text. Stands (with_state (with_tags back parts) (state_of_text content text))
    document) (sym left) (stands-back stands here front gone same.0 same.1 same.2)) (λ other.
    why fault (subst (λ made. IfErr made (λ fault. fault ≢ Memory → reason fault)) (failed other) reasons other)) in
    subst (λ limits. IsSettled limits (with_state (with_tags back parts) (state_of_text content done)) document follows
    (Err fault) (change limits)) limited (record { sound = all.sound; does = all.does; told = λ _. tt })
