-- What is told of a command of a widget; and one that is no edit of the text or of tags leaves the characters with
-- their tags.
use Rattle.peers.proofs.Common.{◌≡◌, ◌≢◌, ℕ, Bool, true, false, List, [], Ok, Err, refl, sym, ap, ◌∙◌, subst, IfOk}
use Rattle.peers.proofs.Common.{Result, true≢false, LimitTable, Command, Delete, EditRedo, EditUndo, Insert, Replace}
use Rattle.peers.proofs.Common.{TagAdd, TagDelete, TagRemove, Answer, Fault, Memory, Document, Widget, Change, Does}
use Rattle.peers.proofs.Common.{done, answer_of, no_edit, is_told, AreTold, edited, Told, TellsCells, IsTold, reply_of}
use Rattle.reports.specs.declared.told.EditTold.{EditTold}
use Rattle.peers.specs.Told.{answered}
use Rattle.documents.proofs.StillCellLaws.{HasCellsOf, cells-marked, cells-quiet}
use Rattle.peers.proofs.DoneLaws.{IsTagEdit, IsTextEdit, calling, other-done, quiet-done, marks-done as moved-done}
use Rattle.reports.proofs.ReportLaws.{still-tells}
use Rattle.peers.proofs.PromiseLaws.{value≢memory}
use Rattle.peers.proofs.StillTextLaws.{still-text}

-- ---- commands that leave the characters with their tags

module _ (limits : LimitTable) (windows : List (List ℕ)) (document : Document) (widget : Widget) where
  pub cells-done : (command : Command) (switches : List (List ℕ)) (position : ℕ) (arguments : List (List ℕ))
      → (IsTextEdit command → ⊥) → (IsTagEdit command → ⊥)
      → HasCellsOf document (done command document (calling limits windows widget switches position arguments)).document
  cells-done command switches position arguments text tags =
      quiet-done limits document widget (HasCellsOf document) (cells-quiet limits document widget) command windows
      switches position arguments (λ edit. absurd (text edit)) (λ edit. absurd (tags edit))
      (moved-done limits document widget (HasCellsOf document) refl (cells-marked limits document widget) command
      windows switches position arguments)
      (other-done limits windows document widget (HasCellsOf document) refl (λ settings. refl) (λ name settings. refl)
      refl command switches position arguments)

-- a command that isn't one of those edits neither the text nor tags
pub quiet-else : (command : Command) → command ≢ Insert → command ≢ Delete → command ≢ Replace → command ≢ EditUndo →
    command ≢ EditRedo → command ≢ TagAdd → command ≢ TagRemove → command ≢ TagDelete → is_told command ≡ false
quiet-else Insert insert delete replace undo redo add remove gone = absurd (insert refl)
quiet-else Delete insert delete replace undo redo add remove gone = absurd (delete refl)
quiet-else Replace insert delete replace undo redo add remove gone = absurd (replace refl)
quiet-else EditUndo insert delete replace undo redo add remove gone = absurd (undo refl)
quiet-else EditRedo insert delete replace undo redo add remove gone = absurd (redo refl)
quiet-else TagAdd insert delete replace undo redo add remove gone = absurd (add refl)
quiet-else TagRemove insert delete replace undo redo add remove gone = absurd (remove refl)
quiet-else TagDelete insert delete replace undo redo add remove gone = absurd (gone refl)
quiet-else command insert delete replace undo redo add remove gone = refl

quiet-text : (command : Command) → is_told command ≡ false → IsTextEdit command → ⊥
quiet-text Insert quiet edit = true≢false quiet
quiet-text Delete quiet edit = true≢false quiet
quiet-text Replace quiet edit = true≢false quiet
quiet-text EditUndo quiet edit = true≢false quiet
quiet-text EditRedo quiet edit = true≢false quiet
quiet-text command quiet edit = edit

quiet-tags : (command : Command) → is_told command ≡ false → IsTagEdit command → ⊥
quiet-tags TagAdd quiet edit = true≢false quiet
quiet-tags TagRemove quiet edit = true≢false quiet
quiet-tags TagDelete quiet edit = true≢false quiet
quiet-tags command quiet edit = edit

-- ---- what is told of a command that is carried out

-- the answer among what is told
pub answer-edited : (made : Result EditTold Fault) → answer_of (edited made) ≡ reply_of made
answer-edited (Ok edit) = refl
answer-edited (Err fault) = refl

pub answer-answered : (made : Result Answer Fault) → answer_of (answered made) ≡ made
answer-answered (Ok answer) = refl
answer-answered (Err fault) = refl

-- what a command does by its answer among what is told
pub does-edited : {limits : LimitTable} {old new : Document} {change : Change} (made : Result EditTold Fault)
    (result : Result Told Fault) → result ≡ edited made → Does limits old new (reply_of made) change
    → Does limits old new (answer_of result) change
does-edited {limits} {old} {new} {change} made result is does =
    subst (λ r. Does limits old new r change) (sym (ap answer_of is ∙ answer-edited made)) does

pub does-answered : {limits : LimitTable} {old new : Document} {change : Change} (made : Result Answer Fault)
    (result : Result Told Fault) → result ≡ answered made → Does limits old new made change
    → Does limits old new (answer_of result) change
does-answered {limits} {old} {new} {change} made result is does =
    subst (λ r. Does limits old new r change) (sym (ap answer_of is ∙ answer-answered made)) does

-- what memory is wanting for
pub answered-memory : (made : Result Answer Fault) → made ≢ Err Memory → answered made ≢ Err Memory
answered-memory (Ok answer) other is = let h : answered (Ok answer) ≡ Err Memory = is in absurd (cc)
answered-memory (Err fault) other is = other (ap answer_of is)

-- what holds of the document that a command that is answered makes
made-holds : {limits : LimitTable} {old new : Document} {change : Change} {answer : Answer} (P : Document → Type 0)
    → Does limits old new (Ok answer) change → P change.document → P new
made-holds {limits} {old} {new} {change} {answer} P does holds =
    subst P (sym (does.document (value≢memory (Ok answer) answer refl))) holds

-- nothing is told where the characters stay with their tags
pub still-cells : (change : Change) (old new : Document) → change.edits ≡ [] → HasCellsOf old new
    → TellsCells change.edits old.cells new.cells no_edit
still-cells change old new still same =
    subst (λ edits. TellsCells edits old.cells new.cells no_edit) (sym still)
    (still-tells old.cells new.cells same)

-- a command that edits the text or its tags
pub told-edited : (change : Change) (old new : Document) (follows : Bool) (result : Result EditTold Fault)
    → IsTold follows change old new result → AreTold follows change old new (edited result)
told-edited change old new follows (Ok edit) told = λ yes. told yes
told-edited change old new follows (Err fault) told = λ _. tt

-- any other command
pub told-quiet : (limits : LimitTable) (old new : Document) (follows : Bool) (windows : List (List ℕ)) (widget : Widget)
    (switches : List (List ℕ)) (position : ℕ) (arguments : List (List ℕ)) (command : Command)
    (result : Result Answer Fault) → is_told command ≡ false
    → let change = done command old (calling limits windows widget switches position arguments) in
    Does limits old new result change → AreTold follows change old new (answered result)
told-quiet limits old new follows windows widget switches position arguments command (Ok answer) quiet does = λ _.
    still-cells (done command old (calling limits windows widget switches position arguments)) old new
    (still-text limits windows old widget command switches position arguments (quiet-text command quiet))
    (made-holds (HasCellsOf old) does (cells-done limits windows old widget command switches position arguments
    (quiet-text command quiet) (quiet-tags command quiet)))
told-quiet limits old new follows windows widget switches position arguments command (Err fault) quiet does = λ _. tt

-- ---- a report without marks

pub answered-unmarked : (made : Result Answer Fault) → IfOk (answered made) (λ told. told.marks ≡ [])
answered-unmarked (Ok answer) = refl
answered-unmarked (Err fault) = tt

pub edited-unmarked : (made : Result EditTold Fault) → IfOk (edited made) (λ told. told.marks ≡ [])
edited-unmarked (Ok edit) = refl
edited-unmarked (Err fault) = tt
