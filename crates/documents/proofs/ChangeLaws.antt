-- What a change makes of a document as it is kept, and that it does what the definition says.
use Rattle.documents.proofs.Common.{◌≡◌, ◌≢◌, ℕ, ◌+◌, ◌≤◌, Err, Ok, length, take, refl, sym, ap, ap₂, subst, ◌∙◌, arith}
use Rattle.documents.proofs.Common.{Tags, LimitTable, FitsText, Answer, Empty, Fault, Memory, IsFront, Document, Parts}
use Rattle.documents.proofs.Common.{document_of, IsSound, Stands, Change, Does, answered, refused, IsWellFormedDocument}
use Rattle.documents.proofs.Common.{window_names, Result, Action, List, [], edited}
use Rattle.name_list.specs.Names.{names_of}
use Rattle.documents.proofs.PartsLaws.{marks-kept, tags-kept}
use Rattle.documents.proofs.WellFormedLaws.{IsWellFormedDocument-kept, fits-kept, windows-kept}
use Rattle.text_model.specs.Content as model

-- ---- what is refused

-- the parts are as they were
pub stands-same : {old new : Parts} {document : Document} → Stands old document → new ≡ old → Stands new document
stands-same {document = document} stands same = subst (λ parts. Stands parts document) (sym same) stands

abbrev failed : Fault → Result Answer Fault
failed fault = Err fault

pub does-left : (limits : LimitTable) (old new : Document) (fault : Fault) (change : Change) → new ≡ old →
    (fault ≢ Memory → change ≡ refused old fault) → Does limits old new (Err fault) change
does-left limits old new fault change same is = record {
  reply = λ other. ap (λ (c : Change). c.reply) (sym (is (λ memory. other (ap failed memory))));
  document = λ other. same ∙ ap (λ (c : Change). c.document) (sym (is (λ memory. other (ap failed memory))));
  refused = same;
  well_formed = λ formed. subst (IsWellFormedDocument limits) (sym same) formed;
  windows = ap window_names same;
}

-- what a change leaves is sound, and it does what the definition says
pub record Leaves (limits : LimitTable) (new : Parts) (document : Document) (result : Result Answer Fault)
    (change : Change) : Type 0 where
  pub sound : IsSound new
  pub does : Does limits document (document_of new) result change

-- a change that was refused
pub leaves-left : {limits : LimitTable} {new : Parts} {document : Document} {fault : Fault} {change : Change} →
    Stands new document → (fault ≢ Memory → change ≡ refused document fault)
    → Leaves limits new document (Err fault) change
leaves-left {limits} {new} {document} {fault} {change} stands is =
    record { sound = stands.sound; does = does-left limits document (document_of new) fault change stands.is is }

-- the tags that were made are taken back
pub table-back : (old new back : Tags) (front : ℕ) → front ≡ length old.tags → IsFront old new →
    back ≡ record new { tags = take front new.tags } → back ≡ old
table-back old new back front here is made =
    made ∙ ap₂ (λ tags limit. record { tags = tags; limit = limit }) (ap (λ n. take n new.tags) here ∙ is.tags) is.limit

-- ---- what is answered

pub does-edited : (limits : LimitTable) (old new made : Document) (edits : List Action) (change : Change) → new ≡ made →
    change ≡ edited made edits
    → (IsWellFormedDocument limits old → IsWellFormedDocument limits new) → window_names new ≡ window_names old →
    Does limits old new (Ok Empty) change
does-edited limits old new made edits change is same formed windows = record {
  reply = λ _. ap (λ (c : Change). c.reply) (sym same);
  document = λ _. is ∙ ap (λ (c : Change). c.document) (sym same);
  refused = tt;
  well_formed = formed;
  windows = windows;
}

pub does-answered : (limits : LimitTable) (old new made : Document) (change : Change) → new ≡ made →
    change ≡ answered made Empty
    → (IsWellFormedDocument limits old → IsWellFormedDocument limits new) → window_names new ≡ window_names old →
    Does limits old new (Ok Empty) change
does-answered limits old new made change is same formed windows =
    does-edited limits old new made [] change is same formed windows

-- a document that goes on as it is
pub does-nothing : (limits : LimitTable) (document : Document) (change : Change) → change ≡ answered document Empty →
    Does limits document document (Ok Empty) change
does-nothing limits document change same =
    does-answered limits document document document change refl same (λ formed. formed) refl

-- what has to be shown of the parts after a change by edits that keeps the widgets
pub record IsEdited (limits : LimitTable) (old new : Parts) (document : Document) (edits : List Action)
    (change : Change) : Type 0 where
  pub sound : IsSound new
  pub is : change ≡ edited (document_of new) edits
  pub fits : FitsText limits.chars (model.characters old.content.cells) old.journal.log.history →
      FitsText limits.chars (model.characters new.content.cells) new.journal.log.history
  pub tags : length old.tags.tags ≤ limits.tags + 1 → length new.tags.tags ≤ limits.tags + 1
  pub marks : length old.marks.marks ≤ limits.marks → length new.marks.marks ≤ limits.marks
  pub seats : new.seats.entries ≡ old.seats.entries

-- limits for what holds by any
pub some_limits : LimitTable
some_limits = record { chars = 1; tags = 0; marks = 0; widgets = 0; reads = 0 }

pub does-changed : {limits : LimitTable} {old new : Parts} {document : Document} {edits : List Action}
    {change : Change} → Stands old document → IsEdited limits old new document edits change
    → Leaves limits new document (Ok Empty) change
does-changed {limits} {old} {new} {document} {edits} {change} stands changed =
    record {
      sound = changed.sound;
      does = does-edited limits document (document_of new) (document_of new) edits change refl changed.is
          (λ formed.
          let few = formed.tag_count in
          let many = formed.mark_count in
          let tags = tags-kept old document stands.is in
          let marks = marks-kept old document stands.is in
          IsWellFormedDocument-kept limits new changed.sound
          (changed.fits (fits-kept limits old document stands.is formed)) (changed.tags (omega (arith, few, tags)))
          (changed.marks (omega (arith, many, marks))))
          (windows-kept new ∙ ap names_of changed.seats ∙ sym (windows-kept old) ∙ ap window_names stands.is);
    }
