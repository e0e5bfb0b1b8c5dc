-- A document after its journal alone is changed.
use Rattle.documents.proofs.Common.{◌≡◌, ℕ, Bool, true, false, List, Ok, refl, sym, ap, subst, ◌∙◌, zero, suc, ◌-◌, []}
use Rattle.documents.proofs.Common.{drop, if◌then◌else◌, LimitTable, FitsText, History, limit_of, newest, no_history}
use Rattle.documents.proofs.Common.{separated, set_to, Kept, Action, limited-fits, nothing-fits, log_of, history_under}
use Rattle.documents.proofs.Common.{Empty, DocumentSettings, edit_reset, edit_separator, modified_set, Document}
use Rattle.documents.proofs.Common.{Journal, Parts, document_of, IsOrderly, Stands, Change, answered, ◌==◌}
use Rattle.documents.proofs.ChangeLaws.{Leaves, does-changed}
use Rattle.text_model.specs.Content as model

-- the parts with what is kept of the edits
abbrev pub with_kept : Parts → Kept → Parts
with_kept parts kept = record parts { journal = record parts.journal { log = log_of kept } }

abbrev pub GoesOnFitting : LimitTable → Journal → Journal → Type 0
GoesOnFitting limits before after =
    (text : List ℕ) → FitsText limits.chars text before.log.history → FitsText limits.chars text after.log.history

-- The log alone is another. The change is one of the document as it is kept.
pub leaves-log : (limits : LimitTable) (old : Parts) (kept : Kept) (document : Document) (change : Document → Change) →
    Stands old document → IsOrderly (with_kept old kept).journal
    → change (document_of old) ≡ answered (document_of (with_kept old kept)) Empty →
    GoesOnFitting limits old.journal (with_kept old kept).journal
    → Leaves limits (with_kept old kept) document (Ok Empty) (change document)
leaves-log limits old kept document change stands orderly is fits =
    does-changed stands (record {
      sound = record {
        kept = stands.sound.kept;
        marked = stands.sound.marked;
        orderly = orderly;
        views = record { anchored = stands.sound.views.anchored; seated = stands.sound.views.seated };
      };
      is = ap change (sym stands.is) ∙ is;
      fits = fits (model.characters old.content.cells);
      tags = λ few. few;
      marks = λ few. few;
      seats = refl;
    })

-- whether the text is modified
pub leaves-modified : (limits : LimitTable) (old : Parts) (before after : Kept) (document : Document) (modified : Bool)
    → Stands (with_kept old before) document
    → after ≡ record before { modified = set_to modified before.modified } →
    Leaves limits (with_kept old after) document (Ok Empty) (modified_set document modified)
leaves-modified limits old before after document modified stands is =
    let made : Kept = record before { modified = set_to modified before.modified } in
    subst (λ (kept : Kept). Leaves limits (with_kept old kept) document (Ok Empty) (modified_set document modified))
    (sym is)
    (leaves-log limits (with_kept old before) made document (λ d. modified_set d modified) stands
    (record {
      most = stands.sound.orderly.most;
      groups = stands.sound.orderly.groups;
      undone = stands.sound.orderly.undone;
    }) refl (λ text fits. fits))

-- the last group is closed
pub leaves-separated : (limits : LimitTable) (old : Parts) (before after : Kept) (document : Document) →
    Stands (with_kept old before) document → old.journal.settings.undo ≡ true
    → after ≡ record before { history = separated before.history } →
    Leaves limits (with_kept old after) document (Ok Empty) (edit_separator document)
leaves-separated limits old before after document stands on is =
    let made : Kept = record before { history = separated before.history } in
    let kept_so : Kept → Document = λ kept. document_of (with_kept old kept) in
    subst (λ (kept : Kept). Leaves limits (with_kept old kept) document (Ok Empty) (edit_separator document)) (sym is)
    (leaves-log limits (with_kept old before) made document edit_separator stands
    (record {
      most = stands.sound.orderly.most;
      groups = stands.sound.orderly.groups;
      undone = stands.sound.orderly.undone;
    })
    (ap (λ b. answered (if b then kept_so made else kept_so before) Empty) on)
    (λ text fits. record {
      short = fits.short;
      filled = fits.filled;
      undone_filled = fits.undone_filled;
      reverts = fits.reverts;
      repeats = fits.repeats;
    }))

-- no group is left
pub leaves-reset : (limits : LimitTable) (old : Parts) (before after : Kept) (document : Document) →
    Stands (with_kept old before) document → after.history ≡ no_history → after.modified ≡ before.modified
    → after.most ≡ before.most → Leaves limits (with_kept old after) document (Ok Empty) (edit_reset document)
leaves-reset limits old before after document stands none modified most =
    leaves-log limits (with_kept old before) after document edit_reset stands
    (record {
      most = most ∙ stands.sound.orderly.most;
      groups = λ _. ap (λ (h : History). h.groups) none;
      undone = λ _. ap (λ (h : History). h.undone) none;
    })
    (λ i. answered (record (document_of (with_kept old before)) { history = sym none i; modified = sym modified i })
    Empty)
    (λ text fits. subst (FitsText limits.chars text) (sym none)
    (record { short = fits.short; filled = tt; undone_filled = tt; reverts = refl; repeats = refl }))

-- ---- options

abbrev no_groups : List (List Action)
no_groups = []

drop_none : (n : ℕ) → drop n no_groups ≡ no_groups
drop_none zero = refl
drop_none (suc n) = refl

-- no groups are within any limit
newest_none : (most : ℕ) → newest most no_groups ≡ no_groups
newest_none most = elim (most == 0) as (λ b. (if b then no_groups else drop (0 - most) no_groups) ≡ no_groups) [
  | true ↦ refl
  | false ↦ drop_none (0 - most)
]

-- under options the history is bounded as they say
pub orderly-under : (settings : DocumentSettings) (journal : Journal) (before after : Kept) →
    after.history ≡ history_under settings before.history → after.most ≡ limit_of settings.most_undo
    → IsOrderly (record journal { settings = settings; log = log_of after })
orderly-under settings journal before after is most = record {
  most = most;
  groups = λ off. ap (λ (h : History). h.groups) is
      ∙ ap (λ b. newest (limit_of settings.most_undo) (if b then before.history else no_history).groups) off
      ∙ newest_none (limit_of settings.most_undo);
  undone = λ off. ap (λ (h : History). h.undone) is ∙ ap (λ b. (if b then before.history else no_history).undone) off;
}

pub fits-under : (limit : ℕ) (settings : DocumentSettings) (history : History) (text : List ℕ) →
    FitsText limit text history → FitsText limit text (history_under settings history)
fits-under limit settings history text fits =
    let left : FitsText limit text (if settings.undo then history else no_history) =
    elim settings.undo as (λ b. FitsText limit text (if b then history else no_history)) [
      | true ↦ fits
      | false ↦ nothing-fits limit text fits.short
    ] in
    limited-fits limit (limit_of settings.most_undo) (if settings.undo then history else no_history) text left
