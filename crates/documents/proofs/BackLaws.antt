-- What undo and redo make of a text and of a document. A group is undone where `back`, or redone.
use Rattle.documents.proofs.Common.{◌≡◌, ℕ, Bool, true, false, List, Option, Some, refl, ap, ap₂, ◌∙◌, Action, History}
use Rattle.documents.proofs.Common.{FitsText, repeated_group, reverted_groups, back-reverted, replays, undo-goes}
use Rattle.documents.proofs.Common.{undo-fits, undo-origin, redo-goes, redo-fits, redo-origin, Document, Widget, Empty}
use Rattle.documents.proofs.Common.{if◌then◌else◌, None, is_idle, next_group, after_group, with_group, group_found}
use Rattle.documents.proofs.Common.{edit_group, answered, edited}

-- the text that a group leads to, and the history then
pub record Replays (back : Bool) (limit most : ℕ) (history : History) (text : List ℕ) (group : List Action) : Type 0
  where
    pub found : List ℕ
    pub is : repeated_group limit (replays back group) text ≡ Some found
    pub fits : FitsText limit found (after_group back group most history)
    pub origin : reverted_groups limit (after_group back group 0 history).groups found
        ≡ reverted_groups limit history.groups text

pub group-replays : (back : Bool) (limit most : ℕ) (history : History) (text : List ℕ) (group : List Action) →
    FitsText limit text history → next_group back history ≡ Some group → Replays back limit most history text group
group-replays true limit most history text group fits is =
    let goes = undo-goes limit history text group fits is in
    record {
      found = goes.0;
      is = back-reverted limit group text ∙ goes.1;
      fits = undo-fits limit history text goes.0 group fits is goes.1;
      origin = undo-origin limit history text goes.0 group is goes.1;
    }
group-replays false limit most history text group fits is =
    let goes = redo-goes limit history text group fits is in
    record {
      found = goes.0;
      is = goes.1;
      fits = redo-fits limit most history text goes.0 group fits is goes.1;
      origin = redo-origin limit history text goes.0 group fits goes.1;
    }

-- ---- the commands, where actions are kept

pub group-as : (back : Bool) (document : Document) (widget : Widget) (found : Option (List Action)) →
    document.undo ≡ true → next_group back document.history ≡ found
    → edit_group back document widget ≡ group_found back document widget found
group-as back document widget found on is =
    ap₂ (λ b found. if b then group_found back document widget found else answered document Empty) on is

-- by a widget that isn't idle
pub group-done : (back : Bool) (document : Document) (widget : Widget) (group : List Action) → document.undo ≡ true →
    next_group back document.history ≡ Some group → is_idle document widget ≡ false
    → edit_group back document widget ≡ edited (with_group back widget group document) (replays back group)
group-done back document widget group on is active =
    group-as back document widget (Some group) on is
    ∙ ap (λ b. if b then answered document Empty
    else edited (with_group back widget group document) (replays back group)) active

-- what holds of the document, and of it with the group undone or redone, holds after the command
pub group-carried : (P : Document → Type 0) (back : Bool) (document : Document) (widget : Widget) → P document →
    ((group : List Action) → next_group back document.history ≡ Some group → P (with_group back widget group document))
    → P (edit_group back document widget).document
group-carried P back document widget same done =
    elim document.undo as (λ b. P (if b then group_found back document widget (next_group back document.history)
    else answered document Empty).document) [
      | true ↦ by (next_group back document.history) refl
      | false ↦ same
    ]
  where
    by : (found : Option (List Action)) → next_group back document.history ≡ found →
        P (group_found back document widget found).document
    by None is = same
    by (Some group) is = elim (is_idle document widget) as (λ b. P (if b then answered document Empty
        else edited (with_group back widget group document) (replays back group)).document) [
          | true ↦ same
          | false ↦ done group is
        ]
