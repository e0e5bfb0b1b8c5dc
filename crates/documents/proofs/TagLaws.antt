-- A document after its tags are put in another order or deleted.
use Rattle.documents.proofs.Common.{OnErr, OnOk, Result, Answer, Fault, IfErr, ◌≡◌, ℕ, ◌≤◌, Bool, true, false, List, []}
use Rattle.documents.proofs.Common.{◌∷◌, Option, Err, Ok, cond, filter, length, map, refl, sym, ap, subst, ◌∙◌, arith}
use Rattle.documents.proofs.Common.{map-map, AreTags, Tag, Tags, Cell, Content, LimitTable, cell_without, cleared}
use Rattle.documents.proofs.Common.{Empty, slots_deleted, tags_left, stays, Document, Parts, document_of, Stands}
use Rattle.documents.proofs.Common.{answered, reordered, tag_delete, without_tags, IsOrdered, IsUnknown, Order}
use Rattle.documents.proofs.Common.{names_of, keyed-deleted, known-deleted, names_left, keyed-reordered}
use Rattle.documents.proofs.Common.{known-reordered, moved_answer, State, state_of}
use Rattle.documents.proofs.ChangeLaws.{Leaves, leaves-left, stands-same}
use Rattle.documents.proofs.ReorderLaws.{reordered-made, reordered-unknown}
use Rattle.documents.proofs.TableLaws.{leaves-retagged, retagged, retagged-is}
use Rattle.documents.proofs.InsertionLaws.{with_tags}
use Rattle.documents.proofs.StateLaws.{with_state}
use Rattle.tag_table.specs.declared.faults.NoSuchTag as table_fault

-- ---- another order

-- one that goes next to another, or one of them isn't known
pub leaves-moved : {A : Type 0} {old : Parts} {new : Tags} {document : Document} {result : Result Answer Fault}
    (limits : LimitTable) (position : ℕ) (order : Order) (word : List ℕ) (other : Option (List ℕ))
    (moved : Result A table_fault.NoSuchTag) → Stands old document
    → OnOk moved (IsOrdered order word other old.tags.tags new.tags)
    → IfErr moved (IsUnknown word other old.tags.tags) → OnErr moved (new ≡ old.tags) → new.limit ≡ old.tags.limit
    → OnOk moved (AreTags new) → result ≡ moved_answer position moved
    → Leaves limits (record old { tags = new }) document result (reordered document position order (word, other))
leaves-moved {old = old} {new} {document} limits position order word other (Ok done) stands ordered unknown same limit
    sound is =
    let seats = old.seats.entries in
    let kept = stands.sound.kept in
    let cells = keyed-reordered seats old.tags.tags new.tags old.content.cells kept.seats.names_apart
    kept.tags.names_apart sound.names_apart ordered.slots in
    let tags : document.tags ≡ names_of old.tags.tags = ap (λ (d : Document). d.tags) (sym stands.is) in
    let many = ordered.many in
    let whole = retagged-is old new old.content (document_of old).cells refl cells
    ∙ ap (λ (d : Document). record d { tags = names_of new.tags }) stands.is in
    subst (λ r. Leaves limits (record old { tags = new }) document r (reordered document position order (word, other)))
    (sym is)
    (leaves-retagged limits old new old.content document (reordered document position order (word, other)) stands
    (record {
      tags = sound;
      limit = limit;
      known = known-reordered seats old.tags new.tags kept.seats kept.tags ordered.slots old.content.cells kept.known;
      marks = refl;
      same = refl;
    })
    (λ few. omega (arith, many, few)) (reordered-made document position order word other old.tags.tags new.tags tags
    ordered ∙ ap (λ (d : Document). answered d Empty) (sym whole)))
leaves-moved {old = old} {new} {document} limits position order word other (Err fault) stands ordered unknown same
    limit sound is =
    subst (λ r. Leaves limits (record old { tags = new }) document r (reordered document position order (word, other)))
    (sym is)
    (leaves-left (stands-same stands (ap (λ (t : Tags). record old { tags = t }) same)) (λ _.
    reordered-unknown document position order word other old.tags.tags fault
    (ap (λ (d : Document). d.tags) (sym stands.is)) unknown))

-- ---- tags that are deleted

filter-shorter : {A : Type 0} (p : A → Bool) (xs : List A) → length (filter p xs) ≤ length xs
filter-shorter p [] = omega arith
filter-shorter p (x ∷ xs) =
    let rest = filter-shorter p xs in
    elim (p x) as (λ b. length (cond b (x ∷ filter p xs) (filter p xs)) ≤ length (x ∷ xs)) [
      | true ↦ omega (arith, rest)
      | false ↦ omega (arith, rest)
    ]

pub leaves-deleted : {old : Parts} {new : Tags} {state : State} {document : Document} {slots : List ℕ}
    (limits : LimitTable) (names : List (List ℕ)) → Stands old document
    → (AreTags old.tags → AreTags new)
    → new ≡ record old.tags { tags = tags_left names old.tags.tags } → slots ≡ slots_deleted old.tags.tags names →
    state.content ≡ cleared slots old.content → state.anchors ≡ old.journal.anchors → state.log ≡ old.journal.log
    → Leaves limits (with_state (with_tags new old) state) document (Ok Empty) (tag_delete document names)
leaves-deleted {old} {new} {state} {document} {slots} limits names stands sound table gone clear held same =
    let seats = old.seats.entries in
    let kept = stands.sound.kept in
    let left : Tags = record old.tags { tags = tags_left names old.tags.tags } in
    let store : Content = cleared (slots_deleted old.tags.tags names) old.content in
    let content_is : state.content ≡ store = clear ∙ ap (λ ss. cleared ss old.content) gone in
    let lone : Document = document_of old in
    let cells = keyed-deleted seats old.tags names old.content.cells kept.seats kept.tags in
    let with_left : Document → Document = λ document.
    record document {
      tags = filter (stays names) document.tags;
      cells = map (without_tags names) document.cells;
    } in
    let made : document_of (retagged old left store) ≡ with_left lone =
    retagged-is old left store (map (without_tags names) lone.cells) refl cells
    ∙ ap (λ ts. record lone { tags = ts; cells = map (without_tags names) lone.cells }) (names_left names old.tags.tags)
    in
    let whole = made ∙ ap with_left stands.is in
    let count : length left.tags ≤ length old.tags.tags = filter-shorter (λ (tag : Tag). stays names tag.name)
    old.tags.tags in
    let done = leaves-retagged limits old left store document (tag_delete document names) stands
    (record {
      tags = subst AreTags table (sound kept.tags);
      limit = refl;
      known = known-deleted seats old.tags names old.content.cells kept.seats kept.tags kept.known;
      marks = refl;
      same = map-map (λ (cell : Cell). cell.character) (cell_without (slots_deleted old.tags.tags names))
          old.content.cells;
    })
    (λ few. omega (arith, count, few)) (ap (λ (d : Document). answered d Empty) (sym whole)) in
    subst (λ (parts : Parts). Leaves limits parts document (Ok Empty) (tag_delete document names)) (λ i.
    with_state (with_tags (sym table i) old) (state_of (sym content_is i) (sym held i) (sym same i))) done
