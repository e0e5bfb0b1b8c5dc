-- A document after texts with tag lists are put in, or where that is refused.
use Rattle.documents.proofs.Common.{◌≡◌, ℕ, ◌+◌, ◌<◌, ◌≤◌, true, false, List, None, Some, Ok, map, length, refl, sym}
use Rattle.documents.proofs.Common.{ap, ap₂, subst, ◌∙◌, arith, IsScalar, All, nat_tests, length-map, AreTags, Tag}
use Rattle.documents.proofs.Common.{Tags, AreLimits, LimitTable, inserted_texts, State, SlottedText, texts-kept, Empty}
use Rattle.documents.proofs.Common.{Fault, TextTooLong, TooManyTags, excess, Pair, all_names, total, with_names}
use Rattle.documents.proofs.Common.{recording_of, IsFront, piece_of, is_among, Document, Parts, Widget, document_of}
use Rattle.documents.proofs.Common.{widget_at, with_texts, Stands, Change, refused, insert_at, keyed_text, tags_with}
use Rattle.documents.proofs.Common.{within_limits, Anchors, Content, Log, state_of, take, nat_lt, if◌then◌else◌, edited}
use Rattle.documents.proofs.Common.{Action, [], ◌∷◌, insertion, joined_text, names_of, keyed-more, IsKnownPiece}
use Rattle.documents.proofs.Common.{known-front, Insert}
use Rattle.documents.proofs.ChangeLaws.{Leaves, does-changed, table-back}
use Rattle.documents.proofs.NamedLaws.{among-made, keyed-pieces, keyed_piece, known-pieces, total-pieces}
use Rattle.documents.proofs.PartsLaws.{Sits, cells-kept, pairs_of}
use Rattle.documents.proofs.StateLaws.{stands-texts, stands-unedited, state_in, with_state}

-- what there is no reason to refuse is within the limits
pub few_enough : (limit count : ℕ) → nat_lt limit count ≡ false → count ≤ limit
few_enough limit count not_more = grind (arith, nat_tests)

pub record IsWithin (limits : LimitTable) (tag_count len : ℕ) : Type 0 where
  pub tags : nat_lt (limits.tags + 1) tag_count ≡ false
  pub chars : nat_lt limits.chars len ≡ false

no_some : (fault : Fault) → Some fault ≡ None → ⊥
no_some fault is = cc

pub excess-none : (limits : LimitTable) (tags chars : ℕ) → excess limits tags chars ≡ None → IsWithin limits tags chars
excess-none limits tags chars is =
    elim (nat_lt (limits.tags + 1) tags) as (λ b. nat_lt (limits.tags + 1) tags ≡ b →
    (if b then Some TooManyTags else (if nat_lt limits.chars chars then Some TextTooLong else None)) ≡ None →
    IsWithin limits tags chars) [
      | true ↦ λ _ never. absurd (no_some TooManyTags never)
      | false ↦ λ few. elim (nat_lt limits.chars chars) as (λ b. nat_lt limits.chars chars ≡ b →
          (if b then Some TextTooLong else None) ≡ None → IsWithin limits tags chars) [
            | true ↦ λ _ never. absurd (no_some TextTooLong never)
            | false ↦ λ short _. record { tags = few; chars = short }
          ] refl
    ] refl is

same_fault : (one other : Fault) → Some one ≡ Some other → one ≡ other
same_fault one other is = cc

pub limits-made : (limits : LimitTable) (document : Document) (tags chars : ℕ) (change : Change) →
    IsWithin limits tags chars → within_limits limits document tags chars change ≡ change
limits-made limits document tags chars change within =
    ap₂ (λ b c. if b then refused document TooManyTags else (if c then refused document TextTooLong else change))
    within.tags within.chars

pub limits-refused : (limits : LimitTable) (document : Document) (tags chars : ℕ) (change : Change) (fault : Fault) →
    excess limits tags chars ≡ Some fault
    → within_limits limits document tags chars change ≡ refused document fault
limits-refused limits document tags chars change fault is =
    elim (nat_lt (limits.tags + 1) tags) as (λ b.
    (if b then Some TooManyTags else (if nat_lt limits.chars chars then Some TextTooLong else None)) ≡ Some fault
    → (if b then refused document TooManyTags
    else (if nat_lt limits.chars chars then refused document TextTooLong else change)) ≡ refused document fault) [
      | true ↦ λ many. ap (refused document) (same_fault TooManyTags fault many)
      | false ↦ elim (nat_lt limits.chars chars) as (λ b. (if b then Some TextTooLong else None) ≡ Some fault →
          (if b then refused document TextTooLong else change) ≡ refused document fault) [
            | true ↦ λ long. ap (refused document) (same_fault TextTooLong fault long)
            | false ↦ λ none. absurd (no_some fault (sym none))
          ]
    ] is

-- ---- tags that are made

abbrev pub with_tags : Tags → Parts → Parts
with_tags tags parts = record parts { tags = tags }

-- an edit that came to nothing, where the tags that were made for it are taken back
pub stands-back : {parts : Parts} {document : Document} {new back : Tags} {front : ℕ} {content : Content}
    {anchors : List Anchors} {log : Log} → Stands parts document → front ≡ length parts.tags.tags →
    IsFront parts.tags new → back ≡ record new { tags = take front new.tags }
    → content ≡ parts.content → log ≡ parts.journal.log → anchors ≡ parts.journal.anchors
    → Stands (with_state (with_tags back parts) (state_of content anchors log)) document
stands-back {parts} {document} {new} {back} {front} {content} {anchors} {log} stands here is made same past held =
    subst (λ (tags : Tags). Stands (with_state (with_tags tags parts) (state_of content anchors log)) document)
    (sym (table-back parts.tags new back front here is made)) (stands-unedited stands same past held)

-- new tags behind the others
pub stands-front : (parts : Parts) (document : Document) (tags : Tags) → Stands parts document →
    IsFront parts.tags tags → AreTags tags
    → Stands (with_tags tags parts) (record document { tags = names_of tags.tags })
stands-front parts document tags stands front made =
    let kept = stands.sound.kept in
    let seats = parts.seats.entries in
    let before : Document = document_of parts in
    let cells = keyed-more seats parts.tags tags parts.content.cells kept.seats kept.tags made front kept.known in
    record {
      sound = record {
        kept = record {
          seats = kept.seats;
          slots = kept.slots;
          named = kept.named;
          text = kept.text;
          short = kept.short;
          marks = kept.marks;
          own = kept.own;
          known = known-front seats parts.tags tags kept.seats kept.tags front parts.content.cells kept.known;
          tags = made;
          roomy = front.limit ∙ kept.roomy;
        };
        marked = stands.sound.marked;
        orderly = stands.sound.orderly;
        views = stands.sound.views;
      };
      is = (λ i. record before { cells = cells i; tags = names_of tags.tags })
          ∙ ap (λ (d : Document). record d { tags = names_of tags.tags }) stands.is;
    }

-- what became of a table of tags for texts with tag lists
pub record IsListed (limits : LimitTable) (old new : Tags) (pairs : List Pair) (len : ℕ) : Type 0 where
  pub bounds : AreLimits limits
  pub front : IsFront old new
  pub sound : AreTags new
  pub scalars : All (λ (pair : Pair). All IsScalar pair.text) pairs
  pub made : names_of new.tags ≡ with_names (names_of old.tags) (all_names pairs)
  pub room : excess limits (length (with_names (names_of old.tags) (all_names pairs))) (len + total pairs) ≡ None

-- the document knows them, and the pieces are its texts
pub record IsReady (parts : Parts) (document : Document) (widget : Widget) (slot : ℕ) (tags : Tags) (pairs : List Pair)
    : Type 0 where
  pub stands : Stands (with_tags tags parts) (record document { tags = tags_with document pairs })
  pub known : All (IsKnownPiece parts.seats.entries tags.tags) (map (piece_of tags.tags slot) pairs)
  pub texts : map (keyed_piece (pairs_of (with_tags tags parts))) (map (piece_of tags.tags slot) pairs)
      ≡ map (keyed_text widget) pairs

names-before : (parts : Parts) (document : Document) → Stands parts document → names_of parts.tags.tags ≡ document.tags
names-before parts document stands = ap (λ (d : Document). d.tags) stands.is

pub ready : (limits : LimitTable) (parts : Parts) (document : Document) (place slot : ℕ) (tags : Tags)
    (pairs : List Pair) (len : ℕ) → Stands parts document → Sits parts document place slot
    → IsListed limits parts.tags tags pairs len → IsReady parts document (widget_at document place) slot tags pairs
ready limits parts document place slot tags pairs len stands sits listed =
    let seats = parts.seats.entries in
    let kept = stands.sound.kept in
    let seat = sits.seat in
    let named = subst (λ names. All (λ n. is_among n names ≡ true) (all_names pairs)) (sym listed.made)
    (among-made (names_of parts.tags.tags) (all_names pairs)) in
    let name = ap (λ (w : Widget). w.name) sits.widget in
    let tags_are : names_of tags.tags ≡ tags_with document pairs = listed.made
    ∙ ap (λ names. with_names names (all_names pairs)) (names-before parts document stands) in
    record {
      stands = subst (λ names. Stands (with_tags tags parts) (record document { tags = names })) tags_are
          (stands-front parts document tags stands listed.front listed.sound);
      known = subst (λ n. All (IsKnownPiece seats tags.tags) (map (piece_of tags.tags n) pairs)) sits.number
          (known-pieces seats tags kept.seats listed.sound place seat sits.stands pairs listed.scalars);
      texts = subst (λ n. map (keyed_piece (pairs_of (with_tags tags parts))) (map (piece_of tags.tags n) pairs)
          ≡ map (keyed_text (widget_at document place)) pairs) sits.number
          (keyed-pieces seats tags kept.seats listed.sound place seat sits.stands (widget_at document place) pairs name
          named);
    }

-- how many tags there are then
pub count-made : (limits : LimitTable) (parts : Parts) (document : Document) (tags : Tags) (pairs : List Pair) (len : ℕ)
    → Stands parts document → IsListed limits parts.tags tags pairs len
    → (length tags.tags ≤ limits.tags + 1)
    × (length (tags_with document pairs) ≡ length (with_names (names_of parts.tags.tags) (all_names pairs)))
count-made limits parts document tags pairs len stands listed =
    let room = excess-none limits (length (with_names (names_of parts.tags.tags) (all_names pairs))) (len + total pairs)
    listed.room in
    let few = few_enough (limits.tags + 1) (length (with_names (names_of parts.tags.tags) (all_names pairs))) room.tags
    in
    let same : length tags.tags ≡ length (with_names (names_of parts.tags.tags) (all_names pairs)) = sym
    (length-map tags.tags (λ (tag : Tag). tag.name)) ∙ ap length listed.made in (
      omega (arith, few, same),
      ap (λ names. length (with_names names (all_names pairs)))
          (sym (names-before parts document stands)),
    )

-- ---- texts that are put in

abbrev texts_made : Document → Widget → ℕ → List Pair → Document
texts_made document widget at pairs =
    with_texts Insert at (map (keyed_text widget) pairs) (record document { tags = tags_with document pairs })

abbrev insertion_size : Document → List Pair → ℕ
insertion_size document pairs = length document.cells + total pairs

pub leaves-put : {limits : LimitTable} {old : Parts} {tags : Tags} {state : State} {document : Document}
    {place slot at : ℕ} {pairs : List Pair} → Stands old document → Sits old document place slot
    → IsListed limits old.tags tags pairs (length old.content.cells) → at < length document.cells
    → state ≡ inserted_texts (recording_of old.journal.settings) Insert at (map (piece_of tags.tags slot) pairs)
    (state_in old)
    → Leaves limits (with_state (with_tags tags old) state) document (Ok Empty)
    (insert_at limits document (widget_at document place) at pairs)
leaves-put {limits} {old} {tags} {state} {document} {place} {slot} {at} {pairs} stands sits listed within is =
    let widget : Widget = widget_at document place in
    let recording = recording_of old.journal.settings in
    let pieces : List SlottedText = map (piece_of tags.tags slot) pairs in
    let made : State = inserted_texts recording Insert at pieces (state_in old) in
    let long = cells-kept old document stands.is in
    let inside : at < length old.content.cells = omega (arith, within, long) in
    let counted = total-pieces tags.tags slot pairs in
    let room = excess-none limits (length (with_names (names_of old.tags.tags) (all_names pairs)))
    (length old.content.cells + total pairs) listed.room in
    let short = few_enough limits.chars (length old.content.cells + total pairs) room.chars in
    let bounds = listed.bounds.chars in
    let set = ready limits old document place slot tags pairs (length old.content.cells) stands sits listed in
    let counts = count-made limits old document tags pairs (length old.content.cells) stands listed in
    let all = stands-texts (with_tags tags old) (record document { tags = tags_with document pairs }) Insert at pieces
    set.stands inside (omega (arith, short, counted, bounds)) set.known in
    let result : Document = texts_made document widget at pairs in
    let edits : List Action = insertion at (joined_text pairs) ∷ [] in
    let all_is : document_of (with_state (with_tags tags old) made) ≡ result = all.is
    ∙ ap (λ texts. with_texts Insert at texts (record document { tags = tags_with document pairs })) set.texts in
    let within_both : IsWithin limits (length (tags_with document pairs)) (insertion_size document pairs) =
    record {
      tags = ap (nat_lt (limits.tags + 1)) counts.1 ∙ room.tags;
      chars = ap (λ n. nat_lt limits.chars (n + total pairs)) long ∙ room.chars;
    } in
    subst (λ (s : State). Leaves limits (with_state (with_tags tags old) s) document (Ok Empty)
    (insert_at limits document widget at pairs)) (sym is)
    (does-changed stands (record {
      sound = all.sound;
      is = limits-made limits document (length (tags_with document pairs)) (insertion_size document pairs)
          (edited result edits) within_both ∙ ap (λ d. edited d edits) (sym all_is);
      fits = λ fits. (texts-kept limits.chars at recording Insert pieces (state_in old)
          (record { fits = fits; groups = stands.sound.orderly.groups; undone = stands.sound.orderly.undone }) inside
          (omega (arith, short, counted))).fits;
      tags = λ _. counts.0;
      marks = λ few. few;
      seats = refl;
    }))

pub put-left : {old : Parts} {document : Document} {fault : Fault} (limits : LimitTable) (widget : Widget) (at : ℕ)
    (pairs : List Pair) → Stands old document
    → excess limits (length (with_names (names_of old.tags.tags) (all_names pairs)))
    (length old.content.cells + total pairs) ≡ Some fault
    → insert_at limits document widget at pairs ≡ refused document fault
put-left {old} {document} {fault} limits widget at pairs stands is =
    let names = names-before old document stands in
    let long = cells-kept old document stands.is in
    limits-refused limits document (length (tags_with document pairs)) (insertion_size document pairs)
    (edited (texts_made document widget at pairs) (insertion at (joined_text pairs) ∷ [])) fault
    (ap₂ (λ ns n. excess limits (length (with_names ns (all_names pairs))) (n + total pairs)) (sym names) long ∙ is)
