-- A document after a tag is put on spans or taken off them, or where that is refused.
use Rattle.documents.proofs.Common.{◌≡◌, ℕ, ◌+◌, ◌-◌, ◌<◌, ◌≤◌, Bool, true, false, List, [], Option, None, Some, Ok}
use Rattle.documents.proofs.Common.{length, refl, sym, ap, ap₂, subst, ◌∙◌, arith, ◌==◌, is_some, option_map, none-some}
use Rattle.documents.proofs.Common.{same_Some, All, nat_tests, length-map, known_tags, AreTags, Tag, Tags, slot_of}
use Rattle.documents.proofs.Common.{Content, LimitTable, State, SpanFits, tagged, Span, Empty, TooManyTags, with_name}
use Rattle.documents.proofs.Common.{spans_of, IsFront, is_among, absent_slot, among_slot, spans_of-fit, Document, Parts}
use Rattle.documents.proofs.Common.{Widget, document_of, widget_at, with_tag, Key, key_named, key_of, Stands, Change}
use Rattle.documents.proofs.Common.{answered, refused, spans_shown, add_spans, remove_spans, shown, view_start, nat_lt}
use Rattle.documents.proofs.Common.{if◌then◌else◌, names_of, keyed-more, keyed-tagged, known-front, known-slot}
use Rattle.documents.proofs.Common.{EditTold, TellsCells, state_of}
use Rattle.documents.proofs.InsertionLaws.{with_tags}
use Rattle.documents.proofs.PartsLaws.{Sits, cells-kept}
use Rattle.documents.proofs.SettledLaws.{IsSettled}
use Rattle.documents.proofs.StateLaws.{with_state}
use Rattle.documents.proofs.TableLaws.{characters-tagged, known-tagged, leaves-retagged, marks-tagged, retagged}
use Rattle.documents.proofs.TableLaws.{retagged-is}
use Rattle.documents.proofs.ViewLaws.{IsSeen, length-found, ordered-found, start-found-is}

pub found_by : {A B : Type 0} (f : A → B) (found : Option A) (made : B) → option_map f found ≡ Some made →
    (x : A) × (Some x ≡ found) × (made ≡ f x)
found_by f None made is = absurd (none-some made is)
found_by f (Some x) made is = (x, refl, sym (same_Some (f x) made is))

-- a name that has a slot for a widget has one in the table, and so where it has none
pub slot_known : (word : List ℕ) (tags : List Tag) (widget slot : ℕ) → known_tags tags widget word ≡ Some slot →
    is_among word (names_of tags) ≡ true
slot_known word tags widget slot is = elim (slot_of word tags) as (λ o. slot_of word tags ≡ o →
    option_map (λ s. if s == 0 then widget else s) o ≡ Some slot → is_among word (names_of tags) ≡ true) [
      | None ↦ λ _ never. absurd (none-some slot never)
      | Some own ↦ λ there _. among_slot word tags own there
    ] refl is

pub slot_unknown : (word : List ℕ) (tags : List Tag) (widget : ℕ) → known_tags tags widget word ≡ None →
    is_among word (names_of tags) ≡ false
slot_unknown word tags widget is = elim (slot_of word tags) as (λ o. slot_of word tags ≡ o →
    option_map (λ s. if s == 0 then widget else s) o ≡ None → is_among word (names_of tags) ≡ false) [
      | None ↦ λ none _. absent_slot word tags none
      | Some own ↦ λ _ never. absurd (none-some (if own == 0 then widget else own) (sym never))
    ] refl is

-- a name is in the table where it has a slot for a widget
pub among-known : (word : List ℕ) (tags : List Tag) (widget : ℕ) →
    is_among word (names_of tags) ≡ is_some (known_tags tags widget word)
among-known word tags widget = elim (slot_of word tags) as (λ o. slot_of word tags ≡ o →
    is_among word (names_of tags) ≡ is_some (option_map (λ s. if s == 0 then widget else s) o)) [
      | None ↦ λ none. absent_slot word tags none
      | Some own ↦ λ there. among_slot word tags own there
    ] refl

-- a document with other tags, and a key set on spans of its cells or taken off them
abbrev spans_made : Document → List (List ℕ) → Key → Bool → List Span → Document
spans_made document tags key on spans = record document { tags = tags; cells = with_tag key on spans document.cells }

tags-before : {old : Parts} {document : Document} → Stands old document → document.tags ≡ names_of old.tags.tags
tags-before stands = ap (λ (d : Document). d.tags) (sym stands.is)

-- what an addition does, by whether there are too many tags then
added-by : {old : Parts} {document : Document} {full : Bool} (limits : LimitTable) (place : ℕ) (word places : List ℕ)
    → Stands old document → nat_lt (limits.tags + 1) (length (with_name (names_of old.tags.tags) word)) ≡ full
    → add_spans limits document (widget_at document place) word places
    ≡ (if full then refused document TooManyTags
    else answered (spans_made document (with_name document.tags word) (key_of (widget_at document place) word) true
    (spans_shown document (widget_at document place) places)) Empty)
added-by {document = document} limits place word places stands is =
    ap (λ b. if b then refused document TooManyTags
    else answered (spans_made document (with_name document.tags word) (key_of (widget_at document place) word) true
    (spans_shown document (widget_at document place) places)) Empty)
    (ap (λ ts. nat_lt (limits.tags + 1) (length (with_name ts word))) (tags-before stands) ∙ is)

pub added-left : {old : Parts} {document : Document} (limits : LimitTable) (place : ℕ) (word places : List ℕ)
    → Stands old document → limits.tags + 1 < length (with_name (names_of old.tags.tags) word)
    → add_spans limits document (widget_at document place) word places ≡ refused document TooManyTags
added-left {old} limits place word places stands many =
    let count = length (with_name (names_of old.tags.tags) word) in
    let full : nat_lt (limits.tags + 1) count ≡ true = grind (arith, nat_tests) in
    added-by limits place word places stands full

-- and what a removal does, by whether the tag is known
pub removed-by : {old : Parts} {document : Document} {known : Bool} (place widget : ℕ) (word places : List ℕ)
    → Stands old document → is_some (known_tags old.tags.tags widget word) ≡ known
    → remove_spans document (widget_at document place) word places
    ≡ answered (if known then spans_made document document.tags (key_of (widget_at document place) word) false
    (spans_shown document (widget_at document place) places) else document) Empty
removed-by {old} {document} place widget word places stands is =
    ap (λ b. answered (if b then spans_made document document.tags (key_of (widget_at document place) word) false
    (spans_shown document (widget_at document place) places) else document) Empty)
    (ap (is_among word) (tags-before stands) ∙ among-known word old.tags.tags widget ∙ is)

-- what became of a table and of a text, by a widget of a slot
pub record IsTagged (old : Parts) (new : Tags) (state : State) (widget : ℕ) (word : List ℕ) (on : Bool)
    (spans : List Span) : Type 0 where
  pub slot : ℕ
  pub front : IsFront old.tags new
  pub sound : AreTags new
  pub is : Some slot ≡ known_tags new.tags widget word
  pub fit : All (SpanFits (length old.content.cells)) spans
  pub content : state.content ≡ tagged slot on spans old.content
  pub anchors : state.anchors ≡ old.journal.anchors
  pub log : state.log ≡ old.journal.log

-- a command of a widget that sets a tag on spans or takes it off them, and reports that
settled-spans : {limits : LimitTable} {old : Parts} {new : Tags} {state : State} {document : Document} {place widget : ℕ}
    {word : List ℕ} {on : Bool} {spans : List Span} {change : Change} {follows : Bool} {told : EditTold}
    → Stands old document → Sits old document place widget → IsTagged old new state widget word on spans
    → (length old.tags.tags ≤ limits.tags + 1 → length new.tags ≤ limits.tags + 1)
    → change ≡ answered (spans_made document (names_of new.tags) (key_of (widget_at document place) word) on spans) Empty
    → (follows ≡ true → TellsCells [] document.cells
    (with_tag (key_of (widget_at document place) word) on spans document.cells) told)
    → IsSettled limits (with_state (with_tags new old) state) document follows (Ok told) change
settled-spans {limits} {old} {new} {state} {document} {place} {word = word} {on} {spans} {change} {follows} {told} stands
    sits made few is tells =
    let seats = old.seats.entries in
    let kept = stands.sound.kept in
    let own = key_named sits.seat.name word in
    let key = key_of (widget_at document place) word in
    let store : Content = tagged made.slot on spans old.content in
    let known : known_tags new.tags sits.seat.number word ≡ Some made.slot =
    ap (λ n. known_tags new.tags n word) sits.number ∙ sym made.is in
    let marks = marks-tagged made.slot on spans old.content in
    let cells = keyed-tagged seats new kept.seats made.sound place sits.seat sits.stands word made.slot known on spans
    old.content
    ∙ ap (with_tag own on spans)
    (keyed-more seats old.tags new old.content.cells kept.seats kept.tags made.sound made.front kept.known) in
    let whole : document_of (retagged old new store) ≡ spans_made document (names_of new.tags) key on spans =
    retagged-is old new store (with_tag own on spans (document_of old).cells) marks cells
    ∙ ap₂ (λ (d : Document) k. spans_made d (names_of new.tags) k on spans) stands.is
    (ap (λ (w : Widget). key_of w word) (sym sits.widget)) in
    let left = leaves-retagged limits old new store document change stands (record {
      tags = made.sound;
      limit = made.front.limit;
      known = known-tagged seats new.tags made.slot on spans old.content
          (known-slot seats new kept.seats made.sound place sits.seat sits.stands word made.slot known)
          (known-front seats old.tags new kept.seats kept.tags made.front old.content.cells kept.known);
      marks = marks;
      same = characters-tagged made.slot on spans old.content made.fit;
    }) few (is ∙ ap (λ (d : Document). answered d Empty) (sym whole)) in
    subst (λ (s : State). IsSettled limits (with_state (with_tags new old) s) document follows (Ok told) change)
    (λ i. state_of (sym made.content i) (sym made.anchors i) (sym made.log i)) (record {
      sound = left.sound;
      does = left.does;
      told = λ wanted. subst (λ edits. TellsCells edits document.cells (document_of (retagged old new store)).cells told)
          (ap (λ (c : Change). c.edits) (sym is)) (subst (λ cells. TellsCells [] document.cells cells told)
          (ap (λ (d : Document). d.cells) (sym whole)) (tells wanted));
    })

pub settled-added : {limits : LimitTable} {old : Parts} {new : Tags} {state : State} {document : Document}
    {place widget : ℕ} {word : List ℕ} {spans : List Span} {follows : Bool} {told : EditTold} (places : List ℕ)
    → Stands old document → Sits old document place widget → IsTagged old new state widget word true spans
    → spans ≡ spans_shown document (widget_at document place) places
    → names_of new.tags ≡ with_name (names_of old.tags.tags) word
    → length (with_name (names_of old.tags.tags) word) ≤ limits.tags + 1
    → (follows ≡ true → TellsCells [] document.cells
    (with_tag (key_of (widget_at document place) word) true spans document.cells) told)
    → IsSettled limits (with_state (with_tags new old) state) document follows (Ok told)
    (add_spans limits document (widget_at document place) word places)
settled-added {limits} {old} {new} {document = document} {place} {word = word} places stands sits made same names few =
    let counted = length-map new.tags (λ (tag : Tag). tag.name) in
    let count = length (with_name (names_of old.tags.tags) word) in
    let room : nat_lt (limits.tags + 1) count ≡ false = grind (arith, nat_tests) in
    settled-spans stands sits made (λ _. omega (arith, counted, ap length names, few))
    (added-by limits place word places stands room
    ∙ ap₂ (λ ts ss. answered (spans_made document ts (key_of (widget_at document place) word) true ss) Empty)
    (ap (λ ts. with_name ts word) (tags-before stands) ∙ sym names) (sym same))

pub settled-removed : {limits : LimitTable} {old : Parts} {state : State} {document : Document} {place widget : ℕ}
    {word : List ℕ} {spans : List Span} {follows : Bool} {told : EditTold} (places : List ℕ) → Stands old document
    → Sits old document place widget → IsTagged old old.tags state widget word false spans
    → spans ≡ spans_shown document (widget_at document place) places
    → (follows ≡ true → TellsCells [] document.cells
    (with_tag (key_of (widget_at document place) word) false spans document.cells) told)
    → IsSettled limits (with_state old state) document follows (Ok told)
    (remove_spans document (widget_at document place) word places)
settled-removed {document = document} {place} {widget} {word} places stands sits made same =
    settled-spans stands sits made (λ few. few) (removed-by place widget word places stands (ap is_some (sym made.is))
    ∙ ap₂ (λ ts ss. answered (spans_made document ts (key_of (widget_at document place) word) false ss) Empty)
    (tags-before stands) (sym same))

-- ---- the spans of places that a widget shows

wider : (short long : ℕ) (spans : List Span) → short ≤ long → All (SpanFits short) spans → All (SpanFits long) spans
wider short long spans less fit k span within = let one = fit k span within in let end = one.within in
    record { ordered = one.ordered; within = omega (arith, end, less) }

-- the spans that places make, and that they are in the view
spans-between : (document : Document) (widget : Widget) {start end : ℕ} {spans : List Span} (places : List ℕ)
    → start ≡ view_start widget → length (shown document widget) ≡ end - start → start ≤ end
    → All (λ p. p ≤ length (shown document widget)) places → spans ≡ spans_of start (end - start) places
    → (spans ≡ spans_shown document widget places) × All (SpanFits end) spans
spans-between document widget {start} {end} places begins many ordered within made =
    let fit = subst (λ n. All (λ p. p ≤ n) places) many within in
    let whole : start + (end - start) ≡ end = omega (arith, ordered) in (
      made ∙ ap₂ (λ s n. spans_of s n places) begins (sym many),
      subst (All (SpanFits end)) (sym made) (subst (λ n. All (SpanFits n) (spans_of start (end - start) places)) whole
          (spans_of-fit start (end - start) places fit)),
    )

-- in a view as it was found
pub spans-in : {parts : Parts} {document : Document} {place slot start end : ℕ} {spans given : List Span}
    (places : List ℕ) → IsSeen parts document place slot parts.content start end
    → All (λ p. p ≤ length (shown document (widget_at document place))) places →
    spans ≡ spans_of start (end - start) places → given ≡ spans
    → (given ≡ spans_shown document (widget_at document place) places) × All (SpanFits end) given
spans-in {document = document} {place} places seen within made same =
    spans-between document (widget_at document place) places (start-found-is seen) (length-found seen)
    (ordered-found seen) within (same ∙ made)

-- and in the document
pub spans-found : (document : Document) (place : ℕ) {start end : ℕ} {spans : List Span} (places : List ℕ)
    → start ≡ view_start (widget_at document place) → length (shown document (widget_at document place)) ≡ end - start
    → start ≤ end → end ≤ length document.cells
    → All (λ at. at ≤ length (shown document (widget_at document place))) places
    → spans ≡ spans_of start (end - start) places → record {
      value : spans ≡ spans_shown document (widget_at document place) places;
      fit : All (SpanFits (length document.cells)) spans;
    }
spans-found document place {end = end} {spans} places begins many ordered ends within is =
    let found = spans-between document (widget_at document place) places begins many ordered within is in
    record { value = found.0; fit = wider end (length document.cells) spans ends found.1 }

-- in the cells as they are kept
pub fit-kept : {old : Parts} {document : Document} {spans given : List Span} → Stands old document → given ≡ spans
    → All (SpanFits (length document.cells)) spans → All (SpanFits (length old.content.cells)) given
fit-kept {old} {document} {given = given} stands same fit =
    subst (λ (n : ℕ). All (SpanFits n) given) (cells-kept old document stands.is)
    (subst (All (SpanFits (length document.cells))) (sym same) fit)

-- places of the view
pub places-within : {old : Parts} {document : Document} {place widget start end : ℕ} (places : List ℕ) →
    IsSeen old document place widget old.content start end
    → All (λ at. at ≤ length (shown document (widget_at document place))) places → All (λ at. at ≤ end - start) places
places-within places seen within = subst (λ n. All (λ at. at ≤ n) places) (length-found seen) within
