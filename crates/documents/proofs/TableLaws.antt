-- A document whose table has other tags, and whose cells have other slots.
use Rattle.documents.proofs.Common.{◌≡◌, ℕ, ◌+◌, ◌≤◌, List, [], ◌∷◌, Bool, Ok, length, map, refl, sym, ap, subst, ◌∙◌}
use Rattle.documents.proofs.Common.{arith, All, AllByRecursion, All-head, All-tail, Named, AreTags, Tag, Tags, Content}
use Rattle.documents.proofs.Common.{Marks, IsDocument, LimitTable, changed, with_slot, characters-with_slot}
use Rattle.documents.proofs.Common.{length-changed, FitsText, AreAnchored, SpanFits, tagged, Span, Empty, Document}
use Rattle.documents.proofs.Common.{KeyedCell, Parts, document_of, placed, widget_of, key_pairs, keyed, pair_slots}
use Rattle.documents.proofs.Common.{AreMarked, HasKnownSlots, HasOwnMarks, Stands, Change, answered, Contains, names_of}
use Rattle.documents.proofs.Common.{known-changed}
use Rattle.text_model.specs.Content.{characters}
use Rattle.text_model.proofs.RunLaws.{long as counted}
use Rattle.documents.proofs.ChangeLaws.{Leaves, does-changed}
use Rattle.std.specs.FinMap as finite

-- the parts with another table and another store
abbrev pub retagged : Parts → Tags → Content → Parts
retagged parts table content = record parts { tags = table; content = content }

-- The cells have slots of the seats and of the new table alone. The marks and the characters are as they were.
pub record IsRetagged (old : Parts) (table : Tags) (content : Content) : Type 0 where
  pub tags : AreTags table
  pub limit : table.limit ≡ old.tags.limit
  pub known : All (HasKnownSlots old.seats.entries table.tags) content.cells
  pub marks : content.marks ≡ old.content.marks
  pub same : characters content.cells ≡ characters old.content.cells

pub retagged-is : (old : Parts) (table : Tags) (content : Content) (cells : List KeyedCell) →
    content.marks ≡ old.content.marks → keyed (key_pairs old.seats.entries table.tags) content.cells ≡ cells
    → document_of (retagged old table content) ≡ record (document_of old) { cells = cells; tags = names_of table.tags }
retagged-is old table content cells marks is =
    λ i. record (document_of old) {
      cells = is i;
      widgets = map (widget_of old.journal (marks i)) old.seats.entries;
      marks = placed (marks i) old.marks.marks;
      tags = names_of table.tags;
    }

pub leaves-retagged : (limits : LimitTable) (old : Parts) (table : Tags) (content : Content) (document : Document)
    (change : Change) → Stands old document → IsRetagged old table content
    → (length old.tags.tags ≤ limits.tags + 1 → length table.tags ≤ limits.tags + 1) →
    change ≡ answered (document_of (retagged old table content)) Empty
    → Leaves limits (retagged old table content) document (Ok Empty) change
leaves-retagged limits old table content document change stands new few is =
    let kept = stands.sound.kept in
    let long : length content.cells ≡ length old.content.cells = sym (counted content.cells) ∙ ap length new.same
    ∙ counted old.content.cells in
    let short = kept.short in
    does-changed stands (record {
      sound = record {
        kept = record {
          seats = kept.seats;
          slots = kept.slots;
          named = kept.named;
          text = subst IsDocument (sym new.same) kept.text;
          short = omega (arith, long, short);
          marks = λ number place there.
              (let within = kept.marks number place (ap (λ (marks : Marks). finite.get marks number) (sym new.marks)
              ∙ there) in omega (arith, long, within));
          own =
              subst (λ (marks : Marks). AllByRecursion (HasOwnMarks marks) old.seats.entries) (sym new.marks) kept.own;
          known = new.known;
          tags = new.tags;
          roomy = new.limit ∙ kept.roomy;
        };
        marked = subst (AreMarked old.marks) (sym new.marks) stands.sound.marked;
        orderly = stands.sound.orderly;
        views = record {
          anchored = subst (λ text. All (AreAnchored text) old.journal.anchors) (sym new.same)
              stands.sound.views.anchored;
          seated = stands.sound.views.seated;
        };
      };
      is = is;
      fits = λ fits. subst (λ text. FitsText limits.chars text old.journal.log.history) (sym new.same) fits;
      tags = few;
      marks = λ few. few;
      seats = refl;
    })

-- ---- a slot that is set on spans, or taken off them

pub marks-tagged : (slot : ℕ) (on : Bool) (spans : List Span) (content : Content) →
    (tagged slot on spans content).marks ≡ content.marks
marks-tagged slot on [] content = refl
marks-tagged slot on (span ∷ spans) content =
    marks-tagged slot on spans (record content { cells = changed (with_slot slot on) span.from span.to content.cells })

pub characters-tagged : (slot : ℕ) (on : Bool) (spans : List Span) (content : Content) →
    All (SpanFits (length content.cells)) spans
    → characters (tagged slot on spans content).cells ≡ characters content.cells
characters-tagged slot on [] content fit = refl
characters-tagged slot on (span ∷ spans) content fit =
    let first : SpanFits (length content.cells) span = All-head (SpanFits (length content.cells)) span spans fit in
    let long = length-changed (with_slot slot on) span.from span.to content.cells first.ordered first.within in
    characters-tagged slot on spans
    (record content { cells = changed (with_slot slot on) span.from span.to content.cells })
    (subst (λ n. All (SpanFits n) spans) (sym long) (All-tail (SpanFits (length content.cells)) span spans fit))
    ∙ characters-with_slot slot on span.from span.to content.cells first.ordered

pub known-tagged : (seats : List Named) (tags : List Tag) (slot : ℕ) (on : Bool) (spans : List Span) (content : Content)
    → Contains (pair_slots (key_pairs seats tags)) slot
    → All (HasKnownSlots seats tags) content.cells → All (HasKnownSlots seats tags) (tagged slot on spans content).cells
known-tagged seats tags slot on [] content one known = known
known-tagged seats tags slot on (span ∷ spans) content one known =
    known-tagged seats tags slot on spans
    (record content { cells = changed (with_slot slot on) span.from span.to content.cells }) one
    (known-changed seats tags slot on span.from span.to content.cells one known)
