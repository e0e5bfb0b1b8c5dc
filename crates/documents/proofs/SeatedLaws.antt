-- A widget that is made.
use Rattle.documents.proofs.Common.{◌≡◌, ◌≢◌, ℕ, zero, suc, ◌+◌, ◌*◌, ◌<◌, ◌≤◌, Bool, true, false, set, List, [], ◌∷◌}
use Rattle.documents.proofs.Common.{◌++◌, length, map, get_or, refl, sym, ap, ap₂, subst, ◌∙◌, true≢false, arith}
use Rattle.documents.proofs.Common.{slice_get, is_some, unwrap_or, IfSome, All, AllByRecursion, replicate}
use Rattle.documents.proofs.Common.{length-append, length-set, map-append, get_or-set_other, All-append, All-replicate}
use Rattle.documents.proofs.Common.{All-set, get_or-set_at, Place, Content, Marks, LimitTable, IsLineStart, lines}
use Rattle.documents.proofs.Common.{FitsText, limit_of, Kept, Contains-from_stands, AreNames, Named, Names, numbers_of}
use Rattle.documents.proofs.Common.{first_number, AreAnchored, Anchors, new_mark, with_own_marks, is_among}
use Rattle.documents.proofs.Common.{history_under, is_behind, Settings, Document, Journal, Parts, Widget, characters}
use Rattle.documents.proofs.Common.{document_of, mark_of, placed, whole, widget_of, HasOwnMarks, IsSeated, IsSound}
use Rattle.documents.proofs.Common.{Stands, is_window_name, AreLines, anchor_at, IsLonger, IsWellFormedDocument}
use Rattle.documents.proofs.Common.{window_names, new_widget, with_peer, option_map, Some, None, Option, keyed-seated}
use Rattle.documents.proofs.Common.{known-seated, characters-keyed, AreSeats-names, IsSeatPut}
use Rattle.name_list.specs.Names.{place_of}
use Rattle.documents.proofs.FindLaws.{widget-among}
use Rattle.documents.proofs.JournalLaws.{fits-under, orderly-under, with_kept}
use Rattle.documents.proofs.MarkLaws.{get-put, get-put_other, mark_of-put, mark_of-put_other, own-put, shared-alike}
use Rattle.documents.proofs.MarkLaws.{stand-put}
use Rattle.documents.proofs.PartsLaws.{characters-kept, marks-kept, pairs_of, tags-kept}
use Rattle.documents.proofs.PlacedLaws.{marked-alike, placed-alike}
use Rattle.documents.proofs.ViewLaws.{counted}
use Rattle.documents.proofs.WellFormedLaws.{IsWellFormedDocument-kept, fits-kept}
use Rattle.documents.proofs.WidgetLaws.{journal_set, line_anchor, lines-anchored, seats-set}
use Rattle.std.specs.FinMap as finite
use Rattle.text_model.specs.Content as model

-- what became of the fields
pub record IsSeatMade (old : Parts) (before after : Kept) (name : List ℕ) (slot : ℕ) (settings : Settings)
    (seats : Names) (own : Anchors) (content : Content) : Type 0 where
  pub named : is_window_name name ≡ true
  pub put : IsSeatPut name (unwrap_or own.start 0) old.seats seats old.content content slot
  pub flagged : slot < length old.journal.disabled
  pub anchored : slot < length old.journal.anchors
  pub own_is : own ≡ record {
    start = line_anchor (model.characters old.content.cells) settings.start;
    end = line_anchor (model.characters old.content.cells) settings.end;
  }
  pub history : after.history ≡ history_under settings.document before.history
  pub modified : after.modified ≡ before.modified
  pub most : after.most ≡ limit_of settings.document.most_undo

-- ---- lists that are longer

longer-at : {A : Type 0} (value : A) (old new : List A) (at : ℕ) (d : A) → IsLonger value old new → at < length old →
    get_or new at d ≡ get_or old at d
longer-at value [] new at d longer within = absurd (omega (arith, within))
longer-at value (x ∷ old) new zero d longer within = ap (λ xs. get_or xs 0 d) longer.1
longer-at value (x ∷ old) new (suc at) d longer within =
    ap (λ xs. get_or xs (suc at) d) longer.1
    ∙ longer-at value old (old ++ replicate longer.0 value) at d (longer.0, refl) (omega (arith, within))

longer-length : {A : Type 0} (value : A) (old new : List A) → IsLonger value old new → length old ≤ length new
longer-length value old new longer =
    (let counted = ap length longer.1 ∙ length-append old (replicate longer.0 value) in omega (arith, counted))

longer-all : (P : Anchors → Type 0) (value : Anchors) (old new : List Anchors) → IsLonger value old new → P value →
    All P old → All P new
longer-all P value old new longer one all =
    subst (All P) (sym longer.1) (All-append P old (replicate longer.0 value) all (All-replicate P longer.0 value one))

all-append : (P : Named → Type 0) (xs ys : List Named) → AllByRecursion P xs → AllByRecursion P ys →
    AllByRecursion P (xs ++ ys)
all-append P [] ys left right = right
all-append P (x ∷ xs) ys left right = (left.0, all-append P xs ys left.1 right)

-- ---- the others stay as they are

-- a number that stands among some isn't a free one
free-apart : (seats : List Named) (slot : ℕ) → ((at : ℕ) → slice_get (numbers_of seats) at ≡ Some slot → ⊥) →
    AllByRecursion (λ (seat : Named). seat.number ≢ slot) seats
free-apart [] slot free = tt
free-apart (seat ∷ seats) slot free = (λ same. free 0 (ap Some same), free-apart seats slot (λ at. free (suc at)))

start-within : (text : List ℕ) (start : Option ℕ) → IfSome start (IsLineStart text) → unwrap_or start 0 ≤ length text
start-within text None line = omega arith
start-within text (Some start) line = line.within

pub own-within : (parts : Parts) (document : Document) (settings : Settings) (own : Anchors) → Stands parts document →
    AreLines (lines (characters document.cells)) settings → is_behind settings.start settings.end ≡ false
    → own ≡ record {
      start = line_anchor (model.characters parts.content.cells) settings.start;
      end = line_anchor (model.characters parts.content.cells) settings.end;
    }
    → AreAnchored (model.characters parts.content.cells) own × (unwrap_or own.start 0 ≤ length parts.content.cells)
own-within parts document settings own stands are ordered is =
    let text = model.characters parts.content.cells in
    let stand : AreAnchored text own = subst (AreAnchored text) (sym is)
    (lines-anchored text settings (subst (λ t. AreLines (lines t) settings)
    (characters-kept parts document stands.is) are) ordered) in (
      stand,
      (let h = start-within text own.start stand.start in let long = counted parts.content in
          omega (arith, h, long)),
    )

same-marks : (places : Marks) (slot : ℕ) (mark : Place) (number : ℕ) → number ≢ 2 * slot → number ≢ 2 * slot + 1
    → mark_of (finite.insert (finite.insert places (2 * slot) mark) (2 * slot + 1) mark) number ≡ mark_of places number
same-marks places slot mark number one two = mark_of-put_other (finite.insert places (2 * slot) mark) (2 * slot + 1)
    mark number two ∙ mark_of-put_other places (2 * slot) mark number one

same-widget : (old new : Journal) (places : Marks) (slot : ℕ) (mark : Place) (seat : Named) → seat.number ≢ slot
    → get_or new.anchors seat.number whole ≡ get_or old.anchors seat.number whole →
    get_or new.disabled seat.number false ≡ get_or old.disabled seat.number false
    → widget_of new (finite.insert (finite.insert places (2 * slot) mark) (2 * slot + 1) mark) seat
    ≡ widget_of old places seat
same-widget old new places slot mark seat apart anchors disabled =
    let insert = same-marks places slot mark (2 * seat.number) (λ same. apart (omega (arith, same))) (λ same.
    omega (arith, same)) in
    let current = same-marks places slot mark (2 * seat.number + 1) (λ same. omega (arith, same)) (λ same.
    apart (omega (arith, same))) in
    λ i. record (widget_of old places seat) {
      start = (anchors i).start;
      end = (anchors i).end;
      disabled = disabled i;
      insert = insert i;
      current = current i;
    }

same-widgets : (old : Journal) (places : Marks) (slot : ℕ) (mark : Place) (settings : Settings) (own : Anchors)
    (kept : Kept) (seats : List Named) → AllByRecursion (λ (seat : Named). seat.number ≢ slot) seats
    → map (widget_of (journal_set old slot settings own kept)
    (finite.insert (finite.insert places (2 * slot) mark) (2 * slot + 1) mark)) seats
    ≡ map (widget_of old places) seats
same-widgets old places slot mark settings own kept [] apart = refl
same-widgets old places slot mark settings own kept (seat ∷ seats) apart =
    ap₂ (λ (w : Widget) ws. w ∷ ws)
    (same-widget old (journal_set old slot settings own kept) places slot mark seat apart.0
    (get_or-set_other old.anchors slot seat.number own whole apart.0)
    (get_or-set_other old.disabled slot seat.number settings.disabled false apart.0))
    (same-widgets old places slot mark settings own kept seats apart.1)

-- ---- all of it

abbrev seated_parts : Parts → Kept → List ℕ → ℕ → Settings → Anchors → Parts
seated_parts old after name slot settings own = record {
  seats = record old.seats { entries = old.seats.entries ++ record { name = name; number = slot } ∷ [] };
  tags = old.tags;
  marks = old.marks;
  journal = journal_set old.journal slot settings own after;
  content = with_own_marks slot (record new_mark { offset = unwrap_or own.start 0 }) old.content;
}

-- what holds of a document at any time holds then, the widgets are those before and one more
seated-sound : (old : Parts) (before after : Kept) (document : Document) (name : List ℕ) (slot : ℕ)
    (settings : Settings) (seats : Names) (own : Anchors) (content : Content)
    → Stands (with_kept old before) document → AreLines (lines (characters document.cells)) settings →
    is_behind settings.start settings.end ≡ false
    → IsSeatMade old before after name slot settings seats own content →
    IsSound (seated_parts old after name slot settings own)
seated-sound old before after document name slot settings seats own content stands are ordered made =
    let new : Parts = seated_parts old after name slot settings own in
    let text = model.characters old.content.cells in
    let mark : Place = record new_mark { offset = unwrap_or own.start 0 } in
    let seat : Named = record { name = name; number = slot } in
    let one = finite.insert old.content.marks (2 * slot) mark in
    let less = made.put.below in
    let low : 2 * slot < first_number = omega (arith, less) in
    let low_too : 2 * slot + 1 < first_number = omega (arith, less) in
    let sound : AreNames new.seats = subst AreNames made.put.last made.put.sound in
    let limit = stands.sound.kept.slots in
    let seated = AreSeats-names new.seats sound (omega (arith, limit)) in
    let own_stand = own-within (with_kept old before) document settings own stands are ordered made.own_is in
    let stand = own_stand.0 in
    let within : mark.offset ≤ length old.content.cells = own_stand.1 in
    let marked = stands.sound.marked in
    let first = marked-alike one old.content.marks old.marks.marks
    (shared-alike old.marks old.content.marks (2 * slot) mark marked.marks low) marked.each in
    let both = marked-alike (finite.insert one (2 * slot + 1) mark) one old.marks.marks
    (shared-alike old.marks one (2 * slot + 1) mark marked.marks low_too) first in
    let insert : is_some (finite.get (finite.insert one (2 * slot + 1) mark) (2 * slot)) ≡ true =
    ap is_some (get-put_other one (2 * slot + 1) mark (2 * slot) (λ same. omega (arith, same))
    ∙ get-put old.content.marks (2 * slot) mark) in
    let current : is_some (finite.get (finite.insert one (2 * slot + 1) mark) (2 * slot + 1))
    ≡ true = ap is_some (get-put one (2 * slot + 1) mark) in
    record {
      kept = record {
        seats = seated;
        slots = limit;
        named = all-append (λ (s : Named). is_window_name s.name
            ≡ true) old.seats.entries (seat ∷ []) stands.sound.kept.named (made.named, tt);
        text = stands.sound.kept.text;
        short = stands.sound.kept.short;
        marks = stand-put (record old.content { marks = one }) (2 * slot + 1) mark
            (stand-put old.content (2 * slot) mark stands.sound.kept.marks within) within;
        own = all-append (HasOwnMarks new.content.marks) old.seats.entries (seat ∷ [])
            (own-put one (2 * slot + 1) mark old.seats.entries
            (own-put old.content.marks (2 * slot) mark old.seats.entries stands.sound.kept.own))
            (record { insert = insert; current = current }, tt);
        known = known-seated old.seats.entries (seat ∷ []) old.tags stands.sound.kept.seats stands.sound.kept.tags
            old.content.cells stands.sound.kept.known;
        tags = stands.sound.kept.tags;
        roomy = stands.sound.kept.roomy;
      };
      marked = record { marks = marked.marks; roomy = marked.roomy; each = both };
      orderly = orderly-under settings.document new.journal before after made.history made.most;
      views = record {
        anchored = All-set (AreAnchored text) old.journal.anchors slot own stand stands.sound.views.anchored;
        seated = all-append (IsSeated new.journal.anchors new.journal.disabled) old.seats.entries (seat ∷ [])
            (seats-set old.journal slot settings own after old.seats.entries stands.sound.views.seated) (
              (let a = made.anchored in let f = made.flagged in
                  record {
                    anchored = omega (arith, a, length-set old.journal.anchors slot own);
                    flagged = omega (arith, f, length-set old.journal.disabled slot settings.disabled);
                  }),
              tt,
            );
      };
    }

-- the document is the one before, with a widget more
seated-is : (old : Parts) (before after : Kept) (name : List ℕ) (slot : ℕ) (settings : Settings) (seats : Names)
    (own : Anchors) (content : Content)
    → IsSound (with_kept old before) → IsSound (seated_parts old after name slot settings own) →
    IsSeatMade old before after name slot settings seats own content
    → document_of (seated_parts old after name slot settings own)
    ≡ with_peer name settings (document_of (with_kept old before))
seated-is old before after name slot settings seats own content sound new_sound made =
    let parts : Parts = with_kept old before in
    let new : Parts = seated_parts old after name slot settings own in
    let lone : Document = document_of parts in
    let places = old.content.marks in
    let mark : Place = record new_mark { offset = unwrap_or own.start 0 } in
    let one = finite.insert places (2 * slot) mark in
    let seat : Named = record { name = name; number = slot } in
    let less = made.put.below in
    let same : model.characters old.content.cells
    ≡ characters lone.cells = sym (characters-keyed (pairs_of parts) old.content.cells) in
    let cells = keyed-seated old.seats.entries (seat ∷ []) old.tags old.content.cells sound.kept.seats
    new_sound.kept.seats sound.kept.tags sound.kept.known in
    let apart = free-apart old.seats.entries slot (λ at is.
    made.put.least.free (Contains-from_stands (numbers_of old.seats.entries) slot (at, is))) in
    let others = same-widgets old.journal places slot mark settings own after old.seats.entries apart in
    let there = get_or-set_at old.journal.anchors slot slot own whole refl made.anchored in
    let flag = get_or-set_at old.journal.disabled slot slot settings.disabled false refl made.flagged in
    let start : (get_or (set old.journal.anchors slot own) slot whole).start ≡ option_map (anchor_at lone) settings.start =
    ap (λ (a : Anchors). a.start) (there ∙ made.own_is) ∙ ap (λ t. line_anchor t settings.start) same in
    let end : (get_or (set old.journal.anchors slot own) slot whole).end ≡ option_map (anchor_at lone) settings.end =
    ap (λ (a : Anchors). a.end) (there ∙ made.own_is) ∙ ap (λ t. line_anchor t settings.end) same in
    let own_start : own.start ≡ option_map (anchor_at lone) settings.start = ap (λ (a : Anchors). a.start) made.own_is
    ∙ ap (λ t. line_anchor t settings.start) same in
    let target : mark ≡ record new_mark { offset = unwrap_or (option_map (anchor_at lone) settings.start) 0 } = ap (λ s.
    record new_mark { offset = unwrap_or s 0 }) own_start in
    let insert : mark_of (finite.insert one (2 * slot + 1) mark) (2 * slot)
    ≡ record new_mark { offset = unwrap_or (option_map (anchor_at lone) settings.start) 0 } =
    mark_of-put_other one (2 * slot + 1) mark (2 * slot) (λ is. omega (arith, is)) ∙ mark_of-put places (2 * slot) mark
    ∙ target in
    let current : mark_of (finite.insert one (2 * slot + 1) mark) (2 * slot + 1)
    ≡ record new_mark { offset = unwrap_or (option_map (anchor_at lone) settings.start) 0 } =
    mark_of-put one (2 * slot + 1) mark ∙ target in
    let newest : widget_of new.journal new.content.marks seat ≡ new_widget lone name settings =
    λ i. record {
      name = name;
      start = start i;
      end = end i;
      disabled = flag i;
      insert = insert i;
      current = current i;
    } in
    let widgets : map (widget_of new.journal new.content.marks) new.seats.entries
    ≡ lone.widgets ++ new_widget lone name settings ∷ [] =
    map-append (widget_of new.journal new.content.marks) old.seats.entries (seat ∷ [])
    ∙ ap₂ (λ ws (w : Widget). ws ++ w ∷ []) others newest in
    let shared : placed new.content.marks old.marks.marks ≡ placed places old.marks.marks =
    placed-alike (finite.insert one (2 * slot + 1) mark) one old.marks.marks
    (shared-alike old.marks one (2 * slot + 1) mark sound.marked.marks (omega (arith, less)))
    ∙ placed-alike one places old.marks.marks
    (shared-alike old.marks places (2 * slot) mark sound.marked.marks (omega (arith, less))) in
    let history = made.history in
    let modified = made.modified in
    λ i. record (document_of new) {
      cells = cells i;
      widgets = widgets i;
      marks = shared i;
      history = history i;
      modified = modified i;
    }

-- what the fields give
pub record Seats (new : Parts) (document : Document) (name : List ℕ) (settings : Settings) : Type 0 where
  pub sound : IsSound new
  pub is : document_of new ≡ with_peer name settings document
  pub formed : (limits : LimitTable) → IsWellFormedDocument limits document →
      IsWellFormedDocument limits (document_of new)

pub seated-made : {old : Parts} {before after : Kept} {document : Document} {name : List ℕ} {slot : ℕ}
    {settings : Settings} {seats : Names} {own : Anchors} {content : Content}
    → IsSeatMade old before after name slot settings seats own content → Stands (with_kept old before) document →
    AreLines (lines (characters document.cells)) settings → is_behind settings.start settings.end ≡ false
    → Seats (record old {
      seats = seats;
      journal = journal_set old.journal slot settings own after;
      content = content;
    }) document name settings
seated-made {old} {before} {after} {document} {name} {slot} {settings} {seats} {own} {content} made stands are ordered =
    let parts : Parts = with_kept old before in
    let new : Parts = seated_parts old after name slot settings own in
    let sound = seated-sound old before after document name slot settings seats own content stands are ordered made in
    let is = seated-is old before after name slot settings seats own content stands.sound sound made in
    let fits : (limits : LimitTable) → IsWellFormedDocument limits document →
    IsWellFormedDocument limits (document_of new) = λ limits formed.
    let few = formed.tag_count in
    let many = formed.mark_count in
    let tags = tags-kept parts document stands.is in
    let marks = marks-kept parts document stands.is in
    IsWellFormedDocument-kept limits new sound
    (subst (FitsText limits.chars (model.characters old.content.cells)) (sym made.history)
    (fits-under limits.chars settings.document before.history (model.characters old.content.cells)
    (fits-kept limits parts document stands.is formed)))
    (omega (arith, few, tags)) (omega (arith, many, marks)) in
    subst (λ (p : Parts). Seats p document name settings) (λ i. record new {
      seats = sym made.put.last i;
      content = sym made.put.store i;
    })
    (record { sound = sound; is = is ∙ ap (with_peer name settings) stands.is; formed = fits })

-- ---- a widget that isn't made

longer-widgets : (old : Journal) (places : Marks) (disabled : List Bool) (anchors : List Anchors) (seats : List Named) →
    IsLonger false old.disabled disabled → IsLonger whole old.anchors anchors
    → AllByRecursion (IsSeated old.anchors old.disabled) seats →
    map (widget_of (record old { disabled = disabled; anchors = anchors }) places) seats
    ≡ map (widget_of old places) seats
longer-widgets old places disabled anchors [] flags longer seated = refl
longer-widgets old places disabled anchors (seat ∷ seats) flags longer seated =
    let there = longer-at whole old.anchors anchors seat.number whole longer seated.0.anchored in
    let flag = longer-at false old.disabled disabled seat.number false flags seated.0.flagged in
    ap₂ (λ (w : Widget) ws. w ∷ ws) (λ i. record (widget_of old places seat) {
      start = (there i).start;
      end = (there i).end;
      disabled = flag i;
    })
    (longer-widgets old places disabled anchors seats flags longer seated.1)

longer-seated : (old : Journal) (disabled : List Bool) (anchors : List Anchors) (seats : List Named) →
    IsLonger false old.disabled disabled → IsLonger whole old.anchors anchors
    → AllByRecursion (IsSeated old.anchors old.disabled) seats → AllByRecursion (IsSeated anchors disabled) seats
longer-seated old disabled anchors [] flags longer seated = tt
longer-seated old disabled anchors (seat ∷ seats) flags longer seated =
    let one = seated.0.anchored in
    let two = seated.0.flagged in
    let more = longer-length whole old.anchors anchors longer in
    let most = longer-length false old.disabled disabled flags in (
      record { anchored = omega (arith, one, more); flagged = omega (arith, two, most) },
      longer-seated old disabled anchors seats flags longer seated.1,
    )

-- the document is the same where the lists by slot are longer
pub stands-longer : {old : Parts} {document : Document} {disabled : List Bool} {anchors : List Anchors} →
    Stands old document → IsLonger false old.journal.disabled disabled → IsLonger whole old.journal.anchors anchors
    → Stands (record old { journal = record old.journal { disabled = disabled; anchors = anchors } }) document
stands-longer {old} {document} {disabled} {anchors} stands flags longer =
    let widgets = longer-widgets old.journal old.content.marks disabled anchors old.seats.entries flags longer
    stands.sound.views.seated in
    record {
      sound = record {
        kept = stands.sound.kept;
        marked = stands.sound.marked;
        orderly = record {
          most = stands.sound.orderly.most;
          groups = stands.sound.orderly.groups;
          undone = stands.sound.orderly.undone;
        };
        views = record {
          anchored = longer-all (AreAnchored (model.characters old.content.cells)) whole old.journal.anchors anchors
              longer (record { start = tt; end = tt; ordered = omega arith }) stands.sound.views.anchored;
          seated = longer-seated old.journal disabled anchors old.seats.entries flags longer stands.sound.views.seated;
        };
      };
      is = (λ i. record (document_of old) { widgets = widgets i }) ∙ stands.is;
    }

-- no seat has a name that no window has
pub unnamed : (parts : Parts) (document : Document) (name : List ℕ) → Stands parts document →
    is_among name (window_names document) ≡ false → place_of name parts.seats.entries ≡ None
unnamed parts document name stands new =
    let found = place_of name parts.seats.entries in
    none found (widget-among name stands found refl ∙ new)
  where
    none : (found : Option ℕ) → is_some found ≡ false → found ≡ None
    none None is = refl
    none (Some place) is = absurd (true≢false is)
