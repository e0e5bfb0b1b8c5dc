-- Widgets that go.
use Rattle.documents.proofs.Common.{◌≡◌, ◌≢◌, ℕ, suc, ◌+◌, ◌*◌, true, false, cond, not, filter, List, [], ◌∷◌, Some}
use Rattle.documents.proofs.Common.{length, map, refl, sym, ap, ap₂, subst, ◌∙◌, arith, slice_get, nat_lt, is_some}
use Rattle.documents.proofs.Common.{unwrap_or, All, AllByRecursion, length-map, map-id, Cell, Content, Marks}
use Rattle.documents.proofs.Common.{IsDocument, MarksStand, LimitTable, with_slot, map-map, FitsText, Named, Names}
use Rattle.documents.proofs.Common.{AreMarks, SharedMarks, AreAnchored, cell_without, new_mark, without_widget}
use Rattle.documents.proofs.Common.{is_among, Document, Journal, Parts, Widget, document_of, mark_of, widget_of}
use Rattle.documents.proofs.Common.{AreSeats, HasKnownSlots, HasOwnMarks, IsSeated, IsSound, Stands, is_window_name}
use Rattle.documents.proofs.Common.{TagSlot, key_pairs, keyed, numbers_gone, seats_left, IsWellFormedDocument, is_kept}
use Rattle.documents.proofs.Common.{AreSeats-left, gone-apart, gone-low, keyed-unseated, known-unseated, map-filter}
use Rattle.command_effects.specs.Edits.{without_widgets}
use Rattle.documents.proofs.MarkLaws.{get-take_other, shared-number, stand-taken}
use Rattle.documents.proofs.PartsLaws.{marks-kept, tags-kept}
use Rattle.documents.proofs.PlacedLaws.{AreAlike, marked-alike, placed-alike}
use Rattle.documents.proofs.WellFormedLaws.{IsWellFormedDocument-kept, fits-kept}
use Rattle.std.specs.FinMap as finite
use Rattle.text_model.specs.Content as model
use Rattle.documents.specs.Widgets as widgets

-- ---- the store

cells-gone : (gone : List ℕ) (content : Content) → (without_widgets gone content).cells
    ≡ map (cell_without gone) content.cells
cells-gone [] content = sym (map-id content.cells)
cells-gone (slot ∷ gone) content =
    cells-gone gone (without_widget slot content) ∙ map-map (cell_without gone) (with_slot slot false) content.cells

characters-without : (gone : List ℕ) (cells : List Cell) →
    model.characters (map (cell_without gone) cells) ≡ model.characters cells
characters-without gone cells = map-map (λ (cell : Cell). cell.character) (cell_without gone) cells

characters-gone : (gone : List ℕ) (content : Content) → model.characters (without_widgets gone content).cells
    ≡ model.characters content.cells
characters-gone gone content = ap model.characters (cells-gone gone content) ∙ characters-without gone content.cells

length-gone : (gone : List ℕ) (content : Content) → length (without_widgets gone content).cells ≡ length content.cells
length-gone gone content =
    ap (λ (cells : List Cell). length cells) (cells-gone gone content) ∙ length-map content.cells (cell_without gone)

stand-gone : (gone : List ℕ) (content : Content) → MarksStand content → MarksStand (without_widgets gone content)
stand-gone [] content stand = stand
stand-gone (slot ∷ gone) content stand =
    let taken = stand-taken ((2 * slot) ∷ (2 * slot + 1) ∷ []) content stand in
    stand-gone gone (without_widget slot content) (λ number place is.
    let within = taken number place is in omega (arith, within, length-map content.cells (with_slot slot false)))

-- a number is of none of these widgets' own marks
abbrev IsApart : List ℕ → ℕ → Type 0
IsApart gone number = (at slot : ℕ) → slice_get gone at ≡ Some slot → (number ≢ 2 * slot) × (number ≢ 2 * slot + 1)

get-gone : (gone : List ℕ) (content : Content) (number : ℕ) → IsApart gone number →
    finite.get (without_widgets gone content).marks number ≡ finite.get content.marks number
get-gone [] content number apart = refl
get-gone (slot ∷ gone) content number apart =
    get-gone gone (without_widget slot content) number (λ at. apart (suc at))
    ∙ get-take_other (finite.remove content.marks (2 * slot)) (2 * slot + 1) number (apart 0 slot refl).1
    ∙ get-take_other content.marks (2 * slot) number (apart 0 slot refl).0

-- ---- the widgets that are left

-- of each seat that is left, a store has the own marks that another one has
abbrev AreLeftAlike : Marks → Marks → List (List ℕ) → List Named → Type 0
AreLeftAlike one other names seats =
    (at : ℕ) (seat : Named) → slice_get seats at ≡ Some seat → is_among seat.name names ≡ false
    → (finite.get one (2 * seat.number) ≡ finite.get other (2 * seat.number))
    × (finite.get one (2 * seat.number + 1) ≡ finite.get other (2 * seat.number + 1))

left-alike : (names : List (List ℕ)) (seats : List Named) (content : Content) → AreSeats seats →
    AreLeftAlike (without_widgets (numbers_gone names seats) content).marks content.marks names seats
left-alike names seats content seated at seat is stays =
    let gone = numbers_gone names seats in
    let apart = gone-apart seats names at seat seated is stays in (
      get-gone gone content (2 * seat.number) (λ k slot there.
          (λ same. apart k slot there (omega (arith, same)), λ same. omega (arith, same))),
      get-gone gone content (2 * seat.number + 1) (λ k slot there.
          (λ same. omega (arith, same), λ same. apart k slot there (omega (arith, same)))),
    )

each-left : (P Q : Named → Type 0) (names : List (List ℕ)) (seats : List Named) →
    ((at : ℕ) (seat : Named) → slice_get seats at ≡ Some seat → is_among seat.name names ≡ false → P seat → Q seat)
    → AllByRecursion P seats → AllByRecursion Q (seats_left names seats)
each-left P Q names [] goes each = tt
each-left P Q names (seat ∷ seats) goes each =
    let rest = each-left P Q names seats (λ at. goes (suc at)) each.1 in
    elim (is_among seat.name names) as (λ b. is_among seat.name names ≡ b →
    AllByRecursion Q (cond (not b) (seat ∷ seats_left names seats) (seats_left names seats))) [
      | true ↦ λ _. rest
      | false ↦ λ stays. (goes 0 seat refl stays each.0, rest)
    ] refl

widgets-left : (journal : Journal) (one other : Marks) (names : List (List ℕ)) (seats : List Named) →
    AreLeftAlike one other names seats
    → map (widget_of journal one) (seats_left names seats)
    ≡ filter (is_kept names) (map (widget_of journal other) seats)
widgets-left journal one other names [] alike = refl
widgets-left journal one other names (seat ∷ seats) alike =
    let rest = widgets-left journal one other names seats (λ at. alike (suc at)) in
    let others = filter (is_kept names) (map (widget_of journal other) seats) in
    elim (is_among seat.name names) as (λ b. is_among seat.name names ≡ b →
    map (widget_of journal one) (cond (not b) (seat ∷ seats_left names seats) (seats_left names seats))
    ≡ cond (not b) (widget_of journal other seat ∷ others) others) [
      | true ↦ λ _. rest
      | false ↦ λ stays.
          let same = alike 0 seat refl stays in
          let insert : mark_of one (2 * seat.number)
          ≡ mark_of other (2 * seat.number) = ap (λ found. unwrap_or found new_mark) same.0 in
          let current : mark_of one (2 * seat.number + 1)
          ≡ mark_of other (2 * seat.number + 1) = ap (λ found. unwrap_or found new_mark) same.1 in
          let here : widget_of journal one seat ≡ widget_of journal other seat = λ i.
          record (widget_of journal other seat) { insert = insert i; current = current i } in
          ap₂ (λ (w : Widget) ws. w ∷ ws) here rest
    ] refl

-- a mark of the table is of none of the widgets
shared-left : (table : SharedMarks) (names : List (List ℕ)) (seats : List Named) (content : Content) → AreMarks table →
    AreSeats seats
    → AreAlike (without_widgets (numbers_gone names seats) content).marks content.marks table.marks
shared-left table names seats content marks seated at mark is =
    let shared = shared-number table at mark marks is in
    get-gone (numbers_gone names seats) content mark.number (λ k slot there.
    let low = gone-low seats names k slot seated there in
    (λ same. omega (arith, shared, low, same), λ same. omega (arith, shared, low, same)))

-- ---- all of it

abbrev pub parts_left : List (List ℕ) → Parts → Parts
parts_left names old = record old {
  seats = record old.seats { entries = seats_left names old.seats.entries };
  content = without_widgets (numbers_gone names old.seats.entries) old.content;
}

unseated-sound : (old : Parts) (names : List (List ℕ)) → IsSound old → IsSound (parts_left names old)
unseated-sound old names sound =
    let seats = old.seats.entries in
    let gone = numbers_gone names seats in
    let seated = sound.kept.seats in
    let marked = sound.marked in
    let alike = left-alike names seats old.content seated in
    let left = AreSeats-left seats names seated in
    let long = length-gone gone old.content in
    let short = sound.kept.short in
    let text = sym (characters-gone gone old.content) in
    record {
      kept = record {
        seats = left;
        slots = sound.kept.slots;
        named = each-left (λ (seat : Named). is_window_name seat.name
            ≡ true) (λ (seat : Named). is_window_name seat.name
            ≡ true) names seats (λ at seat is stays named. named) sound.kept.named;
        text = subst IsDocument text sound.kept.text;
        short = omega (arith, long, short);
        marks = stand-gone gone old.content sound.kept.marks;
        own = each-left (HasOwnMarks old.content.marks) (HasOwnMarks (without_widgets gone old.content).marks) names
            seats (λ at seat is stays own.
            (let same = alike at seat is stays in
            record { insert = ap is_some same.0 ∙ own.insert; current = ap is_some same.1 ∙ own.current }))
            sound.kept.own;
        known = subst (All (HasKnownSlots (seats_left names seats) old.tags.tags)) (sym (cells-gone gone old.content))
            (known-unseated seats old.tags names old.content.cells seated sound.kept.tags sound.kept.known);
        tags = sound.kept.tags;
        roomy = sound.kept.roomy;
      };
      marked = record {
        marks = marked.marks;
        roomy = marked.roomy;
        each = marked-alike (without_widgets gone old.content).marks old.content.marks old.marks.marks
            (shared-left old.marks names seats old.content marked.marks seated) marked.each;
      };
      orderly = record { most = sound.orderly.most; groups = sound.orderly.groups; undone = sound.orderly.undone };
      views = record {
        anchored = subst (λ t. All (AreAnchored t) old.journal.anchors) text sound.views.anchored;
        seated = each-left (IsSeated old.journal.anchors old.journal.disabled)
            (IsSeated old.journal.anchors old.journal.disabled) names seats (λ at seat is stays one. one)
            sound.views.seated;
      };
    }

unseated-is : (old : Parts) (names : List (List ℕ)) → IsSound old →
    document_of (parts_left names old) ≡ widgets.without_widgets names (document_of old)
unseated-is old names sound =
    let seats = old.seats.entries in
    let gone = numbers_gone names seats in
    let seated = sound.kept.seats in
    let marks = (without_widgets gone old.content).marks in
    let cells = ap (keyed (key_pairs (seats_left names seats) old.tags.tags)) (cells-gone gone old.content)
    ∙ keyed-unseated seats old.tags names old.content.cells seated sound.kept.tags in
    let shown = widgets-left old.journal marks old.content.marks names seats (left-alike names seats old.content seated)
    in
    let shared = placed-alike marks old.content.marks old.marks.marks
    (shared-left old.marks names seats old.content sound.marked.marks seated) in
    λ i. record (document_of old) { cells = cells i; widgets = shown i; marks = shared i }

-- what is left stands so, and stays well formed
pub record IsLeft (names : List (List ℕ)) (new : Parts) (document : Document) : Type 0 where
  pub sound : IsSound new
  pub is : document_of new ≡ widgets.without_widgets names document
  pub formed : (limits : LimitTable) → IsWellFormedDocument limits document →
      IsWellFormedDocument limits (document_of new)

pub leaves-others : {old : Parts} {document : Document} {seats : Names} {content : Content} {given held : List TagSlot}
    (names : List (List ℕ)) → Stands old document →
    seats ≡ record old.seats { entries = seats_left names old.seats.entries }
    → content ≡ without_widgets (map (λ (slot : TagSlot). slot.0) given) old.content → given ≡ held
    → map (λ (slot : TagSlot). slot.0) held ≡ numbers_gone names old.seats.entries →
    IsLeft names (record old { seats = seats; content = content }) document
leaves-others {old} {document} {seats} {content} names stands seats_is changed same held_is =
    let gone = numbers_gone names old.seats.entries in
    let content_is : content ≡ without_widgets gone old.content = changed
    ∙ ap (λ slots. without_widgets slots old.content) (ap (map (λ (slot : TagSlot). slot.0)) same ∙ held_is) in
    let sound = unseated-sound old names stands.sound in
    let left : IsLeft names (parts_left names old) document = record {
      sound = sound;
      is = unseated-is old names stands.sound ∙ ap (widgets.without_widgets names) stands.is;
      formed = λ limits formed.
          let few = formed.tag_count in
          let many = formed.mark_count in
          let tags = tags-kept old document stands.is in
          let marks = marks-kept old document stands.is in
          IsWellFormedDocument-kept limits (parts_left names old) sound
          (subst (λ text. FitsText limits.chars text old.journal.log.history) (sym (characters-gone gone old.content))
          (fits-kept limits old document stands.is formed)) (omega (arith, few, tags)) (omega (arith, many, marks));
    } in
    subst (λ (p : Parts). IsLeft names p document) (λ i.
    record old { seats = sym seats_is i; content = sym content_is i }) left

-- whether some widget is left
pub some-kept : (parts : Parts) (document : Document) (names : List (List ℕ)) → document_of parts ≡ document
    → nat_lt 0 (length (seats_left names parts.seats.entries))
    ≡ nat_lt 0 (length (widgets.without_widgets names document).widgets)
some-kept parts document names is =
    ap (nat_lt 0)
    (sym (length-map (seats_left names parts.seats.entries) (widget_of parts.journal parts.content.marks))
    ∙ ap (λ (ws : List Widget). length ws) (map-filter (widget_of parts.journal parts.content.marks) (is_kept names)
    parts.seats.entries)
    ∙ ap (λ (d : Document). length (filter (is_kept names) d.widgets)) is)
