-- A document that is kept soundly is well formed.
use Rattle.documents.proofs.Common.{◌≡◌, ℕ, suc, ◌+◌, ◌*◌, ◌≤◌, true, false, List, [], ◌∷◌, length, refl, sym, ap}
use Rattle.documents.proofs.Common.{subst, ◌∙◌, arith, inl, inr, false_from_ne_true, length-map, bytes_eq-Decides}
use Rattle.documents.proofs.Common.{AllByRecursion, slice_get, if◌then◌else◌, IfSome, unwrap_or, Cell, IsDocument}
use Rattle.documents.proofs.Common.{LimitTable, IsLineStart, Named, Tag, Tags, AreTags, FitsText, AreAnchored, is_same}
use Rattle.documents.proofs.Common.{is_among, found_tag, Key, keyed, Document, Parts, Widget, anchors_at, characters}
use Rattle.documents.proofs.Common.{document_of, whole, widget_of, IsSeated, IsSound, is_window_name, belongs}
use Rattle.documents.proofs.Common.{HasItsKeys, IsPlaced, IsWellFormedDocument, window_names, ◌&&◌, not, map, None}
use Rattle.documents.proofs.Common.{Some, names_of, is_key_of, keys_of-belongs, characters-keyed, length-keyed}
use Rattle.command_effects.proofs.LeftLaws.{AreApart-head, AreApart-tail}
use Rattle.name_list.specs.Names.{AreApart, names_of as names_of_seats}
use Rattle.std.specs.List.{IsDistinct}
use Rattle.mark_table.specs.SharedMarks.{names_of as names_of_marks}
use Rattle.documents.specs.Documents.{sel}
use Rattle.documents.proofs.PlacedLaws.{offset-within, placed-length, placed-names, placed-within, placed-words}
use Rattle.documents.proofs.PartsLaws.{pairs_of}
use Rattle.std.specs.FinMap as finite
use Rattle.text_model.specs.Content as model

-- ---- names

-- names that stand once each are distinct
differ : (name : List ℕ) (names : List (List ℕ)) → ((at : ℕ) → slice_get names at ≡ Some name → ⊥) →
    AllByRecursion (λ other. is_same name other ≡ false) names
differ name [] none = tt
differ name (other ∷ names) none = (
  false_from_ne_true _ (λ same. none 0 (ap Some (sym ((bytes_eq-Decides name other).0 same)))),
  differ name names (λ at is. none (suc at) is),
)

pub distinct_apart : (names : List (List ℕ)) → AreApart names → IsDistinct is_same names
unfolding IsDistinct
distinct_apart [] apart = tt
distinct_apart (name ∷ names) apart = (
  differ name names (λ at is. AreApart-head name names at apart is),
  distinct_apart names (AreApart-tail name names apart),
)

sel_among : (table : Tags) → AreTags table → is_among sel (names_of table.tags) ≡ true
sel_among table are = elim (found_tag sel table.tags 0) [
  | inl none ↦ absurd (let h : None ≡ Some 0 = sym none.0 ∙ are.selection in cc)
  | inr there ↦ there.among
]

-- the widgets have the names of the seats
pub windows-kept : (parts : Parts) → window_names (document_of parts) ≡ names_of_seats parts.seats.entries
windows-kept parts = all parts.seats.entries
  where
    all : (seats : List Named) → map (λ (widget : Widget). widget.name)
        (map (widget_of parts.journal parts.content.marks) seats) ≡ names_of_seats seats
    all [] = refl
    all (seat ∷ seats) = ap (λ names. seat.name ∷ names) (all seats)

-- ---- keys

belongs-kept : (parts : Parts) (key : Key) → is_key_of parts.seats.entries parts.tags.tags key
    ≡ belongs (document_of parts) key
belongs-kept parts key =
    ap (λ names. if key.selects then is_among key.name names
    else is_among key.name (names_of parts.tags.tags) && not (is_same key.name sel)) (sym (windows-kept parts))

keys_belong : (parts : Parts) → IsSound parts → (cells : List Cell) →
    AllByRecursion (HasItsKeys (document_of parts)) (keyed (pairs_of parts) cells)
keys_belong parts sound [] = tt
keys_belong parts sound (cell ∷ cells) = (
  λ key there. sym (belongs-kept parts key)
      ∙ keys_of-belongs parts.seats.entries parts.tags sound.kept.seats sound.kept.tags cell.tags key there,
  keys_belong parts sound cells,
)

-- ---- widgets

-- a widget's view is as its anchors are, and its marks stand in the text
placed-widget : (parts : Parts) → IsSound parts → (seat : Named) → is_window_name seat.name ≡ true →
    IsSeated parts.journal.anchors parts.journal.disabled seat
    → IsPlaced (document_of parts) (widget_of parts.journal parts.content.marks seat)
placed-widget parts sound seat named seated =
    let text = model.characters parts.content.cells in
    let document = document_of parts in
    let same : text ≡ characters document.cells = sym (characters-keyed (pairs_of parts) parts.content.cells) in
    let long : length document.cells ≡ length parts.content.cells = length-keyed (pairs_of parts) parts.content.cells in
    let counted : length text ≡ length parts.content.cells = length-map parts.content.cells (λ (cell : Cell).
    cell.character) in
    let anchored : AreAnchored text (anchors_at parts.journal seat.number) = sound.views.anchored seat.number whole
    seated.anchored in
    let stand = sound.kept.marks in
    record {
      name = named;
      start = subst (λ t. IfSome (anchors_at parts.journal seat.number).start (IsLineStart t)) same anchored.start;
      end = subst (λ t. IfSome (anchors_at parts.journal seat.number).end (IsLineStart t)) same anchored.end;
      ordered = subst (λ n. unwrap_or (anchors_at parts.journal seat.number).start 0
          ≤ unwrap_or (anchors_at parts.journal seat.number).end n) (counted ∙ sym long) anchored.ordered;
      insert = omega (
        arith,
        long,
        offset-within (finite.get parts.content.marks (2 * seat.number))
            (length parts.content.cells) (stand (2 * seat.number)),
      );
      current = omega (
        arith,
        long,
        offset-within (finite.get parts.content.marks (2 * seat.number + 1))
            (length parts.content.cells) (stand (2 * seat.number + 1)),
      );
    }

placed-widgets : (parts : Parts) → IsSound parts → (seats : List Named) →
    AllByRecursion (λ (seat : Named). is_window_name seat.name ≡ true) seats →
    AllByRecursion (IsSeated parts.journal.anchors parts.journal.disabled) seats
    → AllByRecursion (IsPlaced (document_of parts)) (map (widget_of parts.journal parts.content.marks) seats)
placed-widgets parts sound [] named seated = tt
placed-widgets parts sound (seat ∷ seats) named seated =
    (placed-widget parts sound seat named.0 seated.0, placed-widgets parts sound seats named.1 seated.1)

-- ---- the whole

pub IsWellFormedDocument-kept : (limits : LimitTable) (parts : Parts) → IsSound parts →
    FitsText limits.chars (model.characters parts.content.cells) parts.journal.log.history
    → length parts.tags.tags ≤ limits.tags + 1 → length parts.marks.marks ≤ limits.marks →
    IsWellFormedDocument limits (document_of parts)
IsWellFormedDocument-kept limits parts sound fits few few_marks =
    let content = parts.content in
    let document : Document = document_of parts in
    let long = length-keyed (pairs_of parts) content.cells in
    let counted : length (model.characters content.cells)
    ≡ length content.cells = length-map content.cells (λ (cell : Cell). cell.character) in
    let short = fits.short in
    let stand = sound.kept.marks in
    record {
      text = subst IsDocument (sym (characters-keyed (pairs_of parts) content.cells)) sound.kept.text;
      fits = omega (arith, long, counted, short);
      keys = keys_belong parts sound content.cells;
      widgets = placed-widgets parts sound parts.seats.entries sound.kept.named sound.views.seated;
      widget_names = subst (IsDistinct is_same) (sym (windows-kept parts))
          (distinct_apart (names_of_seats parts.seats.entries) sound.kept.seats.names_apart);
      marks = placed-within content.marks (length document.cells) parts.marks.marks (λ number place there.
          (let within = stand number place there in omega (arith, long, within)));
      mark_names = subst (IsDistinct is_same) (sym (placed-names content.marks parts.marks.marks))
          (distinct_apart (names_of_marks parts.marks.marks) sound.marked.marks.names_apart);
      mark_words = placed-words content.marks parts.marks.marks sound.marked.each;
      mark_count = omega (arith, placed-length content.marks parts.marks.marks, few_marks);
      tag_names = distinct_apart (names_of parts.tags.tags) sound.kept.tags.names_apart;
      sel = sel_among parts.tags sound.kept.tags;
      tag_count = omega (arith, length-map parts.tags.tags (λ (tag : Tag). tag.name), few);
      history = subst (λ text. FitsText limits.chars text parts.journal.log.history)
          (sym (characters-keyed (pairs_of parts) content.cells)) fits;
    }

-- the history of a well-formed one fits its text
pub fits-kept : (limits : LimitTable) (parts : Parts) (document : Document) → document_of parts ≡ document →
    IsWellFormedDocument limits document
    → FitsText limits.chars (model.characters parts.content.cells) parts.journal.log.history
fits-kept limits parts document is formed =
    subst (λ text. FitsText limits.chars text parts.journal.log.history)
    (characters-keyed (pairs_of parts) parts.content.cells)
    (subst (λ (d : Document). FitsText limits.chars (characters d.cells) d.history) (sym is) formed.history)
