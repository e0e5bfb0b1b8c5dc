-- A document after texts have taken the place of cells, or where that is refused.
use Rattle.documents.proofs.Common.{◌≡◌, ◌≢◌, ℕ, ◌+◌, ◌-◌, ◌*◌, ◌<◌, ◌≤◌, min, List, Ok, Err, map, length, refl, sym}
use Rattle.documents.proofs.Common.{ap, ap₂, subst, ◌∙◌, arith, nat_lt, option_and_then, slice_get, All, slice_get-map}
use Rattle.documents.proofs.Common.{Named, numbers_of, Tags, MOST_CHARS, Place, LimitTable, Replace, inserted_texts}
use Rattle.documents.proofs.Common.{clipped, removed_span, replaced_span, State, SlottedText, replaced-kept, Answer}
use Rattle.documents.proofs.Common.{Empty, Fault, Memory, excess, length_replaced, Pair, all_names, total, with_names}
use Rattle.documents.proofs.Common.{recording_of, piece_of, replace_span, replaced, with_clipped, Document, Parts}
use Rattle.documents.proofs.Common.{Widget, document_of, widget_at, with_texts, without_span, Stands, with_insert}
use Rattle.documents.proofs.Common.{Change, false, refused, insertion_offset, is_idle, tags_with, Content, None, Option}
use Rattle.documents.proofs.Common.{Result, Some, option_map, edited, Action, [], ◌∷◌, insertion, deletion, joined_text}
use Rattle.documents.proofs.Common.{characters, names_of, IsKnownPiece}
use Rattle.edit_ops.specs.Removals.{with_mark}
use Rattle.edit_ops.proofs.ReplaceLaws.{found-within}
use Rattle.documents.proofs.ChangeLaws.{Leaves, does-changed}
use Rattle.documents.proofs.InsertionLaws.{IsListed, IsWithin, count-made, excess-none, few_enough, limits-made}
use Rattle.documents.proofs.InsertionLaws.{limits-refused, ready, with_tags}
use Rattle.documents.proofs.MarkLaws.{leaves-insert}
use Rattle.documents.proofs.MeaningLaws.{insert-there}
use Rattle.documents.proofs.NamedLaws.{keyed_piece, total-pieces}
use Rattle.documents.proofs.PartsLaws.{Sits, cells-kept, pairs_of, sits, widget-is}
use Rattle.documents.proofs.StateLaws.{length-span, length-texts, stands-span, stands-texts, state_in, with_state}
use Rattle.documents.proofs.ViewLaws.{IsSeen, active-found, ends-found, length-found, start-found-is}
use Rattle.std.specs.FinMap as finite
use Rattle.edit_ops.specs.Insertions as insertions
use Rattle.edit_ops.specs.Removals as removals

-- ---- the widget's `insert`, which stays among the texts

abbrev done_well : Result Answer Fault
done_well = Ok Empty

well-done : done_well ≢ Err Memory
well-done is = cc

pub stands-clipped : (limits : LimitTable) (parts : Parts) (document : Document) (place slot : ℕ) (widget : Widget)
    (found : Option Place) → Stands parts document → Sits parts document place slot
    → widget.name ≡ (widget_at document place).name →
    ((target : Place) → found ≡ Some target → target.offset ≤ length parts.content.cells)
    → Stands (record parts { content = with_mark (2 * slot) found parts.content }) (with_clipped widget found document)
stands-clipped limits parts document place slot widget None stands sits named within = stands
stands-clipped limits parts document place slot widget (Some target) stands sits named within =
    let put = leaves-insert limits parts document place slot target (with_mark (2 * slot) (Some target) parts.content)
    stands sits (within target refl) refl in
    record {
      sound = put.sound;
      is = put.does.document well-done
          ∙ ap (λ name. with_insert document (record (widget_at document place) { name = name }) target) (sym named);
    }

-- a widget has its name after any change of the rest
pub name-stays : (old new : Parts) (before after : Document) (place slot : ℕ) → Sits old before place slot →
    Stands new after → new.seats.entries ≡ old.seats.entries
    → (widget_at before place).name ≡ (widget_at after place).name
name-stays old new before after place slot sits stands same =
    let there = ap (λ (entries : List Named). slice_get entries place) same ∙ sits.stands in
    ap (λ (w : Widget). w.name) sits.widget
    ∙ sym (ap (λ (w : Widget). w.name) (widget-is new after place sits.seat stands.is there))

pub sits-yet : (old new : Parts) (before after : Document) (place slot : ℕ) → Sits old before place slot →
    Stands new after → new.seats.entries ≡ old.seats.entries → Sits new after place slot
sits-yet old new before after place slot seated stands same =
    sits place stands
    (ap (λ (entries : List Named). slice_get (numbers_of entries) place) same
    ∙ slice_get-map (λ (s : Named). s.number) old.seats.entries place
    ∙ ap (option_map (λ (s : Named). s.number)) seated.stands ∙ ap Some seated.number)

-- ---- texts in the place of cells

stands-replaced : (limits : LimitTable) (parts : Parts) (document : Document) (place slot from to : ℕ)
    (pieces : List SlottedText) → Stands parts document → Sits parts document place slot
    → from ≤ to → to < length parts.content.cells → length parts.content.cells - (to - from) + insertions.total pieces
    ≤ MOST_CHARS → All (IsKnownPiece parts.seats.entries parts.tags.tags) pieces
    → let widget = widget_at document place in
    Stands (with_state parts (replaced_span (recording_of parts.journal.settings) (2 * slot) from to pieces
    (state_in parts)))
    (with_clipped widget (clipped from to (insertions.total pieces) widget.insert)
    (with_texts Replace from (map (keyed_piece (pairs_of parts)) pieces) (without_span Replace from to document)))
stands-replaced limits parts document place slot from to pieces stands seated ordered within short known =
    let recording = recording_of parts.journal.settings in
    let widget : Widget = widget_at document place in
    let out : State = removed_span recording Replace from to (state_in parts) in
    let without : Document = without_span Replace from to document in
    let first = stands-span parts document Replace from to stands ordered within in
    let long = length-span recording Replace from to (state_in parts) ordered (omega (arith, within)) in
    let below : from < length out.content.cells = omega (arith, long, ordered, within) in
    let made : State = inserted_texts recording Replace from pieces out in
    let document_made : Document = with_texts Replace from (map (keyed_piece (pairs_of parts)) pieces) without in
    let all = stands-texts (with_state parts out) without Replace from pieces first below
    (omega (arith, long, ordered, within, short)) known in
    let longer = length-texts recording Replace from pieces out below in
    let count = insertions.total pieces in
    let found = option_and_then (clipped from to count) (finite.get parts.content.marks (2 * slot)) in
    let same : found ≡ clipped from to count widget.insert = ap (option_and_then (clipped from to count))
    (insert-there parts document place slot seated) in
    let put = stands-clipped limits (with_state parts made) document_made place slot widget found all
    (sits-yet parts (with_state parts made) document document_made place slot seated all refl)
    (name-stays parts (with_state parts made) document document_made place slot seated all refl)
    (λ target is. let near = found-within from to count (finite.get parts.content.marks (2 * slot)) target is in
    omega (arith, near, longer, below)) in
    subst (λ o. Stands (with_state parts (replaced_span recording (2 * slot) from to pieces (state_in parts)))
    (with_clipped widget o document_made)) same put

-- ---- the whole command

-- a place of the view, cut to its last character, is where texts go that are put in there
pub cut-at : {parts : Parts} {document : Document} {place slot start end : ℕ} {content : Content} (given : ℕ) →
    IsSeen parts document place slot content start end → start < end
    → min (start + given) (end - 1) ≡ insertion_offset document (widget_at document place) given
cut-at {start = start} {end = end} given seen shows =
    (let h : min (start + given) (end - 1) ≡ start + min given ((end - start) - 1) = omega (arith, shows) in h)
    ∙ ap₂ (λ s n. s + min given (n - 1)) (start-found-is seen) (sym (length-found seen))

abbrev replacement_size : Document → ℕ → ℕ → List Pair → ℕ
replacement_size document from to pairs = length document.cells - (to - from) + total pairs

abbrev pub replaced_at : LimitTable → Document → Widget → ℕ → ℕ → List Pair → Change
replaced_at limits document widget from to pairs =
    replace_span limits document widget (insertion_offset document widget from) (insertion_offset document widget to)
    pairs

pub leaves-replaced : {limits : LimitTable} {old : Parts} {tags : Tags} {state : State} {document : Document}
    {place slot start end : ℕ} {pairs : List Pair} (from to : ℕ) → IsSeen old document place slot old.content start end
    → is_idle document (widget_at document place) ≡ false → from ≤ to → IsListed limits old.tags tags pairs
    (length_replaced (length old.content.cells) (end - 1) (start + from) (start + to))
    → state ≡ removals.replaced (recording_of old.journal.settings) (2 * slot) (end - 1) (start + from) (start + to)
    (map (piece_of tags.tags slot) pairs) (state_in old)
    → Leaves limits (with_state (with_tags tags old) state) document (Ok Empty)
    (replaced_at limits document (widget_at document place) from to pairs)
leaves-replaced {limits} {old} {tags} {state} {document} {place} {slot} {start} {end} {pairs} from to seen active
    ordered listed is =
    let last = end - 1 in
    let first = start + from in
    let second = start + to in
    let stands = seen.stands in
    let seated = seen.sits in
    let widget : Widget = widget_at document place in
    let recording = recording_of old.journal.settings in
    let pieces : List SlottedText = map (piece_of tags.tags slot) pairs in
    let made : State = removals.replaced recording (2 * slot) last first second pieces (state_in old) in
    let len = length old.content.cells in
    let size = length_replaced len last first second in
    let within = ends-found seen in
    let shows = active-found seen active in
    let long = cells-kept old document stands.is in
    let begins = cut-at from seen shows in
    let ends = cut-at to seen shows in
    let below : last < len = omega (arith, within, shows) in
    let inside : min second last < len = omega (arith, below) in
    let straight : first ≤ second = omega (arith, ordered) in
    let straight_cut : min first last ≤ min second last = omega (arith, straight) in
    let counted = total-pieces tags.tags slot pairs in
    let room = excess-none limits (length (with_names (names_of old.tags.tags) (all_names pairs))) (size + total pairs)
    listed.room in
    let short = few_enough limits.chars (size + total pairs) room.chars in
    let bounds = listed.bounds.chars in
    let set = ready limits old document place slot tags pairs size stands seated listed in
    let counts = count-made limits old document tags pairs size stands listed in
    let document_tagged : Document = record document { tags = tags_with document pairs } in
    let all = stands-replaced limits (with_tags tags old) document_tagged place slot (min first last) (min second last)
    pieces set.stands
    (sits-yet old (with_tags tags old) document document_tagged place slot seated set.stands refl) straight_cut inside
    (omega (arith, short, counted, bounds)) set.known in
    let result : Document = replaced document widget (insertion_offset document widget from)
    (insertion_offset document widget to) pairs in
    let edits : List Action = deletion (characters document.cells) (insertion_offset document widget from)
    (insertion_offset document widget to) ∷ insertion (insertion_offset document widget from) (joined_text pairs) ∷ [] in
    let texts = set.texts in
    let all_is : document_of (with_state (with_tags tags old) made) ≡ result =
    all.is ∙ λ i. with_clipped widget (clipped (begins i) (ends i) (counted i) widget.insert)
    (with_texts Replace (begins i) (texts i) (without_span Replace (begins i) (ends i) document_tagged)) in
    let size_made = replacement_size document (insertion_offset document widget from)
    (insertion_offset document widget to) pairs in
    let within_both : IsWithin limits (length (tags_with document pairs)) size_made =
    record {
      tags = ap (nat_lt (limits.tags + 1)) counts.1 ∙ room.tags;
      chars = (λ i. nat_lt limits.chars (long i - (sym ends i - sym begins i) + total pairs)) ∙ room.chars;
    } in
    subst (λ (s : State). Leaves limits (with_state (with_tags tags old) s) document (Ok Empty)
    (replaced_at limits document widget from to pairs)) (sym is)
    (does-changed stands (record {
      sound = all.sound;
      is = limits-made limits document (length (tags_with document pairs)) size_made (edited result edits) within_both
          ∙ ap (λ d. edited d edits) (sym all_is);
      fits = λ fits. (replaced-kept limits.chars (2 * slot) last first second recording pieces (state_in old)
          (record { fits = fits; groups = stands.sound.orderly.groups; undone = stands.sound.orderly.undone }) below
          straight (omega (arith, short, counted))).fits;
      tags = λ _. counts.0;
      marks = λ few. few;
      seats = refl;
    }))

pub replace-left : {old : Parts} {document : Document} {place slot start end : ℕ} {fault : Fault} (limits : LimitTable)
    (from to : ℕ) (pairs : List Pair) → IsSeen old document place slot old.content start end
    → is_idle document (widget_at document place) ≡ false
    → excess limits (length (with_names (names_of old.tags.tags) (all_names pairs)))
    (length_replaced (length old.content.cells) (end - 1) (start + from) (start + to) + total pairs) ≡ Some fault
    → replaced_at limits document (widget_at document place) from to pairs ≡ refused document fault
replace-left {old} {document} {place} {fault = fault} limits from to pairs seen active is =
    let widget : Widget = widget_at document place in
    let long = cells-kept old document seen.stands.is in
    let begins = cut-at from seen (active-found seen active) in
    let ends = cut-at to seen (active-found seen active) in
    let names = ap (λ (d : Document). d.tags) seen.stands.is in
    limits-refused limits document (length (tags_with document pairs))
    (replacement_size document (insertion_offset document widget from) (insertion_offset document widget to) pairs)
    (edited (replaced document widget (insertion_offset document widget from) (insertion_offset document widget to)
    pairs) (deletion (characters document.cells) (insertion_offset document widget from)
    (insertion_offset document widget to)
    ∷ insertion (insertion_offset document widget from) (joined_text pairs) ∷ [])) fault
    ((λ i. excess limits (length (with_names (sym names i) (all_names pairs)))
    (long i - (sym ends i - sym begins i) + total pairs)) ∙ is)
