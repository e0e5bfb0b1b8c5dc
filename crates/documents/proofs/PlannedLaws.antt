-- What is reported of a plan of texts that was carried out.
use Rattle.documents.proofs.Common.{◌≡◌, ℕ, ◌+◌, true, List, map, refl, sym, ap, false≢true, is_ok, Tags, Document}
use Rattle.documents.proofs.Common.{Change, LimitTable, within_limits, Pair, piece_of, joined_text, Does, Ok, Empty}
use Rattle.documents.proofs.Common.{Err, Memory, ◌≢◌, flat_map-map, Widget, insert_at, replace_span, replaced}
use Rattle.documents.proofs.Common.{with_texts, keyed_text, tags_with, total, edited, ◌-◌, Stands, Parts, AreTags}
use Rattle.documents.proofs.Common.{IsFront, key_pairs, keyed, insertion, deletion, Cell, characters, [], ◌∷◌, ◌∙◌}
use Rattle.documents.proofs.Common.{length, pieces_text, SlottedText, keyed-more}
use Rattle.documents.proofs.CarriedLaws.{within-either}
use Rattle.edit_ops.specs.Inserted.{replacement}
use Rattle.text_model.specs.Content as model
use Rattle.undo_stack.specs.declared.actions.EditKind.TheVariants as kind

-- the texts of pieces are those of their pairs
pub texts-joined : (tags : Tags) (slot : ℕ) (pairs : List Pair)
    → pieces_text (map (piece_of tags.tags slot) pairs) ≡ joined_text pairs
texts-joined tags slot pairs =
    flat_map-map (λ (piece : SlottedText). piece.text) (piece_of tags.tags slot) pairs

-- ---- the report

-- a change that is answered has its own edits
pub edits-within : (limits : LimitTable) (document : Document) (tags chars : ℕ) (change : Change) →
    is_ok (within_limits limits document tags chars change).reply ≡ true
    → change.edits ≡ (within_limits limits document tags chars change).edits
edits-within limits document tags chars change =
    within-either (λ (is : Change). is_ok is.reply ≡ true → change.edits ≡ is.edits) limits document tags chars change
    (λ fault ok. absurd (false≢true ok)) (λ _ _. refl)

pub answered-ok : {limits : LimitTable} {old new : Document} {change : Change} → Does limits old new (Ok Empty) change
    → is_ok change.reply ≡ true
answered-ok does =
    let known : Ok Empty ≢ Err Memory = λ same. (let h : Ok Empty ≡ Err Memory = same in absurd (cc)) in
    ap is_ok (sym (does.reply known))

-- what an insertion does by its plan is what it does by its definition, where it isn't refused
pub insertion-edits : (limits : LimitTable) (document : Document) (widget : Widget) (at : ℕ) (pairs : List Pair)
    (tags : Tags) (slot : ℕ) {new : Document}
    → Does limits document new (Ok Empty) (insert_at limits document widget at pairs)
    → insertion at (pieces_text (map (piece_of tags.tags slot) pairs)) ∷ []
    ≡ (insert_at limits document widget at pairs).edits
insertion-edits limits document widget at pairs tags slot does =
    let made : Document =
    with_texts kind.Insert at (map (keyed_text widget) pairs) (record document { tags = tags_with document pairs }) in
    ap (λ text. insertion at text ∷ []) (texts-joined tags slot pairs)
    ∙ edits-within limits document (length (tags_with document pairs)) (length document.cells + total pairs)
    (edited made (insertion at (joined_text pairs) ∷ [])) (answered-ok does)

-- the same of a replacement of the characters between two offsets, as they were found
pub replacement-edits : (limits : LimitTable) (document : Document) (widget : Widget) (from to : ℕ) (pairs : List Pair)
    (tags : Tags) (slot : ℕ) (cells : List Cell) {new : Document} {start end : ℕ}
    → characters document.cells ≡ model.characters cells → start ≡ from → end ≡ to
    → Does limits document new (Ok Empty) (replace_span limits document widget from to pairs)
    → replacement cells start end (pieces_text (map (piece_of tags.tags slot) pairs))
    ≡ (replace_span limits document widget from to pairs).edits
replacement-edits limits document widget from to pairs tags slot cells text begins ends does =
    (λ i. deletion (sym text i) (begins i) (ends i)
    ∷ insertion (begins i) (texts-joined tags slot pairs i) ∷ [])
    ∙ edits-within limits document (length (tags_with document pairs))
    (length document.cells - (to - from) + total pairs)
    (edited (replaced document widget from to pairs)
    (deletion (characters document.cells) from to ∷ insertion from (joined_text pairs) ∷ [])) (answered-ok does)

-- by the tags that were made, the old cells have the keys that they had
pub keyed-before : {parts : Parts} {document : Document} {tags : Tags} → Stands parts document → AreTags tags
    → IsFront parts.tags tags → keyed (key_pairs parts.seats.entries tags.tags) parts.content.cells ≡ document.cells
keyed-before {parts} {document} {tags} stands sound front =
    let kept = stands.sound.kept in
    keyed-more parts.seats.entries parts.tags tags parts.content.cells kept.seats kept.tags sound front kept.known
    ∙ ap (λ (d : Document). d.cells) stands.is
