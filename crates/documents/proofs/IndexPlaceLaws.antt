-- An index stands for a place of what a widget shows.
use Rattle.documents.proofs.Common.{◌≡◌, ℕ, zero, suc, ◌-◌, ◌≤◌, Bool, List, [], Some, Ok, Err, length, map, ap, arith}
use Rattle.documents.proofs.Common.{slice_get, slice_index_or, length-map, option_and_then_some, AreWithin, own_place}
use Rattle.documents.proofs.Common.{shared_place, is_word, at_position, index_fault, Document, Widget, SharedMark}
use Rattle.documents.proofs.Common.{KeyedCell, characters, key_of, mark_place, meanings, place_of, shown, view_end}
use Rattle.documents.proofs.Common.{view_start, place_at}
use Rattle.index_grammar.specs.Grammar.{index_of}
use Rattle.text_index.proofs.BoundLaws.{own-within, shared-within, value_of-le}
use Rattle.documents.proofs.ViewLaws.{part-length}
use Rattle.std.specs.FinSet as set

mark-within : (document : Document) (widget : Widget) (number place : ℕ) →
    mark_place document widget number ≡ Some place
    → place ≤ view_end document widget - view_start widget
mark-within document widget zero place is =
    let start = view_start widget in
    let end = view_end document widget in
    let same : own_place start end widget.insert ≡ place = cc in
    omega (arith, same, own-within start end widget.insert)
mark-within document widget (suc zero) place is =
    let start = view_start widget in
    let end = view_end document widget in
    let same : own_place start end widget.current ≡ place = cc in
    omega (arith, same, own-within start end widget.current)
mark-within document widget (suc (suc k)) place is =
    let start = view_start widget in
    let end = view_end document widget in
    option_and_then_some (λ (mark : SharedMark). shared_place start end mark.place) (slice_get document.marks k) place
    is
    (λ mark there one. shared-within start end mark.place place one)

meant-within : (document : Document) (widget : Widget) → view_end document widget ≤ length document.cells
    → AreWithin (meanings document widget) (shown document widget)
meant-within document widget within =
    let start = view_start widget in
    let end = view_end document widget in
    let text = characters document.cells in
    let long : length text ≡ length document.cells = length-map document.cells (λ (cell : KeyedCell). cell.character) in
    let seen : length (shown document widget)
    ≡ end - start = part-length text start end (omega (arith, within, long)) in
    record {
      places = λ number place is. omega (arith, seen, mark-within document widget number place is);
      flags = λ slot.
          let key = key_of widget (slice_index_or document.tags slot []) in
          let has : KeyedCell → Bool = λ cell. set.contains cell.keys key in
          let count : length (map has document.cells) ≡ length document.cells = length-map document.cells has in
          omega (arith, seen, part-length (map has document.cells) start end (omega (arith, within, count)));
    }

pub place-within : (document : Document) (widget : Widget) (at : ℕ) (word : List ℕ) (place : ℕ) →
    view_end document widget ≤ length document.cells
    → place_at document widget at word ≡ Ok place → place ≤ length (shown document widget)
place-within document widget at word place within is =
    let meant = meanings document widget in
    let text = shown document widget in
    elim (place_of document widget word) as (λ r. ((p : ℕ) → r ≡ Ok p → p ≤ length text) → at_position at r ≡ Ok place →
    place ≤ length text) [
      | Err fault ↦ λ _ none. absurd (let h : Err (index_fault at fault) ≡ Ok place = none in cc)
      | Ok found ↦ λ bound there. let same : found ≡ place = cc in bound place (ap Ok same)
    ] (value_of-le is_word meant text (index_of meant.marks meant.tags word) (meant-within document widget within)) is
