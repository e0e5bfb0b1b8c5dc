-- Actions are made in a text on the way by a cursor.
use Rattle.edit_ops.proofs.Common.{◌≡◌, ℕ, ◌+◌, ◌-◌, ◌≤◌, List, [], ◌∷◌, length, sym, ap, ap₂, ◌∙◌, arith, subst, All}
use Rattle.edit_ops.proofs.Common.{Cell, Slots, characters, inserted, removed, cells_of, map-inserted, map-removed}
use Rattle.edit_ops.proofs.Common.{Cursor, Part, cursor_cells, front_cells, Moves, PartFits, Takes, Puts, parts_len}
use Rattle.edit_ops.proofs.Common.{characters-of, front-length, whole-is, Action, ActsOn, after_actions, insertion}
use Rattle.edit_ops.proofs.Common.{false, Hunk, AreHunks, AreHunksOf, AreSeparate, patched, length-map, bare_cells}
use Rattle.edit_ops.proofs.Common.{Leads, IsCursor, replicate, length-replicate}
use Rattle.std.specs.FinSet as set

-- ---- an action

pub put-acts : {before moved now : Cursor} {at : ℕ} {text : List ℕ} {slots : Slots} → Moves before moved
    → moved.at ≡ at → Puts text slots moved now → ActsOn (insertion at text ∷ []) before now
put-acts {before} {moved} {now} {at} {text} {slots} moves at_is puts = λ old long.
    ap characters (puts.cells old (long ∙ sym moves.old_len))
    ∙ map-inserted (λ (cell : Cell). cell.character) moved.at (cells_of text slots) (cursor_cells old moved)
    ∙ ap₂ (λ new cells. inserted moved.at new (characters cells)) (characters-of text slots) (moves.cells old)
    ∙ ap (λ n. inserted n text (characters (cursor_cells old before))) at_is

pub take-acts : {before moved now : Cursor} {from to : ℕ} → Moves before moved → moved.at ≡ from → Takes moved now
    → now.len ≡ moved.len - (to - from) → from ≤ to → to ≤ before.len → (text : List ℕ) → from + length text ≡ to
    → ActsOn (record { inserts = false; at = from; text = text } ∷ []) before now
take-acts {before} {moved} {now} {from} {to} moves at_is takes len_is ordered within text counted = λ old long.
    let end : moved.at + (moved.len - now.len) ≡ from + length text =
    omega (arith, at_is, len_is, counted, ordered, within, moves.len) in
    ap characters (takes.cells old (long ∙ sym moves.old_len)
    ∙ ap (λ n. removed moved.at n (cursor_cells old moved)) end
    ∙ ap₂ (λ n cells. removed n (from + length text) cells) at_is (moves.cells old))
    ∙ map-removed (λ (cell : Cell). cell.character) from (from + length text) (cursor_cells old before)

-- ---- the parts of the text that is made

-- they are as long as the text
pub parts-long : (cursor : Cursor) (fresh : List ℕ) (parts : List Part) → IsCursor cursor
    → All (PartFits cursor.old_len (length fresh)) parts
    → ((old : List Cell) → length old ≡ cursor.old_len → front_cells old fresh parts ≡ cursor_cells old cursor)
    → parts_len parts ≡ cursor.len
parts-long cursor fresh parts is fit cells =
    let cell : Cell = record { character = 0; tags = set.empty } in
    let old = replicate cursor.old_len cell in
    let long = length-replicate cursor.old_len cell in
    sym (front-length old fresh parts (subst (λ n. All (PartFits n (length fresh)) parts) (sym long) fit))
    ∙ ap length (cells old long) ∙ whole-is cursor old is long

-- their hunks are exactly what actions do that lead to the cursor
pub parts-exact : (cursor : Cursor) (fresh : List ℕ) (parts : List Part) {hunks : List Hunk} {actions : List Action}
    → Leads actions cursor
    → ((old : List Cell) → length old ≡ cursor.old_len → front_cells old fresh parts ≡ cursor_cells old cursor)
    → AreHunks 0 cursor.old_len hunks → AreSeparate hunks
    → ((old : List Cell) → length old ≡ cursor.old_len
    → patched 0 hunks (characters old) ≡ characters (front_cells old fresh parts))
    → AreHunksOf actions cursor.old_len hunks
parts-exact cursor fresh parts {hunks} {actions} leads cells stand apart made = record {
  stand = stand;
  apart = apart;
  same = λ text long.
      let old = bare_cells text in
      let spelled : characters old ≡ text = characters-of text set.empty in
      let counted : length old ≡ cursor.old_len = length-map text _ ∙ long in
      ap (patched 0 hunks) (sym spelled) ∙ made old counted ∙ ap characters (cells old counted) ∙ leads old counted
      ∙ ap (after_actions actions) spelled;
}
