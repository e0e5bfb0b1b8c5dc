-- The names that most proofs of this crate cite, passed on from one place. Declares nothing.
pub use Rattle.std.proofs.Common.{[], ap₂, ℕ, ◌++◌, ◌+◌, ◌-◌, ◌/◌, ◌<◌, ◌^◌, ◌∙◌, ◌∷◌, ◌≡◌, ◌≤◌, Bool, List, None}
pub use Rattle.std.proofs.Common.{Option, Some, ap, append_assoc, arith, cond, drop, eq-eqb, false, get_or, length}
pub use Rattle.std.proofs.Common.{length-append, length-drop, length-take, map, ne_eqb, refl, subst, suc, sym, take}
pub use Rattle.std.proofs.Common.{true, zero}
pub use Rattle.std.proofs.Math.Seq.{take-add}
pub use Rattle.std.proofs.lemmas.List.{append-nil, drop-append-le, drop-drop, drop_at, drop_more, get_or-append-add}
pub use Rattle.std.proofs.lemmas.List.{get_or-drop, get_or-map, get_or-take, get_or_append_left, length-map}
pub use Rattle.std.proofs.lemmas.List.{length-reverse, length-take-le, map-append, map-id, nil_from_length}
pub use Rattle.std.proofs.lemmas.List.{reverse-append, reverse-reverse, take-append-drop, take-append-le, take_all}
pub use Rattle.std.proofs.lemmas.List.{take_at, take_more}
pub use Rattle.std.proofs.lemmas.List.Elements.{All-append, All-cons, All-drop, All-head, All-nil, All-pop, All-push}
pub use Rattle.std.proofs.lemmas.List.Elements.{All-same, All-tail, All-take, All-weaker}
pub use Rattle.std.proofs.lemmas.List.Sums.{sum_by-append, sum_by-cons, sum_by-take-le}
pub use Rattle.std.specs.List.{All}
pub use Rattle.std.specs.Prelude.{if◌then◌else◌, IfSome, min, option_to_list, reverse, slice_range, sum_by}
pub use Rattle.text_cursor.specs.Around.{next_line, shared_slots}
pub use Rattle.text_cursor.specs.Cursors.{IsCursor, IsLastLine, IsSecond, Moves, PartFits, Puts, Rise, Takes}
pub use Rattle.text_cursor.specs.Cursors.{behind_cells, behind_text, cells_between, cursor_cells, cursor_parts}
pub use Rattle.text_cursor.specs.Cursors.{front_cells, front_text, last_line, old_place, part_cells, slots_in}
pub use Rattle.text_cursor.specs.Cursors.{source_len}
pub use Rattle.text_cursor.specs.Parts.{EndsWith, parts_len, turned_if}
pub use Rattle.text_cursor.specs.Sides.{StaysSide, block_parts, side_parts}
pub use Rattle.text_cursor.specs.declared.blocks.Block.{Block}
pub use Rattle.text_cursor.specs.declared.cursors.Cursor.{Cursor}
pub use Rattle.text_cursor.specs.declared.parts.Part.{Part}
pub use Rattle.text_cursor.specs.declared.sides.Side.{Side}
pub use Rattle.text_model.proofs.LineLaws.{line_of-removed_before, line_start-le, lines-append, lines-cons}
pub use Rattle.text_model.proofs.SpliceLaws.{drop-removed, map-map, map-slice_range, take-removed}
pub use Rattle.text_model.specs.Content.{Slots, characters, slot_sets}
pub use Rattle.text_model.specs.Lines.{is_newline, line_of, line_start, lines}
pub use Rattle.text_model.specs.Splices.{inserted, removed}
pub use Rattle.text_model.specs.Steps.{cells_of}
pub use Rattle.text_model.specs.declared.cells.Cell.{Cell}
