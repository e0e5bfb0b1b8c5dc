-- The names that most proofs of this crate cite, passed on from one place. Declares nothing.
pub use Rattle.std.proofs.Common.{[], ap₂, true≢false, ℕ, ◌&&◌, ◌*◌, ◌++◌, ◌+◌, ◌-◌, ◌/◌, ◌<◌, ◌==◌, ◌^◌, ◌||◌, ◌∙◌}
pub use Rattle.std.proofs.Common.{◌∷◌, ◌≡◌, ◌≤◌, Bool, List, None, Option, Some, ap, append-nil, append_assoc, arith}
pub use Rattle.std.proofs.Common.{cond, drop, eq-eqb, false, get_or, inl, inr, length, length-append, length-drop}
pub use Rattle.std.proofs.Common.{length-take, map, min, ne_eqb, refl, reverse, rules, set, subst, suc, sym, take}
pub use Rattle.std.proofs.Common.{take-append-drop, take_all, true, zero}
pub use Rattle.edit_ops.specs.Anchors.{AnchorsStand, AreAnchored, anchor_moved, anchors_drawn, anchors_moved}
pub use Rattle.edit_ops.specs.Anchors.{anchors_removed, end_drawn, start_drawn}
pub use Rattle.edit_ops.specs.Deletions.{AreApart, delete_set, deleted, in_spans, onto_runs, removed_spans, run_start}
pub use Rattle.edit_ops.specs.Deletions.{runs_below}
pub use Rattle.edit_ops.specs.Deltas.{IsDelta, IsLostRun, KnowsDelta, bared, hunks_made, lost_run}
pub use Rattle.edit_ops.specs.Inserted.{AreInsertions, GoesOn, IsShort, KnowsInserted, PutInPlace, removal_steps}
pub use Rattle.edit_ops.specs.Inserted.{replacement, runs_in, runs_of, text_in, text_of}
pub use Rattle.edit_ops.specs.Insertions.{IsBetween, inserted_text, inserted_texts, needs_shared, pieces_text, slots_or}
pub use Rattle.edit_ops.specs.Insertions.{total, total_bytes}
pub use Rattle.edit_ops.specs.Keeping.{IsAnchored, IsKept}
pub use Rattle.edit_ops.specs.Orders.{AreAlike, AreWatched, IsLowered, LetsPass, Passes, at_span, steps_in}
pub use Rattle.edit_ops.specs.PartHunks.{hunks_before, part_hunks, part_runs, pending_after, run_of}
pub use Rattle.edit_ops.specs.Plans.{anchors_left, group_moved, log_after, planned}
pub use Rattle.edit_ops.specs.Removals.{clipped, removed_span, replaced, replaced_span, with_mark}
pub use Rattle.edit_ops.specs.Replays.{ActsOn, AreScalars, Follows, Leads, action_end, drawn_up, replayed}
pub use Rattle.edit_ops.specs.Replays.{replayed_group, replays}
pub use Rattle.edit_ops.specs.Reversals.{action_redone, action_undone, group_redone, group_undone, log_redone}
pub use Rattle.edit_ops.specs.Reversals.{log_undone, put_back, redo_end, redone, redone_group, stood, taken_back}
pub use Rattle.edit_ops.specs.Reversals.{undo_end, undone, undone_group}
pub use Rattle.edit_ops.specs.SlotRuns.{AreBareRuns, bare_cells, slotted, with_slots}
pub use Rattle.edit_ops.specs.States.{Log, Outline, State, all_noted, log_noted, log_of, outlineed, state_of}
pub use Rattle.edit_ops.specs.Tagging.{SpanFits, cell_without, cleared, tagged}
pub use Rattle.edit_ops.specs.Told.{AreExact, AreFalling, AreHunks, AreHunksOf, AreSeparate, HasRoom, IsChange, IsHunk}
pub use Rattle.edit_ops.specs.Told.{Tells, after_actions, after_change, after_change_by, after_changes_by, deletion}
pub use Rattle.edit_ops.specs.Told.{end_of, hunk_change, hunk_changes, insertion, line_front, patched, patched_by}
pub use Rattle.edit_ops.specs.Told.{removed_all, replacing, spot_at, taking, taking_out, units_of}
pub use Rattle.edit_ops.specs.declared.anchors.Anchors.{Anchors}
pub use Rattle.edit_ops.specs.declared.changes.TextChange.{TextChange}
pub use Rattle.edit_ops.specs.declared.deltas.Delta.{Delta}
pub use Rattle.edit_ops.specs.declared.hunks.Hunk.{Hunk}
pub use Rattle.edit_ops.specs.declared.orders.Reach.{Reach}
pub use Rattle.edit_ops.specs.declared.plans.Recording.{Recording}
pub use Rattle.edit_ops.specs.declared.slot_runs.SlotRun.{SlotRun}
pub use Rattle.edit_ops.specs.declared.slotted_texts.SlottedText.{SlottedText}
pub use Rattle.edit_ops.specs.declared.spans.Span.{Span}
pub use Rattle.edit_ops.specs.declared.spot_walks.SpotWalk.{SpotWalk}
pub use Rattle.edit_ops.specs.declared.spots.Spot.{Spot}
pub use Rattle.std.proofs.Math.ListN.{drop_of_length-le, get_or-append, replicate}
pub use Rattle.std.proofs.Math.Seq.{get_or-append_seam, take-add}
pub use Rattle.std.proofs.lemmas.Bool.{false≢true, and_parts, both_ways, cases_eq, cases_lt, eqb-false, eqb-true}
pub use Rattle.std.proofs.lemmas.Bool.{le-leb, le-ltb, leb-false, leb-true, lt-leb, lt-ltb, ltb-false, ltb-true}
pub use Rattle.std.proofs.lemmas.Bool.{not-true, or_cases}
pub use Rattle.std.proofs.lemmas.Bool.Decides.{nat_tests}
pub use Rattle.std.proofs.lemmas.Grind.{common_steps, flat_map-append}
pub use Rattle.std.proofs.lemmas.List.{drop-append-le, drop-map, drop_all, drop_at, drop_more, get_or-map}
pub use Rattle.std.proofs.lemmas.List.{get_or-reverse, get_or_default, length-map, length-replicate, length-reverse}
pub use Rattle.std.proofs.lemmas.List.{length-take-le, length_push, map-append, map-id, nil_from_length, reverse-append}
pub use Rattle.std.proofs.lemmas.List.{reverse-reverse, same_lists, take-append-le, take-take, take_at, take_more}
pub use Rattle.std.proofs.lemmas.List.{with_items_is}
pub use Rattle.std.proofs.lemmas.List.Elements.{All-append, All-cons, All-get_or, All-head, All-map, All-more, All-nil}
pub use Rattle.std.proofs.lemmas.List.Elements.{All-push, All-tail}
pub use Rattle.std.proofs.lemmas.List.Folds.{drop_split, list_any-append}
pub use Rattle.std.proofs.lemmas.List.Sums.{sum_by-cons, sum_by_more_le, sum_by_push}
pub use Rattle.std.proofs.lemmas.Option.{IfSome_then, get_or_from_slice_get, none-some, option_and_then_some, same_Some}
pub use Rattle.std.proofs.lemmas.Slice.{between_is}
pub use Rattle.std.proofs.lemmas.Str.{IsUtf8-string_bytes, chars-append, chars-nil, encodes-append, encodes-chars}
pub use Rattle.std.proofs.lemmas.Str.{len_utf8_bounds, length-encode, length-le-encodes}
pub use Rattle.std.specs.Char.{IsScalar, len_utf8}
pub use Rattle.std.specs.Cmp.{nat_cmp_total}
pub use Rattle.std.specs.List.{All, remove}
pub use Rattle.std.specs.Option.{is_none, option_to_list}
pub use Rattle.std.specs.Prelude.{if◌then◌else◌, ⊤, ◌≢◌, Box, IfSome, IsSome, IsUtf8, Vec, box_value, bytes_eq, chars}
pub use Rattle.std.specs.Prelude.{encode_utf8, encode_utf8_all, flat_map, nat_le, nat_lt, not, option_and_then}
pub use Rattle.std.specs.Prelude.{option_map, slice_get, slice_range, string_bytes, sum_by, unwrap_or}
pub use Rattle.text_cursor.proofs.AroundLaws.{characters-of, length-characters, length-slot_sets, line-append-same}
pub use Rattle.text_cursor.proofs.AroundLaws.{line-before, line-front, line_start-past, next-behind, next-within}
pub use Rattle.text_cursor.proofs.AroundLaws.{next_line-drawn, next_line-is, next_line-removed, no-next, number-of}
pub use Rattle.text_cursor.proofs.CursorLaws.{front-length, part-length, slice-join, whole-is}
pub use Rattle.text_cursor.specs.Around.{next_line, shared_slots, slots_around}
pub use Rattle.text_cursor.specs.Cursors.{IsCursor, Moves, PartFits, Puts, Rise, Takes, cells_between, cursor_cells}
pub use Rattle.text_cursor.specs.Cursors.{front_cells, old_place, part_cells, source_len}
pub use Rattle.text_cursor.specs.Parts.{parts_len}
pub use Rattle.text_cursor.specs.declared.cursors.Cursor.{Cursor}
pub use Rattle.text_cursor.specs.declared.parts.Part.{Part}
pub use Rattle.text_model.proofs.LineLaws.{line_start-le, line_start-rises, lines-append, lines-cons, lines-le-length}
pub use Rattle.text_model.proofs.SpliceLaws.{changed-same, drop-removed, get_or-changed_before, get_or-changed_behind}
pub use Rattle.text_model.proofs.SpliceLaws.{get_or-changed_within, get_or-inserted_before, get_or-inserted_behind}
pub use Rattle.text_model.proofs.SpliceLaws.{get_or-inserted_within, get_or-removed_before, get_or-removed_behind}
pub use Rattle.text_model.proofs.SpliceLaws.{inserted-append_left, inserted-append_right, length-cells_inserted}
pub use Rattle.text_model.proofs.SpliceLaws.{length-cells_of, length-changed, length-inserted, length-removed}
pub use Rattle.text_model.proofs.SpliceLaws.{map-changed, map-inserted, map-map, map-removed, map-slice_range}
pub use Rattle.text_model.proofs.SpliceLaws.{removed-append_left, removed-append_right, take-removed}
pub use Rattle.text_model.proofs.StepLaws.{Fits-append, after-append, length-after_step, moved_le}
pub use Rattle.text_model.proofs.TextLaws.{chars-push, chars-scalars}
pub use Rattle.text_model.specs.Content.{Content, Marks, Slots, characters, map_marks, slot_sets, slots_left_of}
pub use Rattle.text_model.specs.Documents.{ends_in_newline}
pub use Rattle.text_model.specs.Lines.{IsLineOf, IsLineStart, is_newline, line_of, line_start, lines}
pub use Rattle.text_model.specs.Splices.{changed, drawn, goes_behind, inserted, is_right, moved, removed}
pub use Rattle.text_model.specs.Steps.{Fits, StepFits, after, after_insertion, after_removal, after_step, cells_of}
pub use Rattle.text_model.specs.Steps.{set_slot, with_slot, without_slots}
pub use Rattle.text_model.specs.declared.cells.Cell.{Cell}
pub use Rattle.text_model.specs.declared.edits.Step.{Step}
pub use Rattle.text_model.specs.declared.edits.Step.TheVariants.{ClearSlot, ClearTags, Insert, PutMark, Remove, SetTag}
pub use Rattle.text_model.specs.declared.edits.Step.TheVariants.{TakeMark}
pub use Rattle.text_model.specs.declared.places.MarkNo.{MarkNo}
pub use Rattle.text_model.specs.declared.places.Place.{Place}
pub use Rattle.undo_stack.proofs.FitsLaws.{note-fits, redo-fits, redo-goes, repeat-back, undo-fits, undo-goes}
pub use Rattle.undo_stack.specs.Fits.{FitsText, put_in, repeated, repeated_group, reverted, reverted_group, take_out}
pub use Rattle.undo_stack.specs.History.{History, after_redo, after_undo, next_redo, next_undo, no_history, noted}
pub use Rattle.undo_stack.specs.Modified.{counted_new, unmodified}
pub use Rattle.undo_stack.specs.declared.actions.Action.{Action}
pub use Rattle.undo_stack.specs.declared.actions.EditKind.{EditKind}
pub use Rattle.undo_stack.specs.declared.actions.EditKind.TheVariants.{Delete, Replace}
