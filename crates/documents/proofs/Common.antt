-- The names that most proofs of this crate cite, passed on from one place. Declares nothing.
pub use Rattle.std.proofs.Common.{[], ap₂, if◌then◌else◌, lit≤, true≢false, ℕ, ◌&&◌, ◌*◌, ◌++◌, ◌+◌, ◌-◌, ◌<◌, ◌==◌}
pub use Rattle.std.proofs.Common.{◌^◌, ◌||◌, ◌∙◌, ◌∷◌, ◌≡◌, ◌≢◌, ◌≤◌, ◌⊎◌, Bool, Contains, Err, IfOk, IfSome, List}
pub use Rattle.std.proofs.Common.{None, Ok, OnErr, OnOk, Option, Result, Some, String, ap, append-nil, append_assoc}
pub use Rattle.std.proofs.Common.{arith, bytes_eq, chars, cond, drop, encode_utf8_all, eq-eqb, eqb-true, false, filter}
pub use Rattle.std.proofs.Common.{find, get_or, get_or-append-add, inl, inr, is_some, length, length-append}
pub use Rattle.std.proofs.Common.{length-drop, length-take, map, max, min, nat_le, nat_lt, not, option_and_then}
pub use Rattle.std.proofs.Common.{option_map, refl, remove, rules, set, slice_get, slice_index_or, slice_range}
pub use Rattle.std.proofs.Common.{string_bytes, subst, suc, sym, take, true, zero}
pub use Rattle.command_effects.proofs.MadeLaws.{absent_slot, among_slot, found_tag, front_same}
pub use Rattle.command_effects.proofs.PairLaws.{spans_of-fit}
pub use Rattle.command_effects.proofs.WrittenLaws.{filter-append, filter-in, filter-out, take-found}
pub use Rattle.command_effects.specs.Edits.{excess, length_replaced, new_mark, with_own_marks, without_widget}
pub use Rattle.command_effects.specs.Faults.{at_position, edit_fault, index_fault, with_value}
pub use Rattle.command_effects.specs.Lists.{Pair, all_names, listed_names, total, with_name, with_names}
pub use Rattle.command_effects.specs.Marking.{IsMadeMark, is_left, marks_left, numbers_named, taken}
pub use Rattle.command_effects.specs.Ranges.{span, spans_of}
pub use Rattle.command_effects.specs.Settings.{first_document_settings, history_under, is_behind, recording_of}
pub use Rattle.command_effects.specs.Tagging.{IsFront, own_slot, piece_of, slots_deleted, slots_named, stays, tags_left}
pub use Rattle.command_effects.specs.Tagging.{with_found}
pub use Rattle.command_effects.specs.Words.{is_among, is_own, is_same, literal}
pub use Rattle.command_effects.specs.declared.answers.Answer.{Answer}
pub use Rattle.command_effects.specs.declared.answers.Answer.TheVariants.{Empty}
pub use Rattle.command_effects.specs.declared.answers.Fault.{Fault}
pub use Rattle.command_effects.specs.declared.answers.Fault.TheVariants.{InvalidCommandName, Memory, NoSuchTag}
pub use Rattle.command_effects.specs.declared.answers.Fault.TheVariants.{NothingToUndo, TextTooLong, TooManyMarks}
pub use Rattle.command_effects.specs.declared.answers.Fault.TheVariants.{TooManyTags}
pub use Rattle.command_effects.specs.declared.settings.DocumentSettings.{DocumentSettings}
pub use Rattle.command_effects.specs.declared.settings.Settings.{Settings}
pub use Rattle.documents.specs.Deletions.{delete_places, delete_spans, deleted_runs, deletions, last_bare, replace_span}
pub use Rattle.documents.specs.Deletions.{replaced, with_clipped}
pub use Rattle.documents.specs.Documents.{Document, Journal, Parts, SharedMark, Widget, anchors_at, document_of}
pub use Rattle.documents.specs.Documents.{mark_of, no_widget, placed, whole, widget_at, widget_of}
pub use Rattle.documents.specs.Edits.{KeyedText, widget_drawn, widget_moved, with_action, with_bare, with_cells}
pub use Rattle.documents.specs.Edits.{with_text, with_texts, without_cells, without_span, without_spans}
pub use Rattle.documents.specs.History.{action_again, after_group, edit_group, edit_redo, edit_reset, edit_separator}
pub use Rattle.documents.specs.History.{edit_undo, group_again, group_found, modified_set, next_group, recounted}
pub use Rattle.documents.specs.History.{text_back, with_end, with_group}
pub use Rattle.documents.specs.Indices.{place_at}
pub use Rattle.documents.specs.Inside.{parts_of}
pub use Rattle.documents.specs.Kept.{AreMarked, HasOwnMarks, IsMarked, IsOrderly, IsSeated, IsSound, Stands}
pub use Rattle.documents.specs.Kept.{is_window_name}
pub use Rattle.documents.specs.Listing.{begun, is_filled, range_words}
pub use Rattle.documents.specs.Marks.{mark_names, mark_unset, place_named, set_found, shared_from, shown_at}
pub use Rattle.documents.specs.Marks.{usable_marks, with_current, with_insert, with_mark, with_shared, with_widget}
pub use Rattle.documents.specs.MarksListed.{AreListed, IsSettled, all_carried_within, carried_within, mark_taken}
pub use Rattle.documents.specs.MarksListed.{shared_key}
pub use Rattle.documents.specs.MarksTold.{AreCarried, AreOthers, AreSingle, AreWatched, HasMarksBut, IsMarkChange}
pub use Rattle.documents.specs.MarksTold.{TakesMarksBut, TellsMarks, carried, carried_all, gone, mark_at, mark_carried}
pub use Rattle.documents.specs.MarksTold.{mark_key, mark_keys, marks_dropped, own_keys, place_of_kind, watched}
pub use Rattle.documents.specs.Names.{key_of, mark_number, mark_place, meanings, place_of, tag_flags, tag_number}
pub use Rattle.documents.specs.Options.{AreLines, IsLine, anchor_at, settings_of, widget_set, with_settings}
pub use Rattle.documents.specs.Promise.{Change, Does, Gives, answered, change_with, edited, refused, unless_idle}
pub use Rattle.documents.specs.Ranges.{spans_shown}
pub use Rattle.documents.specs.Seats.{IsLonger, IsSeatPut}
pub use Rattle.documents.specs.Tags.{add_spans, known_or, moved_answer, remove_spans, reordered, tag_delete, tags_on}
pub use Rattle.documents.specs.Tags.{unknown_at}
pub use Rattle.documents.specs.Texts.{insert_at, insertion_at, insertion_offset, joined_text, keyed_text, tags_with}
pub use Rattle.documents.specs.Texts.{within_limits}
pub use Rattle.documents.specs.Told.{Foretells, IsTold, reply_of}
pub use Rattle.documents.specs.Views.{is_idle, part_between, shown, shown_flags, view_end, view_start}
pub use Rattle.documents.specs.WellFormed.{HasItsKeys, IsPlaced, IsWellFormedDocument, belongs, window_names}
pub use Rattle.documents.specs.Widgets.{IsOpen, ShowsOpenly, is_kept, new_widget, widget_named, with_peer}
pub use Rattle.documents.specs.Widgets.{without_selections, without_widgets}
pub use Rattle.documents.specs.declared.mark_lists.MarkChange.{MarkChange}
pub use Rattle.documents.specs.declared.mark_lists.MarkKey.{MarkKey}
pub use Rattle.documents.specs.declared.mark_lists.MarkKind.{MarkKind}
pub use Rattle.documents.specs.declared.mark_lists.MarkKind.TheVariants.{Current, Shared}
pub use Rattle.edit_ops.proofs.AnchoredLaws.{all-moved, all-removed, anchored-stand}
pub use Rattle.edit_ops.proofs.KeepLaws.{deleted-kept, deleted-runs, replaced-kept, texts-kept}
pub use Rattle.edit_ops.proofs.ReversalLaws.{back-reverted, back-undone, group-redone-text, puts-in, redone-text}
pub use Rattle.edit_ops.proofs.ReversalLaws.{stood-cells, takes-out}
pub use Rattle.edit_ops.proofs.StartLaws.{Begins, inserted-behind, is-start, removed-behind, text-end-begins}
pub use Rattle.edit_ops.specs.Anchors.{AnchorsStand, AreAnchored, anchors_moved, anchors_removed}
pub use Rattle.edit_ops.specs.Deletions.{AreApart, delete_set, deleted, deletions_in, in_spans, removed_spans}
pub use Rattle.edit_ops.specs.Deletions.{runs_below}
pub use Rattle.edit_ops.specs.Deltas.{KnowsDelta}
pub use Rattle.edit_ops.specs.Insertions.{inserted_text, inserted_texts, pieces_text, slots_or}
pub use Rattle.edit_ops.specs.Plans.{planned}
pub use Rattle.edit_ops.specs.Removals.{clipped, removed_span, replaced_span}
pub use Rattle.edit_ops.specs.Replays.{AreScalars, replayed_group, replays}
pub use Rattle.edit_ops.specs.Reversals.{action_redone, group_redone, put_back, redo_end, taken_back}
pub use Rattle.edit_ops.specs.States.{Log, State, log_noted, log_of, state_of}
pub use Rattle.edit_ops.specs.Tagging.{SpanFits, cell_without, cleared, tagged}
pub use Rattle.edit_ops.specs.Told.{AreExact, AreFalling, Tells, after_change, deletion, insertion, replacing}
pub use Rattle.edit_ops.specs.declared.anchors.Anchors.{Anchors}
pub use Rattle.edit_ops.specs.declared.changes.TextChange.{TextChange}
pub use Rattle.edit_ops.specs.declared.deltas.Delta.{Delta}
pub use Rattle.edit_ops.specs.declared.plans.Effects.{Effects}
pub use Rattle.edit_ops.specs.declared.slotted_texts.SlottedText.{SlottedText}
pub use Rattle.edit_ops.specs.declared.spans.Span.{Span}
pub use Rattle.edit_ops.specs.declared.texts.EditedText.{EditedText}
pub use Rattle.index_grammar.specs.Names.{known_marks, known_tags}
pub use Rattle.mark_table.proofs.ShiftLaws.{AreBelow, next-shifted, previous-shifted, shifted}
pub use Rattle.mark_table.specs.Order.{origin_in, rank_of, usable}
pub use Rattle.mark_table.specs.SharedMarks.{AreMarks, Mark, SharedMarks, first_number, gravity_of, is_named, number_of}
pub use Rattle.mark_table.specs.SharedMarks.{turned}
pub use Rattle.mark_table.specs.declared.order.Shown.{Shown}
pub use Rattle.mark_table.specs.declared.order.WidgetMark.{WidgetMark}
pub use Rattle.name_list.proofs.ListLaws.{Contains-from_stands}
pub use Rattle.name_list.specs.Names.{AreNames, Named, Names, numbers_of}
pub use Rattle.reports.proofs.BridgeLaws.{is_key_of, keys_of-belongs, keys_of-empty, keys_of-has, keys_of-set_slot}
pub use Rattle.reports.proofs.ClearedLaws.{AreSeats-left, gone-apart, gone-low, keyed-deleted, keyed-unseated}
pub use Rattle.reports.proofs.ClearedLaws.{known-deleted, known-unseated, map-filter, names_left}
pub use Rattle.reports.proofs.DeltaLaws.{known-stand, planned-made, told-planned}
pub use Rattle.reports.proofs.KeyedLaws.{characters-keyed, keyed-bare, keyed-flags, keyed-inserted, keyed-more}
pub use Rattle.reports.proofs.KeyedLaws.{keyed-removed, keyed-reordered, keyed-seated, keyed-shared, keyed-tagged}
pub use Rattle.reports.proofs.KeyedLaws.{keyed_cell, length-keyed}
pub use Rattle.reports.proofs.KnownLaws.{IsKnownPiece, known-changed, known-empty, known-front, known-inserted}
pub use Rattle.reports.proofs.KnownLaws.{known-named, known-put, known-reordered, known-seated, known-shared}
pub use Rattle.reports.proofs.KnownLaws.{known-slot}
pub use Rattle.reports.proofs.LookupLaws.{among-looked, has}
pub use Rattle.reports.proofs.ReportLaws.{of_tags, tags-alone}
pub use Rattle.reports.proofs.SlotLaws.{AreSeats-names, known_standing, slot_for, slot_for-named}
pub use Rattle.reports.proofs.WordLaws.{among-other, same-word, texts-more, words-are}
pub use Rattle.reports.specs.Cells.{KeyedCell, bare, characters, keyed, keys_between, keys_or, with_key, with_tag}
pub use Rattle.reports.specs.Cells.{without_tags}
pub use Rattle.reports.specs.Keys.{Keys, key_named, key_pairs, keys_named, keys_of, numbers_gone, pair_slots}
pub use Rattle.reports.specs.Keys.{seats_left}
pub use Rattle.reports.specs.Slots.{AreKnown, AreSeats, HasKnownSlots}
pub use Rattle.reports.specs.TagsTold.{AddsRuns, TellsSpans, TellsTags, flags_of}
pub use Rattle.reports.specs.Told.{TellsCells}
pub use Rattle.reports.specs.declared.keys.Key.{Key}
pub use Rattle.reports.specs.declared.told.EditTold.{EditTold}
pub use Rattle.search_dump.specs.Dump.{Outlook, dump_elements, name_of_rank, seen_by, usable_by}
pub use Rattle.std.proofs.Math.ListN.{replicate}
pub use Rattle.std.proofs.lemmas.Bool.{false≢true, cases_lt, false_from_ne_true, le-leb, le-ltb, lt-ltb, ltb-false}
pub use Rattle.std.proofs.lemmas.Bool.{or_left, or_parts, or_right}
pub use Rattle.std.proofs.lemmas.Bool.Decides.{nat_tests}
pub use Rattle.std.proofs.lemmas.Grind.{get_or-set_at}
pub use Rattle.std.proofs.lemmas.List.{drop_all, get_or-drop, get_or-map, get_or-set_other, get_or-take}
pub use Rattle.std.proofs.lemmas.List.{get_or_append_left, get_or_default, get_or_past, length-map, length-set}
pub use Rattle.std.proofs.lemmas.List.{length-take-le, map-append, map-id, nil_from_length, replicate_more}
pub use Rattle.std.proofs.lemmas.List.{take-append-le, take_all}
pub use Rattle.std.proofs.lemmas.List.Concat.{flat_map-append}
pub use Rattle.std.proofs.lemmas.List.Elements.{All-append, All-cons, All-drop, All-head, All-map, All-nil, All-push}
pub use Rattle.std.proofs.lemmas.List.Elements.{All-replicate, All-set, All-tail, All-take, All-weaker}
pub use Rattle.std.proofs.lemmas.List.Folds.{find-append, flat_map-map, list_any-append}
pub use Rattle.std.proofs.lemmas.List.Sums.{sum_by-cons}
pub use Rattle.std.proofs.lemmas.Option.{get_or_from_slice_get, none-some, option_and_then_some, same_Some}
pub use Rattle.std.proofs.lemmas.Option.{slice_get-get_or, slice_get-map}
pub use Rattle.std.proofs.lemmas.Result.{IfOk-from_err, on_err_weaker, on_ok_weaker}
pub use Rattle.std.proofs.lemmas.Slice.Eq.{bytes_eq-Decides}
pub use Rattle.std.proofs.lemmas.Str.{IsUtf8-string_bytes, chars-nil, chars_from_encodes}
pub use Rattle.std.specs.BTreeMap.{is_at}
pub use Rattle.std.specs.BTreeSet.{IsUnchanged, contains}
pub use Rattle.std.specs.Char.{IsScalar}
pub use Rattle.std.specs.List.{All, AllByRecursion, cons_option, flat_map, list_any, position_from}
pub use Rattle.std.specs.Option.{option_or}
pub use Rattle.std.specs.Ordering.{eq_by_cmp, is_eq, nat_cmp}
pub use Rattle.std.specs.Prelude.{◌↔◌, Box, IfErr, IsErr, IsErrAnd, IsOk, IsSome, IsUtf8, MatchResult, codes, decimal}
pub use Rattle.std.specs.Prelude.{is_ok, reverse, unwrap_or}
pub use Rattle.tag_table.specs.Priority.{IsOrdered, IsUnknown, Order, lowered, raised}
pub use Rattle.tag_table.specs.Tags.{AreTags, Tag, Tags, first_slot, names_of, sel, slot_of, slots_of}
pub use Rattle.tcl_words.proofs.ListGrowth.{goes_nowhere, goes_on}
pub use Rattle.tcl_words.specs.ListGrowth.{Goes}
pub use Rattle.tcl_words.specs.ListText.{list_text}
pub use Rattle.tcl_words.specs.Unread.{texts_of}
pub use Rattle.text_cursor.specs.Around.{shared_slots}
pub use Rattle.text_index.proofs.RangeLaws.{range-unset, ranges_from-first}
pub use Rattle.text_index.specs.Meanings.{AreWithin, MeanTheSame, shown_meanings, word_value}
pub use Rattle.text_index.specs.Parts.{part_of}
pub use Rattle.text_index.specs.Positions.{position_text}
pub use Rattle.text_index.specs.Ranges.{and_later, next_range, previous_range, ranges_from, tag_ranges}
pub use Rattle.text_index.specs.Views.{IsView, Part, own_place, shared_place, shown_mark}
pub use Rattle.text_index.specs.Words.{is_word}
pub use Rattle.text_index.specs.declared.ranges.TagRange.{TagRange}
pub use Rattle.text_model.proofs.CellLaws.{characters-inserted, characters-removed, characters-with_slot}
pub use Rattle.text_model.proofs.CellLaws.{characters-without_slots}
pub use Rattle.text_model.proofs.DocumentLaws.{IsDocument-inserted, IsDocument-new, IsDocument-removed}
pub use Rattle.text_model.proofs.SpliceLaws.{changed-same, length-cells_inserted, length-changed, length-inserted}
pub use Rattle.text_model.proofs.SpliceLaws.{length-removed, map-alike, map-changed, map-inserted, map-map, map-removed}
pub use Rattle.text_model.specs.Changes.{flag_at}
pub use Rattle.text_model.specs.Content.{Content, Marks, Slots, flags, map_marks, new_content, slot_sets}
pub use Rattle.text_model.specs.Documents.{IsDocument, MarksStand, ends_in_newline}
pub use Rattle.text_model.specs.LimitTable.{AreLimits, LimitTable}
pub use Rattle.text_model.specs.Lines.{IsLineStart, line_of, line_start, lines}
pub use Rattle.text_model.specs.Splices.{changed, drawn, goes_behind, inserted, is_right, moved, removed}
pub use Rattle.text_model.specs.Steps.{after_insertion, after_removal, after_step, cells_of, with_slot, without_slots}
pub use Rattle.text_model.specs.declared.cells.Cell.{Cell}
pub use Rattle.text_model.specs.declared.edits.Step.TheVariants.{ClearTags, Remove}
pub use Rattle.text_model.specs.declared.limits.TheConstants.Limits.{MOST_CHARS, MOST_MARKS, MOST_TAGS, MOST_WIDGETS}
pub use Rattle.text_model.specs.declared.places.Gravity.{Gravity}
pub use Rattle.text_model.specs.declared.places.Gravity.TheVariants.{Right}
pub use Rattle.text_model.specs.declared.places.MarkNo.{MarkNo}
pub use Rattle.text_model.specs.declared.places.Place.{Place}
pub use Rattle.text_model.specs.declared.places.TagSlot.{TagSlot}
pub use Rattle.undo_stack.proofs.FitsLaws.{last-apart, limited-fits, note-fits, nothing-fits, redo-fits, redo-goes}
pub use Rattle.undo_stack.proofs.FitsLaws.{separated-fits, undo-fits, undo-goes}
pub use Rattle.undo_stack.proofs.OriginLaws.{note-origin, redo-origin, revert-groups-back, undo-origin}
pub use Rattle.undo_stack.specs.Fits.{FitsText, put_in, repeated, repeated_group, repeated_groups, reverted_groups}
pub use Rattle.undo_stack.specs.Fits.{take_out}
pub use Rattle.undo_stack.specs.History.{History, limit_of, limited, newest, next_redo, next_undo, no_history, noted}
pub use Rattle.undo_stack.specs.History.{separated}
pub use Rattle.undo_stack.specs.Modified.{Modified, counted_new, set_to, times, unmodified}
pub use Rattle.undo_stack.specs.Rings.{Kept}
pub use Rattle.undo_stack.specs.declared.actions.Action.{Action}
pub use Rattle.undo_stack.specs.declared.actions.EditKind.{EditKind}
pub use Rattle.undo_stack.specs.declared.actions.EditKind.TheVariants.{Delete, Insert, Replace}
