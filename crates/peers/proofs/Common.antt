-- The names that most proofs of this crate cite, passed on from one place. Declares nothing.
pub use Rattle.std.proofs.Common.{[], ap₂, if◌then◌else◌, true≢false, ℕ, ◌&&◌, ◌++◌, ◌+◌, ◌-◌, ◌<◌, ◌==◌, ◌||◌, ◌∙◌}
pub use Rattle.std.proofs.Common.{◌∷◌, ◌≡◌, ◌≢◌, ◌≤◌, ◌⊎◌, Bool, Err, IfErr, IfOk, IfSome, IsUtf8, List, None, Ok}
pub use Rattle.std.proofs.Common.{Option, Result, Some, String, ap, append-nil, append_assoc, arith, chars, cond, drop}
pub use Rattle.std.proofs.Common.{encode_utf8, encode_utf8_all, eqb-true, false, filter, flat_map, get_or, inl, inr}
pub use Rattle.std.proofs.Common.{is_ok, is_some, length, map, nat_le, nat_lt, not, ok_or, option_map, refl, reverse}
pub use Rattle.std.proofs.Common.{slice_set, string_bytes, subst, suc, sym, take, true, zero}
pub use Rattle.command_effects.proofs.WrittenLaws.{filter-append}
pub use Rattle.command_effects.specs.Faults.{shape_fault, with_value}
pub use Rattle.command_effects.specs.Lists.{Pair, pairs_at, total, with_name}
pub use Rattle.command_effects.specs.Marking.{gravity_of}
pub use Rattle.command_effects.specs.Settings.{end_bound, first_settings, is_behind, line_numbered, line_of_word}
pub use Rattle.command_effects.specs.Settings.{setting_read, settings_checked, settings_read, start_bound, state_of}
pub use Rattle.command_effects.specs.Words.{is_among, is_same, literal}
pub use Rattle.command_effects.specs.declared.answers.Answer.{Answer}
pub use Rattle.command_effects.specs.declared.answers.Answer.TheVariants.{Empty, Flag, Text, Word}
pub use Rattle.command_effects.specs.declared.answers.Fault.{Fault}
pub use Rattle.command_effects.specs.declared.answers.Fault.TheVariants.{BadBoolean, BadComparison, BadInteger}
pub use Rattle.command_effects.specs.declared.answers.Fault.TheVariants.{BadOption, IndexOrder, InvalidCommandName}
pub use Rattle.command_effects.specs.declared.answers.Fault.TheVariants.{Memory, NoSuchTag, NothingToUndo}
pub use Rattle.command_effects.specs.declared.answers.Fault.TheVariants.{StartLineAfterEndLine, TextTooLong}
pub use Rattle.command_effects.specs.declared.answers.Fault.TheVariants.{TooManyMarks, TooManyTags, TooManyWidgets}
pub use Rattle.command_effects.specs.declared.answers.Fault.TheVariants.{WindowExists}
pub use Rattle.command_effects.specs.declared.settings.Settings.{Settings}
pub use Rattle.command_table.specs.Numbers.{boolean_of, integer_of}
pub use Rattle.command_table.specs.Reading.{bad_or, behind, reading, shape_in, subcommand}
pub use Rattle.command_table.specs.Table.{destroy_entry, text_entry}
pub use Rattle.command_table.specs.declared.commands.Command.{Command}
pub use Rattle.command_table.specs.declared.commands.Command.TheVariants.{Configure, Delete, EditModified, EditRedo}
pub use Rattle.command_table.specs.declared.commands.Command.TheVariants.{EditReset, EditSeparator, EditUndo, Insert}
pub use Rattle.command_table.specs.declared.commands.Command.TheVariants.{MarkGravity, MarkSet, MarkUnset, PeerCreate}
pub use Rattle.command_table.specs.declared.commands.Command.TheVariants.{Replace, TagAdd, TagDelete, TagLower}
pub use Rattle.command_table.specs.declared.commands.Command.TheVariants.{TagRaise, TagRemove}
pub use Rattle.command_table.specs.declared.shapes.Shape.{Shape}
pub use Rattle.command_table.specs.declared.shapes.ShapeFault.{ShapeFault}
pub use Rattle.documents.proofs.CarriedLaws.{IsCarried, IsMarked, IsQuiet, IsTagged, IsTextEdited, carried-active}
pub use Rattle.documents.proofs.CarriedLaws.{carried-with}
pub use Rattle.documents.proofs.FindLaws.{bytes_eq-turned}
pub use Rattle.documents.proofs.LeadLaws.{Leads}
pub use Rattle.documents.proofs.MarkReportLaws.{current_key, insert_key, listed-all, listed-watched, marks-made}
pub use Rattle.documents.proofs.MarkReportLaws.{marks-peered, marks-put, marks-stand, none-watched, one-watched}
pub use Rattle.documents.proofs.MarkReportLaws.{own-watched}
pub use Rattle.documents.proofs.NamesKeptLaws.{HasNamesOf, redo-kept, settings-kept, undo-kept}
pub use Rattle.documents.proofs.NewNameLaws.{AreNamed, among-append, named-carried, named-peer, named-same}
pub use Rattle.documents.proofs.OptionLeadLaws.{leads-first, leads-left, leads-peer, leads-settings, own-lines}
pub use Rattle.documents.proofs.ToldPlaceLaws.{deleted-taken, inserted-taken, placed-active, refused-taken}
pub use Rattle.documents.proofs.ToldPlaceLaws.{replaced-taken, still-taken}
pub use Rattle.documents.proofs.UndoRunLaws.{AnswersFor, after_times, by_found, by_name, undone-redone}
pub use Rattle.documents.specs.Deletions.{delete_places, replace_span}
pub use Rattle.documents.specs.Documents.{Document, Widget, no_widget, widget_at}
pub use Rattle.documents.specs.History.{edit_redo, edit_reset, edit_undo, group_found, modified_set, with_group}
pub use Rattle.documents.specs.Indices.{place_at}
pub use Rattle.documents.specs.Kept.{is_window_name}
pub use Rattle.documents.specs.Listing.{is_filled}
pub use Rattle.documents.specs.Marks.{mark_offset, mark_unset, place_named, set_found}
pub use Rattle.documents.specs.MarksTold.{AreCarried, AreOthers, AreWatched, HasMarksBut, TakesMarksBut, TellsMarks}
pub use Rattle.documents.specs.MarksTold.{carried_all, mark_at, mark_carried, mark_key, mark_keys, marks_dropped}
pub use Rattle.documents.specs.MarksTold.{own_keys, watched}
pub use Rattle.documents.specs.Options.{AreLines, IsLine, settings_of, with_settings}
pub use Rattle.documents.specs.Promise.{Change, Does, Gives, answered, change_with, refused, unless_idle}
pub use Rattle.documents.specs.Tags.{add_spans, known_or, lowered, raised, remove_spans, reordered}
pub use Rattle.documents.specs.Texts.{insert_at, insertion_at, insertion_offset, joined_text, tags_with, within_limits}
pub use Rattle.documents.specs.Told.{IsTold, reply_of}
pub use Rattle.documents.specs.Views.{is_idle, shown, view_end}
pub use Rattle.documents.specs.WellFormed.{IsPlaced, IsWellFormedDocument, window_names}
pub use Rattle.documents.specs.Widgets.{ShowsOpenly, bare_document, is_kept, keeps_some, new_document, new_widget}
pub use Rattle.documents.specs.Widgets.{thinned, widget_named, with_peer, without_widgets}
pub use Rattle.documents.specs.declared.mark_lists.MarkChange.{MarkChange}
pub use Rattle.documents.specs.declared.mark_lists.MarkKey.{MarkKey}
pub use Rattle.peers.specs.Arguments.{none_or_one_of, one_or_more_of, one_or_two_of, three_of, two_of, two_or_more_of}
pub use Rattle.peers.specs.Commands.{Call, arguments_of, call_of, command, done, is_frugal_reading, is_told, shaped}
pub use Rattle.peers.specs.Commands.{switches_of}
pub use Rattle.peers.specs.Comparisons.{comparison_of, holds}
pub use Rattle.peers.specs.Deletions.{delete, replace, replace_places, replace_words}
pub use Rattle.peers.specs.History.{edit_modified, modified_word}
pub use Rattle.peers.specs.Laws.{AnswersBefore, AreSpared, BeginsToKeep, GoesBack, NamesWindow, UndoRuns, after_all}
pub use Rattle.peers.specs.Laws.{forgets, forgets_read, is_forgotten, is_spared, names_dropped, names_read, place_after}
pub use Rattle.peers.specs.Laws.{place_after_all, redo_words, repeated, sets_keeping, text_at, undo_words}
pub use Rattle.peers.specs.Marks.{gravity_asked, gravity_given, gravity_words, mark_gravity, mark_set, set_at}
pub use Rattle.peers.specs.Marks.{set_words}
pub use Rattle.peers.specs.MarksTold.{MarksTellAt, MarksTellBy, MarksTellOf, TellsDropped}
pub use Rattle.peers.specs.Options.{configure, settings_given}
pub use Rattle.peers.specs.Queries.{count_between, count_words, counted_as, direction_by, direction_of, has_switch}
pub use Rattle.peers.specs.Queries.{is_direction, stands_for, turned}
pub use Rattle.peers.specs.Ranges.{and_place, places_at}
pub use Rattle.peers.specs.Requests.{called, request_step, widget_of, words_of}
pub use Rattle.peers.specs.Step.{Makes, Outcome, are_frugal, changed, create, create_named, create_new, create_shaped}
pub use Rattle.peers.specs.Step.{create_with, destroy, destroy_shaped, has_widgets, on_found, on_home, on_widget}
pub use Rattle.peers.specs.Step.{refuses, seat_step, step}
pub use Rattle.peers.specs.Tags.{add_words, remove_words, tag_add, tag_lower, tag_raise, tag_remove}
pub use Rattle.peers.specs.Texts.{got, insert, insert_pairs, insert_words, inserted_at, text_of, texts_of_places}
pub use Rattle.peers.specs.Told.{AreTold, TellsAt, TellsOf, answer_of, edited, no_edit}
pub use Rattle.peers.specs.WellFormed.{IsWellFormed}
pub use Rattle.peers.specs.Widgets.{peer_create, peer_settings, peer_with, peer_words}
pub use Rattle.peers.specs.Windows.{Homes, home_in, home_kept, homes_at, homes_from, homes_of}
pub use Rattle.peers.specs.World.{IsAt, World, all_windows, document_at, home, windows_of}
pub use Rattle.peers.specs.declared.told.Told.{Told}
pub use Rattle.reports.specs.Cells.{characters}
pub use Rattle.reports.specs.Told.{TellsCells}
pub use Rattle.std.proofs.lemmas.Bool.{false≢true, and_parts, eqb-false, false_from_ne_true, lt-ltb, ltb-false}
pub use Rattle.std.proofs.lemmas.Bool.{ltb-true, or_parts, or_right}
pub use Rattle.std.proofs.lemmas.Bool.Decides.{Decides-eqb, nat_tests}
pub use Rattle.std.proofs.lemmas.Grind.{flat_map-append}
pub use Rattle.std.proofs.lemmas.List.{drop-map, get_or-set_other, get_or-set_same, get_or_read, length-append}
pub use Rattle.std.proofs.lemmas.List.{length-map, length-set, length-take-le, map-append, nil_from_length}
pub use Rattle.std.proofs.lemmas.List.{reverse-append, set-get_or, take-append-le, take-map, take_all, take_at}
pub use Rattle.std.proofs.lemmas.List.{take_more, take_rest}
pub use Rattle.std.proofs.lemmas.List.Elements.{All-append, All-cons, All-drop, All-nil, All-take}
pub use Rattle.std.proofs.lemmas.Result.{IfOk-weaker}
pub use Rattle.std.proofs.lemmas.Slice.Eq.{bytes_eq-Decides}
pub use Rattle.std.proofs.lemmas.Str.{IsUtf8-past_char, IsUtf8-string_bytes, chars-nil, chars_past_char, encode_ascii}
pub use Rattle.std.proofs.lemmas.Str.{encodes-chars}
pub use Rattle.std.specs.List.{All, AllByRecursion, IsDistinct, find}
pub use Rattle.std.specs.Prelude.{ℤ, ⊤, IsErr, IsErrAnd, MatchResult, OnErr, OnOk, negsuc, option_and_then, pos}
pub use Rattle.std.specs.Prelude.{slice_index_or}
pub use Rattle.tcl_words.specs.ListGrowth.{Goes}
pub use Rattle.tcl_words.specs.Unread.{texts_of}
pub use Rattle.text_model.specs.LimitTable.{AreLimits, LimitTable}
pub use Rattle.text_model.specs.declared.places.Gravity.{Gravity}
pub use Rattle.text_model.specs.declared.places.Place.{Place}
pub use Rattle.undo_stack.specs.History.{limit_of, next_redo, next_undo}
