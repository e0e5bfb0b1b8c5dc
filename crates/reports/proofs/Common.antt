-- The names that most proofs of this crate cite, passed on from one place. Declares nothing.
pub use Rattle.std.proofs.Common.{[], ap₂, if◌then◌else◌, true≢false, ℕ, ◌&&◌, ◌++◌, ◌+◌, ◌-◌, ◌<◌, ◌==◌, ◌||◌, ◌∙◌}
pub use Rattle.std.proofs.Common.{◌∷◌, ◌≡◌, ◌≢◌, ◌≤◌, ◌⊎◌, Bool, Contains, IfOk, IfSome, List, None, Option, Some}
pub use Rattle.std.proofs.Common.{String, ap, append-nil, append_assoc, arith, bytes_eq, chars, cond, drop, eq-eqb}
pub use Rattle.std.proofs.Common.{eqb-true, false, filter, find, get_or, inl, inr, length, length-append, length-drop}
pub use Rattle.std.proofs.Common.{length-take, map, nat_lt, ne_eqb, not, option_map, refl, slice_get, slice_range}
pub use Rattle.std.proofs.Common.{string_bytes, subst, suc, sym, take, true, zero}
pub use Rattle.command_effects.proofs.LeftLaws.{AreApart-head, AreApart-tail}
pub use Rattle.command_effects.specs.Tagging.{IsFront, slot_taken, slots_deleted, slots_named, stays, tags_left}
pub use Rattle.command_effects.specs.Tagging.{with_found}
pub use Rattle.command_effects.specs.Words.{is_among, is_same}
pub use Rattle.edit_ops.proofs.HunkLaws.{map-patched}
pub use Rattle.edit_ops.proofs.RunLaws.{inside, inside-before, inside-behind, inside-is}
pub use Rattle.edit_ops.specs.Deletions.{in_spans}
pub use Rattle.edit_ops.specs.Deltas.{IsDelta, IsLostRun, KnowsDelta, bared, hunks_made, lost_run}
pub use Rattle.edit_ops.specs.SlotRuns.{AreBareRuns, IsBareRun, bare_cells, slotted, with_slots}
pub use Rattle.edit_ops.specs.States.{Log, State}
pub use Rattle.edit_ops.specs.Tagging.{SpanFits, cell_without, tagged, without}
pub use Rattle.edit_ops.specs.Told.{AreExact, AreHunks, AreHunksOf, Tells, hunk_changes, patched, patched_by}
pub use Rattle.edit_ops.specs.declared.slot_runs.SlotRun.{SlotRun}
pub use Rattle.edit_ops.specs.declared.spans.Span.{Span}
pub use Rattle.index_grammar.specs.Names.{known_tags}
pub use Rattle.name_list.proofs.ListLaws.{AreApart-insert, Contains-from_stands, Stands, stands_from_Contains}
pub use Rattle.name_list.proofs.ListLaws.{stands_map, stood_at}
pub use Rattle.name_list.specs.Names.{AreApart, AreNames, Named, Names, names_of, numbers_of}
pub use Rattle.reports.specs.Cells.{KeyedCell, bare, characters, common_keys, key_stays, keyed, keys_between, with_key}
pub use Rattle.reports.specs.Cells.{with_tag, without_tags}
pub use Rattle.reports.specs.Keys.{Key, Keys, is_shared, key_cmp, key_named, key_pairs, keys_of, numbers_gone}
pub use Rattle.reports.specs.Keys.{pair_slots, rank, seat_pair, seats_left, selection_stays, set_key, tag_pair}
pub use Rattle.reports.specs.Slots.{AreKnown, AreSeats, HasKnownSlots}
pub use Rattle.reports.specs.TagsGone.{AreGone, TellsGone}
pub use Rattle.reports.specs.TagsTold.{AddsRuns, AreDistinct, AreGapped, AreRising, HoldsSlots, IsTagChange, IsTagRun}
pub use Rattle.reports.specs.TagsTold.{LeavesGap, LiesIn, TellsRuns, TellsSpan, TellsSpans, TellsTags, after_changes}
pub use Rattle.reports.specs.TagsTold.{flags_of, in_key_run, in_run, is_turned, some_change, untagged}
pub use Rattle.reports.specs.Told.{TellsCells}
pub use Rattle.reports.specs.declared.tag_lists.TagChange.{TagChange}
pub use Rattle.reports.specs.declared.told.EditTold.{EditTold}
pub use Rattle.std.proofs.lemmas.Bool.{and_parts, cases_lt, eqb-false, false_from_ne_true, le-ltb, lt-ltb, or_left}
pub use Rattle.std.proofs.lemmas.Bool.{or_right}
pub use Rattle.std.proofs.lemmas.List.{drop-drop, drop-take, drop_at, drop_more, get_or-drop, get_or-map, get_or-take}
pub use Rattle.std.proofs.lemmas.List.{get_or_past, length-map, length-take-le, map-append, take-append-drop, take-take}
pub use Rattle.std.proofs.lemmas.List.{take_all, take_at, take_more}
pub use Rattle.std.proofs.lemmas.List.Elements.{All-append, All-cons, All-drop, All-from_get_or, All-get_or, All-head}
pub use Rattle.std.proofs.lemmas.List.Elements.{All-map, All-more, All-nil, All-push, All-tail, All-take, All-weaker}
pub use Rattle.std.proofs.lemmas.List.Elements.{Contains-append_cases, Contains-append_left, Contains-append_right}
pub use Rattle.std.proofs.lemmas.List.Folds.{drop_split, list_any-append}
pub use Rattle.std.proofs.lemmas.Option.{get_or_from_slice_get, none-some, same_Some, slice_get-get_or, slice_get-map}
pub use Rattle.std.proofs.lemmas.Option.{slice_get_within}
pub use Rattle.std.proofs.lemmas.Slice.Eq.{bytes_eq-Decides}
pub use Rattle.std.specs.Cmp.{Equal-is, IsTotalOrder, both_ways, nat_cmp_total, tied_itself, unsigned_tied}
pub use Rattle.std.specs.List.{All, cons_option, list_any}
pub use Rattle.std.specs.Ordering.{eq_by_cmp, nat_cmp}
pub use Rattle.std.specs.Prelude.{Box, box_value}
pub use Rattle.tag_table.specs.Tags.{AreTags, Tag, Tags, sel, slot_of, slots_of}
pub use Rattle.tcl_words.specs.Unread.{texts_of}
pub use Rattle.text_cursor.specs.Around.{shared_slots}
pub use Rattle.text_index.proofs.FlagLaws.{next-alike, next-other}
pub use Rattle.text_model.proofs.CellLaws.{contains-set_slot}
pub use Rattle.text_model.proofs.SpliceLaws.{changed-same, get_or-changed_before, get_or-changed_behind}
pub use Rattle.text_model.proofs.SpliceLaws.{get_or-changed_within, length-changed, map-alike, map-changed}
pub use Rattle.text_model.proofs.SpliceLaws.{map-inserted, map-map, map-removed, map-slice_range}
pub use Rattle.text_model.specs.Changes.{flag_at, is_alike, next_change}
pub use Rattle.text_model.specs.Content.{Content, Slots, flags, slot_sets}
pub use Rattle.text_model.specs.Splices.{changed, inserted, removed}
pub use Rattle.text_model.specs.Steps.{cells_of, set_slot, with_slot, without_slots}
pub use Rattle.text_model.specs.declared.cells.Cell.{Cell}
pub use Rattle.text_model.specs.declared.limits.TheConstants.Limits.{MOST_WIDGETS}
pub use Rattle.undo_stack.specs.declared.actions.Action.{Action}
