-- The names that most proofs of this crate cite, passed on from one place. Declares nothing.
pub use Rattle.std.proofs.Common.{[], ap₂, subst₂, true≢false, ℕ, ◌%◌, ◌&&◌, ◌++◌, ◌+◌, ◌-◌, ◌<◌, ◌==◌, ◌^◌, ◌||◌, ◌∙◌}
pub use Rattle.std.proofs.Common.{◌∷◌, ◌≡◌, ◌≢◌, ◌≤◌, ◌⊎◌, Bool, Err, Global, IfSome, List, None, Ok, Option, Result}
pub use Rattle.std.proofs.Common.{Some, T, Vec, add-one, ap, append_assoc, arith, chars, cond, drop, eqb-true, false}
pub use Rattle.std.proofs.Common.{get_or, inl, inr, length, length-append, length-drop, length-take, map, max, min}
pub use Rattle.std.proofs.Common.{nat_lt, not, refl, replicate, rules, set, subst, suc, sym, take, take-append-drop}
pub use Rattle.std.proofs.Common.{true, vec_len, w8, zero}
pub use Rattle.line_lists.specs.Changes.{CanChange, CanEdit, CanMark, IsChangedBy, lines_changed, lines_freed}
pub use Rattle.line_lists.specs.Changes.{lines_marked}
pub use Rattle.line_lists.specs.Clearing.{AreFree, free_end, free_length, lines_on}
pub use Rattle.line_lists.specs.DraftTexts.{IsDraftIn, IsTextIn, lines_in, taken_in, text_in}
pub use Rattle.line_lists.specs.Drafts.{AreStops, BeginsBehind, BeginsBy, CanFollow, IsBefore, IsDraft, IsFound}
pub use Rattle.line_lists.specs.Drafts.{IsKnown, IsReached, IsSeen, IsStop, IsTaken, IsText, LastBeginsBehind, StandsAt}
pub use Rattle.line_lists.specs.Drafts.{StandsBy, copies_of, copy_tags, covered, drafted, drafted_at, in_order}
pub use Rattle.line_lists.specs.Drafts.{line_start, lines_before, lines_behind, made_lines, place_of, tags_after}
pub use Rattle.line_lists.specs.Drafts.{taken_lines, text_at, used}
pub use Rattle.line_lists.specs.Edits.{made, with_cleared, with_mark, with_toggled, without_mark}
pub use Rattle.line_lists.specs.Insertions.{IsOpen, IsPartly, Opens, StandRight}
pub use Rattle.line_lists.specs.Lists.{AreApart, AreLines, AreRows, GoesBefore, Holds, IsCounted, IsLine, IsMarked}
pub use Rattle.line_lists.specs.Lists.{NumbersBelow, SameNumbers, StandBefore, StandWithin, count_of, has_mark}
pub use Rattle.line_lists.specs.Lists.{has_marks, has_toggle, more_lines, next_line, previous_line, row_of, spliced}
pub use Rattle.line_lists.specs.Marking.{StandsIn, lines_with}
pub use Rattle.line_lists.specs.Pieces.{CanMake, CanPlace, Covers, FitsIn, Follows, content_made, copied_lines, freed}
pub use Rattle.line_lists.specs.Pieces.{lines_more, named, numbers_in, numbers_of, piece_lines, placed, rows_more}
pub use Rattle.line_lists.specs.Places.{IsAt}
pub use Rattle.line_lists.specs.Removals.{HoldsMore, IsHeld, JoinsNext, held_at, held_text}
pub use Rattle.line_lists.specs.Texts.{cells_from, cells_of_columns, content_of, text_of, whole}
pub use Rattle.line_lists.specs.Toggling.{cleared, columns_bare, columns_inserted, columns_tagged, switched}
pub use Rattle.line_lists.specs.Toggling.{tags_left_of, toggled_before}
pub use Rattle.line_lists.specs.declared.drafts.Copied.{Copied}
pub use Rattle.line_lists.specs.declared.drafts.Reached.{Reached}
pub use Rattle.line_lists.specs.declared.drafts.Stop.{Stop}
pub use Rattle.line_lists.specs.declared.pieces.Piece.{Piece}
pub use Rattle.line_lists.specs.declared.store.PieceChange.{PieceChange}
pub use Rattle.segments.proofs.MarkLaws.{get-joined_marks, joined_none, or_else, tied_same}
pub use Rattle.segments.proofs.PlainLaws.{characters-plain}
pub use Rattle.segments.proofs.TextLaws.{fewer_characters, no_characters}
pub use Rattle.segments.specs.Columns.{Column, LineContent, after_removal, after_text, characters, earlier, joined}
pub use Rattle.segments.specs.Columns.{joined_marks, later, line_before, line_behind, line_count, marks_where}
pub use Rattle.segments.specs.Columns.{next_toggle, plain_columns, plain_line, previous_toggle, reset, tags_before}
pub use Rattle.segments.specs.Columns.{toggled_first, toggled_if, toggled_more, toggles, with_toggle, without_columns}
pub use Rattle.std.proofs.Math.Seq.{drop-append-add, drop-append_seam, take-append-add, take-append_seam, take-nil}
pub use Rattle.std.proofs.Math.Seq.{take-suc}
pub use Rattle.std.proofs.lemmas.Bool.{false≢true, cases_lt, eq-eqb, not-false, or_parts}
pub use Rattle.std.proofs.lemmas.Bool.Decides.{nat_tests}
pub use Rattle.std.proofs.lemmas.List.{append-nil, at_drop_more, drop-append-le, drop-drop, drop-map, drop-take}
pub use Rattle.std.proofs.lemmas.List.{drop_all, drop_at, drop_more, get_or-drop, get_or-take, get_or_default}
pub use Rattle.std.proofs.lemmas.List.{length-map, length-reverse, length-set, length-take-le, map-append}
pub use Rattle.std.proofs.lemmas.List.{nil_from_length, reverse-append, set_split, take-append-le, take-map, take-take}
pub use Rattle.std.proofs.lemmas.List.{take_all, take_at, take_more, take_more_set}
pub use Rattle.std.proofs.lemmas.List.Edits.{map_over_more, split_between}
pub use Rattle.std.proofs.lemmas.List.Elements.{All-append, All-cons, All-drop, All-head, All-nil, All-push, All-tail}
pub use Rattle.std.proofs.lemmas.List.Elements.{All-take, All-weaker}
pub use Rattle.std.proofs.lemmas.List.Sums.{fails_before_first, prefix_len-drop_all, prefix_len-drop_no}
pub use Rattle.std.proofs.lemmas.List.Sums.{prefix_len-drop_yes, prefix_len-le-length, prefix_len_stops}
pub use Rattle.std.proofs.lemmas.List.Sums.{suffix_len-take_no, suffix_len-take_yes}
pub use Rattle.std.proofs.lemmas.Map.Entries.{option_filter}
pub use Rattle.std.proofs.lemmas.Option.{get_or_from_slice_get, none-some, same_Some, slice_get-get_or, slice_get-map}
pub use Rattle.std.proofs.lemmas.Option.{slice_get_read, slice_get_within}
pub use Rattle.std.proofs.lemmas.Result.{IfOk-equal, IfOk-weaker, on_ok_weaker}
pub use Rattle.std.proofs.lemmas.Simd.{bitmask_splat, leading_from_mask_l, length-chunk, trailing_mask_l}
pub use Rattle.std.specs.Bool.{beq}
pub use Rattle.std.specs.Cmp.{nat_cmp_total, unsigned_tied}
pub use Rattle.std.specs.FinMap.{find, is_sorted, nat_cmp-IsAntisymmetric}
pub use Rattle.std.specs.FinMap.Entries.{below_all, same_entries}
pub use Rattle.std.specs.List.{All, filter, position, position_or_len, prefix_len, suffix_len}
pub use Rattle.std.specs.Option.{IsSome, SomeIff, ok_or, option_copied}
pub use Rattle.std.specs.Ordering.{eq_by_cmp, is_lt, nat_cmp}
pub use Rattle.std.specs.Prelude.{if◌then◌else◌, IfNone, OnOk, encode_utf8, encode_utf8_all, is_some, nat_le}
pub use Rattle.std.specs.Prelude.{option_map, option_to_list, reverse, slice_get, slice_range, string_bytes, unwrap_or}
pub use Rattle.std.specs.Simd.Lanes.{chunk, mask_l, top, zip2}
pub use Rattle.text_model.proofs.CellLaws.{contains-set_slot}
pub use Rattle.text_model.proofs.ChangeLaws.{next_change-above, next_change_is, previous_change-below}
pub use Rattle.text_model.proofs.ChangeLaws.{previous_change_is}
pub use Rattle.text_model.proofs.DocumentLaws.{ends_with_rest}
pub use Rattle.text_model.proofs.LineLaws.{line_start-later, line_start-le, lines-append, lines-cons, lines-inserted}
pub use Rattle.text_model.proofs.MarkOrderLaws.{next_mark-above, next_mark-least, next_mark-marked, previous_mark-below}
pub use Rattle.text_model.proofs.MarkOrderLaws.{previous_mark-greatest, previous_mark-marked}
pub use Rattle.text_model.proofs.PlaceLaws.{get-map_marks, same_marks}
pub use Rattle.text_model.proofs.RunLaws.{long, run_end-le, run_start-le}
pub use Rattle.text_model.proofs.SpliceLaws.{changed-append_left, changed-append_right, changed-same}
pub use Rattle.text_model.proofs.SpliceLaws.{inserted-append_left, inserted-append_right, length-changed}
pub use Rattle.text_model.proofs.SpliceLaws.{length-inserted, map-changed, map-inserted, map-removed}
pub use Rattle.text_model.proofs.StepLaws.{length-after_step, moved_le}
pub use Rattle.text_model.specs.Changes.{flag_at, is_alike, next_change, previous_change}
pub use Rattle.text_model.specs.Content.{Content, Marks, Slots, flags, map_marks, new_content, shared_slots, slot_sets}
pub use Rattle.text_model.specs.Content.{slots_left_of}
pub use Rattle.text_model.specs.Documents.{ends_in_newline}
pub use Rattle.text_model.specs.Lines.{IsLineOf, is_newline, line_of, lines}
pub use Rattle.text_model.specs.MarkOrder.{marks_at, next_mark, previous_mark}
pub use Rattle.text_model.specs.SlotSets.{differing}
pub use Rattle.text_model.specs.Splices.{changed, drawn, goes_behind, inserted, is_right, moved, removed}
pub use Rattle.text_model.specs.Steps.{Fits, StepFitsIn, after, after_step, cells_of, length_after, set_slot, with_slot}
pub use Rattle.text_model.specs.Steps.{without_slots}
pub use Rattle.text_model.specs.declared.cells.Cell.{Cell}
pub use Rattle.text_model.specs.declared.edits.Step.{Step}
pub use Rattle.text_model.specs.declared.edits.Step.TheVariants.{ClearSlot, ClearTags, Insert, PutMark, Remove, SetTag}
pub use Rattle.text_model.specs.declared.edits.Step.TheVariants.{TakeMark}
pub use Rattle.text_model.specs.declared.places.MarkNo.{MarkNo}
pub use Rattle.text_model.specs.declared.places.Place.{Place}
pub use Rattle.text_model.specs.declared.places.TagSlot.{TagSlot}
pub use Rattle.toggle_sums.proofs.ToggleLaws.{presence-append, tags_by_parity}
pub use Rattle.toggle_sums.specs.CountLaws.{contains-differing, differing-associative, differing-commutative}
pub use Rattle.toggle_sums.specs.CountLaws.{differing-empty, differing-self, either, empty-differing, no_text-plus}
pub use Rattle.toggle_sums.specs.CountLaws.{plus-associative, plus-no_text, same_slots, union-commutative}
pub use Rattle.toggle_sums.specs.Counts.{Count, CountsFit, counting, no_text, plus}
pub use Rattle.toggle_sums.specs.Toggles.{parity, presence, tags_from}
