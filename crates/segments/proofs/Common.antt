-- The names that most proofs of this crate cite, passed on from one place. Declares nothing.
pub use Rattle.std.proofs.Common.{[], ap₂, subst₂, ℕ, ◌&&◌, ◌*◌, ◌++◌, ◌+◌, ◌-◌, ◌/◌, ◌<◌, ◌==◌, ◌^◌, ◌||◌, ◌∙◌, ◌∷◌}
pub use Rattle.std.proofs.Common.{◌≡◌, ◌≢◌, ◌≤◌, ◌⊎◌, Bool, List, None, Option, Some, T, ap, append-nil, append_assoc}
pub use Rattle.std.proofs.Common.{arith, cond, drop, drop-drop, false, get_or, inl, inr, length, length-append}
pub use Rattle.std.proofs.Common.{length-drop, length-take, ltb, ltb-false, ltb-true, map, max, min, nat_eq, nat_le}
pub use Rattle.std.proofs.Common.{nat_lt, not, refl, rules, set, subst, suc, sym, take, take-append-drop, true, zero}
pub use Rattle.segments.specs.Columns.{Column, LineContent, after_removal, after_text, characters, earlier, free_behind}
pub use Rattle.segments.specs.Columns.{joined, joined_marks, later, line_before, line_behind, line_count, marks_where}
pub use Rattle.segments.specs.Columns.{next_toggle, plain_columns, plain_line, previous_toggle, reset, tags_before}
pub use Rattle.segments.specs.Columns.{toggled_first, toggled_if, toggled_more, toggles, with_toggle, without_columns}
pub use Rattle.segments.specs.Entries.{CanMoveBack, CanMoveOn, HasOneWord, LieIn, RiseIn, any_of, entries_in, flipped}
pub use Rattle.segments.specs.Entries.{flipped_if, later_of, moved_back, moved_on, next_entry, odd_of, place_of}
pub use Rattle.segments.specs.Entries.{previous_entry, slots_cleared, toggled_at, without_span}
pub use Rattle.segments.specs.Forms.{content, is_plain}
pub use Rattle.segments.specs.Kept.{AreKept, columns_from}
pub use Rattle.segments.specs.Marks.{Below, Rise, StandIn, entries_of, entry_of, marks_of, with_place}
pub use Rattle.segments.specs.declared.marks.Mark.{Mark}
pub use Rattle.segments.specs.declared.rich.RichLine.TheInside.{Inside}
pub use Rattle.segments.specs.declared.toggles.Toggled.{Toggled}
pub use Rattle.std.proofs.Math.Seq.{drop-append_seam, drop-cons, take-append_seam}
pub use Rattle.std.proofs.lemmas.Bool.{false≢true, cases_eq, cases_lt, cases_order}
pub use Rattle.std.proofs.lemmas.Bool.Decides.{nat_tests}
pub use Rattle.std.proofs.lemmas.List.{append_cancel_right, drop_all, drop_more, get_or_default, length-map}
pub use Rattle.std.proofs.lemmas.List.{length-take-le, set_split, take-append-le, take_all, take_rest}
pub use Rattle.std.proofs.lemmas.List.Edits.{map_over_more, split_between}
pub use Rattle.std.proofs.lemmas.List.Elements.{All-append, All-cons, All-drop, All-filter, All-head, All-map, All-nil}
pub use Rattle.std.proofs.lemmas.List.Elements.{All-push, All-tail, All-take, All-weaker, filter-append, filter_passes}
pub use Rattle.std.proofs.lemmas.List.Sorted.{IsPartitionPoint-from_clause, IsPartitionedBy-ltb}
pub use Rattle.std.proofs.lemmas.List.Sums.{prefix_len-le-length, suffix_len-le-length, suffix_len-take_no}
pub use Rattle.std.proofs.lemmas.List.Sums.{suffix_len-take_yes}
pub use Rattle.std.proofs.lemmas.Option.{IfSome_then, slice_get-map, slice_get_past, slice_get_read}
pub use Rattle.std.proofs.lemmas.Result.{on_ok_weaker}
pub use Rattle.std.proofs.lemmas.Str.{IsAscii-drop, IsCharBoundary-end, IsCharBoundary-from_ascii, IsUtf8-append}
pub use Rattle.std.proofs.lemmas.Str.{IsUtf8-drop, IsUtf8-nil, IsUtf8-string_bytes, IsUtf8-take, chars-IsAscii}
pub use Rattle.std.proofs.lemmas.Str.{chars-append, chars-nil, chars_from_encodes, chars_past_char, encode_ascii}
pub use Rattle.std.proofs.lemmas.Str.{encodes-append, encodes-chars, len_utf8_bounds, length-encode, length-le-encodes}
pub use Rattle.std.specs.Cmp.{booleans_Decides, eq_by_cmp_equiv, nat_cmp_is, nat_cmp_total, unsigned_tied}
pub use Rattle.std.specs.FinMap.{find, is_sorted, nat_cmp-IsAntisymmetric, put}
pub use Rattle.std.specs.FinMap.Entries.{below_all, by_order, find-where_key, is_sorted-put, is_sorted-where_key}
pub use Rattle.std.specs.FinMap.Entries.{where_key}
pub use Rattle.std.specs.List.{All, filter, insert, insert_slice, position, prefix_len, reduce, remove, suffix_len}
pub use Rattle.std.specs.List.Sorted.{IsNonDecreasingBy, IsPartitionPoint}
pub use Rattle.std.specs.Ordering.{eq_by_cmp, is_eq, is_lt, nat_cmp}
pub use Rattle.std.specs.Prelude.{if◌then◌else◌, ⊤, Err, IfOk, IfSome, IsUtf8, Ok, OnOk, Result, chars, encode_utf8}
pub use Rattle.std.specs.Prelude.{encode_utf8_all, option_map, slice_get, slice_range, string_bytes, vec_capacity}
pub use Rattle.std.specs.Prelude.{vec_len}
pub use Rattle.std.specs.Str.{IsAscii, IsCharBoundary}
pub use Rattle.text_model.proofs.InWordLaws.{before_word, before_word-all, before_word-more, before_word-none}
pub use Rattle.text_model.proofs.InWordLaws.{counts_among, word-none, word-some, word_of, words_below-differing}
pub use Rattle.text_model.proofs.InWordLaws.{words_below-more, words_below-none, words_below-one}
pub use Rattle.text_model.proofs.MarkOrderLaws.{IsMarked, next_mark-above, next_mark-marked, previous_mark-below}
pub use Rattle.text_model.proofs.MarkOrderLaws.{previous_mark-marked, reduced_from}
pub use Rattle.text_model.proofs.PlaceLaws.{get-map_marks, same_marks, stands_if_some}
pub use Rattle.text_model.proofs.RunLaws.{run_end-le, run_start-le}
pub use Rattle.text_model.proofs.SpliceLaws.{length-inserted, length-removed}
pub use Rattle.text_model.specs.Content.{Marks, Slots, map_marks}
pub use Rattle.text_model.specs.MarkOrder.{marks_at, next_mark, previous_mark}
pub use Rattle.text_model.specs.OneWord.{AreSlots, IsOneWord, has_word, word_count, word_index, words_below}
pub use Rattle.text_model.specs.SlotSets.{differing}
pub use Rattle.text_model.specs.Splices.{changed, drawn, inserted, is_right, moved, removed}
pub use Rattle.text_model.specs.Steps.{set_slot}
pub use Rattle.text_model.specs.declared.places.Gravity.TheVariants.{Left}
pub use Rattle.text_model.specs.declared.places.Place.{Place}
pub use Rattle.text_model.specs.declared.tag_set.TheConstants.{WORDS}
pub use Rattle.toggle_sums.specs.CountLaws.{contains-differing, differing-associative, differing-commutative}
pub use Rattle.toggle_sums.specs.CountLaws.{differing-empty, either, either-associative, empty-differing, empty-union}
pub use Rattle.toggle_sums.specs.CountLaws.{no_text-plus, same_slots, union-associative, union-empty}
pub use Rattle.toggle_sums.specs.Counts.{Count, CountsFit, counting, plus, with_toggles_of}
pub use Rattle.toggle_sums.specs.Toggles.{parity, presence}
