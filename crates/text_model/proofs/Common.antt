-- The names that most proofs of this crate cite, passed on from one place. Declares nothing.
pub use Rattle.std.proofs.Common.{[], ap₂, ℕ, ◌%◌, ◌&&◌, ◌*◌, ◌++◌, ◌+◌, ◌-◌, ◌/◌, ◌<◌, ◌==◌, ◌^◌, ◌||◌, ◌∙◌, ◌∷◌, ◌≡◌}
pub use Rattle.std.proofs.Common.{◌≢◌, ◌≤◌, Bool, List, None, Option, Some, T, add_assoc, ap, arith, bit_and, bit_or}
pub use Rattle.std.proofs.Common.{bit_xor, cond, count_by, count_ones, drop, false, get_or, get_or-set_other}
pub use Rattle.std.proofs.Common.{get_or-set_same, inl, inr, length, length-append, length-drop, length-set}
pub use Rattle.std.proofs.Common.{length-take, lt-ltb, ltb, map, max, min, nat_eq, nat_le, nat_lt, not, refl, replicate}
pub use Rattle.std.proofs.Common.{rules, set, slice_index, slice_set, subst, suc, sym, take, take-add, take-append-drop}
pub use Rattle.std.proofs.Common.{true, vec_len, w64, w8, zero}
pub use Rattle.std.proofs.lemmas.Bool.{false≢true, cases_eq, cases_lt}
pub use Rattle.std.proofs.lemmas.Bool.Decides.{nat_tests}
pub use Rattle.std.proofs.lemmas.List.{append-nil, append_assoc, drop-append-le, drop-drop, drop-map, drop_all, drop_at}
pub use Rattle.std.proofs.lemmas.List.{drop_more, get_or-append_right, get_or-drop, get_or-map, get_or-take}
pub use Rattle.std.proofs.lemmas.List.{get_or_append_left, get_or_default, get_or_past, length-map, length-replicate}
pub use Rattle.std.proofs.lemmas.List.{length-take-le, map-append, map-id, places, set_split, take-append-le, take-map}
pub use Rattle.std.proofs.lemmas.List.{take-take, take_all, take_at, take_rest}
pub use Rattle.std.proofs.lemmas.List.Edits.{map_over_more, split_between}
pub use Rattle.std.proofs.lemmas.List.Elements.{All-append, All-cons, All-drop, All-filter, All-head, All-map, All-nil}
pub use Rattle.std.proofs.lemmas.List.Elements.{All-tail, All-take, All-weaker, filter_passes}
pub use Rattle.std.proofs.lemmas.List.Sums.{count_by-le-length, prefix_len-drop_no, prefix_len-drop_yes}
pub use Rattle.std.proofs.lemmas.List.Sums.{prefix_len-le-length, prefix_len_is, suffix_len-le-length}
pub use Rattle.std.proofs.lemmas.List.Sums.{suffix_len-take_no, suffix_len-take_yes, suffix_len_is, sum_by-append}
pub use Rattle.std.proofs.lemmas.List.Sums.{sum_by-cons, sum_by-take-drop}
pub use Rattle.std.proofs.lemmas.Nat.{and_le_l, one_shl, or_lt, pow_pos, xor_lt}
pub use Rattle.std.proofs.lemmas.Nat.Bits.{bit_at-lt, bit_at-pow_other, bit_at-pow_same, bit_at-zero, bit_at_and}
pub use Rattle.std.proofs.lemmas.Nat.Bits.{bit_at_clear_other, bit_at_clear_same, bit_at_set_other, bit_at_set_same}
pub use Rattle.std.proofs.lemmas.Nat.Bits.{bit_at_xor, shr_and_one}
pub use Rattle.std.proofs.lemmas.Simd.{bitmask_splat, chunk-fits, length-chunk, map-map, ones-mask_l, zip2_splat}
pub use Rattle.std.proofs.lemmas.Str.{IsUtf8-encode, IsUtf8-string_bytes, IsUtf8-take, chars-append, chars-encodes}
pub use Rattle.std.proofs.lemmas.Str.{chars-nil, chars_past_char, encodes-chars}
pub use Rattle.std.specs.Char.{IsScalar}
pub use Rattle.std.specs.Cmp.{nat_cmp_total, unsigned_tied}
pub use Rattle.std.specs.FinMap.{find, is_sorted, nat_cmp-IsAntisymmetric}
pub use Rattle.std.specs.Int.{bit_at, bit_not}
pub use Rattle.std.specs.List.{All, filter, fold, prefix_len, reduce, suffix_len}
pub use Rattle.std.specs.Ordering.{eq_by_cmp, is_lt, nat_cmp}
pub use Rattle.std.specs.Prelude.{if◌then◌else◌, ◌⊎◌, IfSome, IsUtf8, chars, encode_utf8, encode_utf8_all, option_map}
pub use Rattle.std.specs.Prelude.{slice_get, slice_range, string_bytes}
pub use Rattle.std.specs.Str.{IsCharBoundary, all_scalars}
pub use Rattle.text_model.specs.Beginnings.{beginnings, begins_character}
pub use Rattle.text_model.specs.Changes.{flag_at, is_alike, next_change, previous_change}
pub use Rattle.text_model.specs.Content.{Content, Marks, Slots, characters, flags, map_marks, new_content}
pub use Rattle.text_model.specs.Content.{slots_left_of}
pub use Rattle.text_model.specs.Documents.{IsDocument, MarksStand, ends_in_newline}
pub use Rattle.text_model.specs.Lines.{is_newline, line_of, line_start, lines}
pub use Rattle.text_model.specs.MarkOrder.{marks_at, next_mark, offsets, previous_mark}
pub use Rattle.text_model.specs.OneWord.{AreBits, AreSlots, IsOneWord, alone, has_word, in_word, slots_in, word_bits}
pub use Rattle.text_model.specs.OneWord.{word_count, word_index, words_below}
pub use Rattle.text_model.specs.OneWordLaws.{AreWords-alone, alone-other, alone-same, contains-slots_in}
pub use Rattle.text_model.specs.OneWordLaws.{word_bits-slots_in, word_index-slots_in}
pub use Rattle.text_model.specs.Plain.{IsPlain, places_from, plain_content, plain_marks, stands_at, with_next}
pub use Rattle.text_model.specs.Plain.{with_previous}
pub use Rattle.text_model.specs.SlotSets.{differing}
pub use Rattle.text_model.specs.Splices.{changed, drawn, goes_behind, inserted, moved, removed}
pub use Rattle.text_model.specs.Steps.{Fits, FitsIn, InsertsScalars, StepFits, after, after_insertion, after_removal}
pub use Rattle.text_model.specs.Steps.{after_step, cells_of, length_after, set_slot, with_slot, without_slots}
pub use Rattle.text_model.specs.TagBitLaws.{contains-slots_below, contains_inserted, word_of_bits, word_of_slots}
pub use Rattle.text_model.specs.TagBitLaws.{words_of-slots_of}
pub use Rattle.text_model.specs.TagBits.{AreWords, has_bit, slot_count, slots_below, slots_of, words_of}
pub use Rattle.text_model.specs.declared.cells.Cell.{Cell}
pub use Rattle.text_model.specs.declared.edits.Step.{Step}
pub use Rattle.text_model.specs.declared.edits.Step.TheVariants.{ClearSlot, ClearTags, Insert, PutMark, Remove, SetTag}
pub use Rattle.text_model.specs.declared.edits.Step.TheVariants.{TakeMark}
pub use Rattle.text_model.specs.declared.places.Place.{Place}
pub use Rattle.text_model.specs.declared.tag_set.TheConstants.{WORDS}
