-- The names that most proofs of this crate cite, passed on from one place. Declares nothing.
pub use Rattle.std.proofs.Common.{[], ap₂, ℕ, ◌&&◌, ◌++◌, ◌+◌, ◌-◌, ◌<◌, ◌==◌, ◌^◌, ◌∙◌, ◌∷◌, ◌≡◌, ◌≢◌, ◌≤◌, Bool, Err}
pub use Rattle.std.proofs.Common.{List, None, Ok, Option, Some, ap, arith, cond, drop, drop-drop, false, get_or, inl}
pub use Rattle.std.proofs.Common.{inr, le-ltb, length, length-drop, lt-ltb, map, max, min, nat_lt, ne_eqb, not, refl}
pub use Rattle.std.proofs.Common.{subst, suc, sym, take, true, zero}
pub use Rattle.index_grammar.proofs.PlaceLaws.{most}
pub use Rattle.index_grammar.specs.Grammar.{WholeIndex, around_dot, base_of, before, closed_front, index_of, longest}
pub use Rattle.index_grammar.specs.Grammar.{longest_front, marked, modifiers_of, number_of, of_length, place_base}
pub use Rattle.index_grammar.specs.Grammar.{place_of, saturated_base, saturated_modifier, tagged, token, tokens_of}
pub use Rattle.index_grammar.specs.Grammar.{without_last}
pub use Rattle.index_grammar.specs.Names.{known_marks, known_tags}
pub use Rattle.index_grammar.specs.Reading.{found_of, read_of}
pub use Rattle.index_grammar.specs.Steps.{saturated, saturated_index}
pub use Rattle.index_grammar.specs.declared.faults.IndexFault.{IndexFault}
pub use Rattle.index_grammar.specs.declared.faults.IndexFault.TheVariants.{BadIndex, NoTaggedCharacters}
pub use Rattle.index_grammar.specs.declared.indices.Base.{Base}
pub use Rattle.index_grammar.specs.declared.indices.Modifier.{Modifier}
pub use Rattle.mark_table.specs.SharedMarks.{Mark, first_number}
pub use Rattle.std.proofs.lemmas.Bool.{false≢true, cases_Bool, cases_lt, le-leb, leb-true, lt-leb, ltb-false, ltb-true}
pub use Rattle.std.proofs.lemmas.Bool.Decides.{Decides-eqb, nat_tests}
pub use Rattle.std.proofs.lemmas.List.{drop-take, get_or-drop, get_or-reverse, get_or-take, get_or_past, length-map}
pub use Rattle.std.proofs.lemmas.List.{length-reverse, length-take-le, reverse-append, take-append-drop, take-take}
pub use Rattle.std.proofs.lemmas.List.Sums.{prefix_len-drop_no, prefix_len-drop_yes, prefix_len-le-length}
pub use Rattle.std.proofs.lemmas.List.Sums.{prefix_len_passes, prefix_len_stops, suffix_len-le-length}
pub use Rattle.std.proofs.lemmas.List.Sums.{suffix_len-take_no, suffix_len-take_yes}
pub use Rattle.std.proofs.lemmas.Str.{IsAscii-append, IsUtf8-string_bytes, chars-IsAscii, chars-append}
pub use Rattle.std.specs.List.{ends_with, last_or, prefix_len, suffix_len}
pub use Rattle.std.specs.Prelude.{if◌then◌else◌, IfOk, IfSome, IsAscii, IsUtf8, Result, bytes_eq, chars, codes, decimal}
pub use Rattle.std.specs.Prelude.{encode_utf8_all, filter, find, nat_eq, nat_le, option_and_then, option_map, position}
pub use Rattle.std.specs.Prelude.{reverse, slice_get, slice_index, slice_range, string_bytes}
pub use Rattle.tag_table.specs.Tags.{Tag}
pub use Rattle.text_index.specs.Meanings.{AreWithin, MeanTheSame, Meanings, shown_meanings, value_of, word_value}
pub use Rattle.text_index.specs.Parts.{part_of}
pub use Rattle.text_index.specs.Ranges.{and_later, begins, begins_before, begins_from, is_set, next_range}
pub use Rattle.text_index.specs.Ranges.{previous_range, ranges_behind, ranges_from, tag_ranges}
pub use Rattle.text_index.specs.Values.{base_value, column_of, first_tagged, in_line, index_value, last_tagged}
pub use Rattle.text_index.specs.Values.{line_value, lines_back, lines_on, modified, modified_by, newline_of, on_line}
pub use Rattle.text_index.specs.Values.{or_fault, read_modified, then_modified, unless_end, word_behind, word_end}
pub use Rattle.text_index.specs.Values.{word_front}
pub use Rattle.text_index.specs.Views.{IsView, Part, own_place, shared_place, shown, shown_flags, shown_mark}
pub use Rattle.text_index.specs.Words.{is_word}
pub use Rattle.text_index.specs.declared.ranges.TagRange.{TagRange}
pub use Rattle.text_model.proofs.LineLaws.{line_start-le, line_start-rises, lines-append, lines-cons, lines-le-length}
pub use Rattle.text_model.specs.Changes.{flag_at, is_alike, next_change, previous_change}
pub use Rattle.text_model.specs.Content.{Content, characters, flags}
pub use Rattle.text_model.specs.Lines.{IsLineOf, IsLineStart, is_newline, line_of, line_start, lines}
pub use Rattle.text_model.specs.declared.cells.Cell.{Cell}
pub use Rattle.text_model.specs.declared.places.LineSpan.{LineSpan}
