-- The names that most proofs of this crate cite, passed on from one place. Declares nothing.
pub use Rattle.std.proofs.Common.{[], ap₂, ℕ, ◌&&◌, ◌++◌, ◌+◌, ◌-◌, ◌<◌, ◌==◌, ◌^◌, ◌||◌, ◌∙◌, ◌∷◌, ◌≡◌, ◌≢◌, ◌≤◌, ◌⊎◌}
pub use Rattle.std.proofs.Common.{Bool, List, None, Option, Some, ap, append-nil, append_assoc, arith, chars, cond}
pub use Rattle.std.proofs.Common.{decimal, drop, encode_utf8, encode_utf8_all, false, get_or, inl, inr, length, lt-ltb}
pub use Rattle.std.proofs.Common.{map, max, min, refl, reverse, set, slice_index_or, string_bytes, subst, suc, sym}
pub use Rattle.std.proofs.Common.{take, true, zero}
pub use Rattle.index_grammar.specs.declared.indices.Direction.{Direction}
pub use Rattle.index_grammar.specs.declared.indices.Direction.TheVariants.{Back, Forward}
pub use Rattle.mark_table.proofs.SharedWalk.{before_bound, by_rank, earlier_place, one-out}
pub use Rattle.mark_table.specs.Order.{earlier, first, mark_of, next_mark, next_shown, own_mark, own_place, rank_of}
pub use Rattle.mark_table.specs.Order.{shared_mark}
pub use Rattle.mark_table.specs.SharedMarks.{Mark, names_of, numbers_of}
pub use Rattle.mark_table.specs.declared.order.Shown.{Shown}
pub use Rattle.search_dump.specs.Ahead.{AreAhead, AreAt, AreBefore, AreKept, AreKnownTo, AreTurned, IsKnown, IsNearest}
pub use Rattle.search_dump.specs.Ahead.{IsTurned, change_after, slot_at, slot_of_row, turned_at}
pub use Rattle.search_dump.specs.Copies.{AreLeft, left_of}
pub use Rattle.search_dump.specs.Counts.{counted, difference, distance}
pub use Rattle.search_dump.specs.Dump.{Marked, Outlook, Seen, Tagged, begins_at, dump_elements, element, elements_at}
pub use Rattle.search_dump.specs.Dump.{elements_at_end, ends_at, flag_before, if_listed, is_cut, mark_elements}
pub use Rattle.search_dump.specs.Dump.{mark_seen, name_of_rank, only_in, own_slot, piece, seen_by, stands_at, tag_seen}
pub use Rattle.search_dump.specs.Dump.{tagoff_elements, tagon_elements, text_elements, usable_by}
pub use Rattle.search_dump.specs.MarksAhead.{Has, IsFirstMark, IsMarkBehind, IsMarkFrom, is_before, mark_element}
pub use Rattle.search_dump.specs.MarksAhead.{own_place_in, passed, place_in, shared_place_in, shown_of}
pub use Rattle.search_dump.specs.Matches.{apart, bound, candidates, compared, found_places, limit, matches, matches_at}
pub use Rattle.search_dump.specs.Matches.{places, shares, wanted_of}
pub use Rattle.search_dump.specs.Searched.{listed_in, listed_whole, searched}
pub use Rattle.search_dump.specs.Sights.{outlook}
pub use Rattle.search_dump.specs.Spots.{IsSpot}
pub use Rattle.search_dump.specs.Stops.{FailsBetween, IsNextStop, IsStop, has_mark_at, has_tag_at, stop_at_mark}
pub use Rattle.search_dump.specs.Stops.{stops_at_marks, stops_at_tags, tag_stops}
pub use Rattle.search_dump.specs.Stretches.{HasMatch, HasRoom, IsBehind, IsPeriod, behind_front, beside, first_high}
pub use Rattle.search_dump.specs.Stretches.{first_low, first_stretch, front, left_behind, left_round, left_to_list}
pub use Rattle.search_dump.specs.Stretches.{listed_from, listed_round, matches_in, nearest, next_of, ordered}
pub use Rattle.search_dump.specs.Stretches.{second_high, second_low, second_stretch}
pub use Rattle.search_dump.specs.Turns.{AreBehind, AreQuiet, IsApart, IsTurnBehind, rows_at}
pub use Rattle.search_dump.specs.declared.dumping.Listed.{Listed}
pub use Rattle.search_dump.specs.declared.matching.Stretch.{Stretch}
pub use Rattle.search_dump.specs.declared.searching.SearchSwitches.{SearchSwitches}
pub use Rattle.search_dump.specs.declared.searching.Wanted.{Wanted}
pub use Rattle.search_dump.specs.declared.searching.Wanted.TheVariants.{All, Apart, First}
pub use Rattle.search_dump.specs.declared.turns.Rows.{Rows}
pub use Rattle.search_dump.specs.declared.turns.Turn.{Turn}
pub use Rattle.std.proofs.Math.Bool.{and-false, and-true, or-false, or-true}
pub use Rattle.std.proofs.lemmas.Bool.{false≢true, true≢false, and_from, and_left, and_parts, and_right, cases_Bool}
pub use Rattle.std.proofs.lemmas.Bool.{cases_eq, cases_lt, cases_order, cond-false, cond-true, eq-eqb}
pub use Rattle.std.proofs.lemmas.Bool.{false_from_ne_true, le-leb, le-ltb, leb-false, leb-true, lt-leb, ltb-true}
pub use Rattle.std.proofs.lemmas.Bool.{ne_eqb, not-false, or_left, or_parts, or_right}
pub use Rattle.std.proofs.lemmas.Grind.{flat_map-append, get_or_default_zero}
pub use Rattle.std.proofs.lemmas.Iterator.{YieldsList-from_chars}
pub use Rattle.std.proofs.lemmas.Iterator.Consumers.{YieldsList-end, YieldsList-turn, count_from_yields_List}
pub use Rattle.std.proofs.lemmas.List.{append_cancel_right, drop-drop, drop-map, drop-take, drop_all, drop_at}
pub use Rattle.std.proofs.lemmas.List.{drop_more, flat_map_more, get_or-map, get_or-reverse, get_or-set_other}
pub use Rattle.std.proofs.lemmas.List.{get_or-set_same, get_or_default, get_or_past, length-append, length-drop}
pub use Rattle.std.proofs.lemmas.List.{length-map, length-reverse, length-set, length-take, length_push, map-append}
pub use Rattle.std.proofs.lemmas.List.{map_more, reverse-append, take-append-drop, take-append-le, take-map, take-take}
pub use Rattle.std.proofs.lemmas.List.{take_all, take_at, take_min, take_more}
pub use Rattle.std.proofs.lemmas.List.Elements.{All-filter, All-head, All-tail, All-weaker, filter-append}
pub use Rattle.std.proofs.lemmas.List.Folds.{find-append, list_any-append}
pub use Rattle.std.proofs.lemmas.Option.{get_or_from_slice_get, none-some, same_Some, slice_get-get_or}
pub use Rattle.std.proofs.lemmas.Option.{slice_get_within}
pub use Rattle.std.proofs.lemmas.Result.{IfOk-weaker, on_ok_weaker}
pub use Rattle.std.proofs.lemmas.Slice.Eq.{bytes_eq-Decides}
pub use Rattle.std.proofs.lemmas.Str.{IsCharBoundary-from_rest, IsCharBoundary-start, IsUtf8-drop, IsUtf8-string_bytes}
pub use Rattle.std.proofs.lemmas.Str.{IsUtf8-take, chars-IsAscii, chars-append, chars-nil, chars_from_encodes}
pub use Rattle.std.proofs.lemmas.Str.{chars_past_char, encodes-IsAscii, encodes-append, encodes-chars, len_utf8_bounds}
pub use Rattle.std.proofs.lemmas.Str.{length-encode, length-le-encodes}
pub use Rattle.std.specs.List.{filter, find, flat_map, list_any, prefix_len, range_with_len}
pub use Rattle.std.specs.Option.{SomeIff, is_some, option_and_then, option_map, option_or}
pub use Rattle.std.specs.Prelude.{if◌then◌else◌, IfOk, IfSome, IsTrue, MatchOption, OnOk, bytes_eq, codes, nat_le}
pub use Rattle.std.specs.Prelude.{nat_lt, not, slice_get, slice_range, unwrap_or}
pub use Rattle.std.specs.Str.{IsAscii, IsCharBoundary, IsUtf8}
pub use Rattle.std.specs.Str.Pattern.{HasTextAt, LacksTextAt}
pub use Rattle.tag_table.specs.Tags.{Tag, slots_of}
pub use Rattle.tcl_words.proofs.ListGrowth.{goes_all, goes_mapped, goes_nowhere, goes_on}
pub use Rattle.tcl_words.proofs.PlainElements.{goes-place, goes-plain, plain-decimal, plain-negative}
pub use Rattle.tcl_words.specs.ListGrowth.{Goes}
pub use Rattle.tcl_words.specs.ListText.{list_text, needs_quotes}
pub use Rattle.text_index.proofs.FlagLaws.{length-shown_flags, next-alike, next-other, part-flag}
pub use Rattle.text_index.proofs.ViewLaws.{before-end, length-shown, line_start-before, lines-of-part, lines-part}
pub use Rattle.text_index.proofs.ViewLaws.{take-apart}
pub use Rattle.text_index.specs.Parts.{part_of}
pub use Rattle.text_index.specs.Positions.{position_text}
pub use Rattle.text_index.specs.Ranges.{is_set, ranges_behind, tag_ranges}
pub use Rattle.text_index.specs.Values.{column_of}
pub use Rattle.text_index.specs.Views.{IsView, Part, shown, shown_flags}
pub use Rattle.text_index.specs.declared.ranges.TagRange.{TagRange}
pub use Rattle.text_model.specs.Changes.{flag_at, is_alike, next_change}
pub use Rattle.text_model.specs.Content.{Slots, characters, flags, slot_sets}
pub use Rattle.text_model.specs.Lines.{line_of, line_start, lines}
pub use Rattle.ucd_case.proofs.CaseFoldingLemmas.{simple_fold-ascii}
pub use Rattle.ucd_case.specs.CaseFolding.{simple_fold}
