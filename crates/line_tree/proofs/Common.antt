-- The names that most proofs of this crate cite, passed on from one place. Declares nothing.
pub use Rattle.std.proofs.Common.{[], ap₂, lit≤, ℕ, ◌*◌, ◌++◌, ◌+◌, ◌-◌, ◌/◌, ◌<◌, ◌^◌, ◌||◌, ◌∙◌, ◌∷◌, ◌≡◌, ◌≢◌, ◌≤◌}
pub use Rattle.std.proofs.Common.{◌⊎◌, Bool, Err, IfSome, IsSome, List, MatchOption, None, Ok, OnOk, OnSome, Option}
pub use Rattle.std.proofs.Common.{Result, Some, Vec, ap, append_assoc, arith, chars, cond, drop, drop-drop, false}
pub use Rattle.std.proofs.Common.{get_or, inl, inr, is_some, length, length-append, length-drop, length-set}
pub use Rattle.std.proofs.Common.{length-take, lit<, map, max, min, nat_le, nat_lt, not, option_to_list, refl}
pub use Rattle.std.proofs.Common.{replicate, reverse, rules, set, slice_get, slice_index, slice_range, string_bytes}
pub use Rattle.std.proofs.Common.{subst, suc, sym, take, take_all, true, vec_capacity, vec_len, zero}
pub use Rattle.line_lists.proofs.CountRows.{count-append, count-characters, count-lines}
pub use Rattle.line_lists.proofs.FindLaws.{drop_after}
pub use Rattle.line_lists.proofs.FreedLaws.{eq_self, same-line}
pub use Rattle.line_lists.proofs.LineChangeLaws.{spliced-fits}
pub use Rattle.line_lists.proofs.SearchRows.{FailFrom, NextAt, PreviousAt, line_at, next-found, next-none}
pub use Rattle.line_lists.proofs.SearchRows.{previous-found, previous-none}
pub use Rattle.line_lists.proofs.VecLaws.{lines-are-without, new-lines, whole-without}
pub use Rattle.line_lists.specs.Edits.{with_mark, without_mark}
pub use Rattle.line_lists.specs.Lists.{AreLines, AreRows, IsCounted, IsMarked, NumbersBelow, count_of, has_mark}
pub use Rattle.line_lists.specs.Lists.{has_marks, more_lines, next_line, previous_line, row_of, spliced}
pub use Rattle.line_lists.specs.Texts.{whole}
pub use Rattle.line_tree.specs.Aims.{AddsUp, characters-add, characters_behind, lines-add, nothing-adds, slot_behind}
pub use Rattle.line_tree.specs.Aims.{slots_behind, sum-adds, sum_behind}
pub use Rattle.line_tree.specs.Changes.{Among, CanEven, CanFill, CanPut, Distinct, Evens, Fills, FitsSum, Halves, Mends}
pub use Rattle.line_tree.specs.Changes.{Merges, Puts, Shares, Stay, link_one, refilled, relinked, resummed, sum_all}
pub use Rattle.line_tree.specs.Changes.{sum_or_none, sums}
pub use Rattle.line_tree.specs.Finds.{Finds, HasRow, Leads, lines_below}
pub use Rattle.line_tree.specs.Giving.{Without}
pub use Rattle.line_tree.specs.Growth.{CanInsert, Grows, HasNoParent, Inserts, IsWide, KeepsLink, KeepsWide, NewLine}
pub use Rattle.line_tree.specs.Growth.{NewRoot, Stands, StandsAlone, lines_of, names_of, parted, trees, with_line}
pub use Rattle.line_tree.specs.LastLines.{IsThere}
pub use Rattle.line_tree.specs.Leaving.{Leaves}
pub use Rattle.line_tree.specs.Locating.{IsPlaceAt, characters_at, characters_below}
pub use Rattle.line_tree.specs.MarkTable.{AreBare, IsMarkedBelow, IsTable, holder, lines_without, noted}
pub use Rattle.line_tree.specs.Moving.{IsAloneAt, IsElsewhere, all_without, moved_to}
pub use Rattle.line_tree.specs.Nearest.{passes, shows}
pub use Rattle.line_tree.specs.Places.{Begins, IsChild, IsLineAt, Sits, characters_before, line_names, lines_before}
pub use Rattle.line_tree.specs.Raising.{Becomes, CanLift, CanRaise, CanTakeRow, HasKids, HasSlots, Lifted, Lifts}
pub use Rattle.line_tree.specs.Raising.{Raises, TakesRow, below_all, trees_at, with_lines}
pub use Rattle.line_tree.specs.Replacing.{CanEditNamed, IsStale, PutsOver}
pub use Rattle.line_tree.specs.Room.{CanPutRow, HasRoom, KeepsRoom, PutsRoom, SpendsRoom, levels_at_most, levels_up_to}
pub use Rattle.line_tree.specs.Room.{line_room, most_in_row, nodes_above, room_by_height, room_by_width}
pub use Rattle.line_tree.specs.Searches.{Arrives, Reaches, sum_before, sum_below}
pub use Rattle.line_tree.specs.Shape.{Holds, IsLinked, IsNode, IsTree, Links, line_of, lines_at, lines_in, sum_at}
pub use Rattle.line_tree.specs.Shape.{sum_of, tree_at}
pub use Rattle.line_tree.specs.Shrinking.{CanLower, CanMend, CanRemove, Cleans, Lowers, Removes, Settles, Shrinks}
pub use Rattle.line_tree.specs.Shrinking.{Turns}
pub use Rattle.line_tree.specs.Spreading.{CanSpread, IsPair, Moves, Respreads, first_part}
pub use Rattle.line_tree.specs.Taking.{CanChange, Changes, Linked, SameLinks, TakesOff, changed, linked, marked}
pub use Rattle.line_tree.specs.TreeState.{TreeState}
pub use Rattle.line_tree.specs.Trees.{IsBalanced, IsBalancedRoot, Named, Tree, contents, inner, least_below_root, lines}
pub use Rattle.line_tree.specs.Trees.{names, tops, total}
pub use Rattle.line_tree.specs.declared.aims.CharactersBefore.{CharactersBefore}
pub use Rattle.line_tree.specs.declared.aims.SlotsBefore.{SlotsBefore}
pub use Rattle.line_tree.specs.declared.find.Found.{Found}
pub use Rattle.line_tree.specs.declared.last_line.LastLine.{LastLine}
pub use Rattle.line_tree.specs.declared.nearest.Wanted.{Wanted}
pub use Rattle.line_tree.specs.declared.slot_before.SlotBefore.{SlotBefore}
pub use Rattle.raw_nodes.proofs.MapLaws.{at_some, get_inserted, get_other, get_removed, get_unmoved, kept_insert}
pub use Rattle.raw_nodes.proofs.MapLaws.{some_of}
pub use Rattle.raw_nodes.proofs.PlaceLaws.{name_antisym, name_total, same_or_other}
pub use Rattle.raw_nodes.proofs.RowLaws.{get_or-row, length-row, somes, somes-row}
pub use Rattle.raw_nodes.proofs.UpdateLaws.{get-update, get-update-other, insert-named, len-update, named-update}
pub use Rattle.raw_nodes.proofs.UpdateLaws.{remove-named, update-named}
pub use Rattle.raw_nodes.specs.Cells.{name_cmp}
pub use Rattle.raw_nodes.specs.Chain.{rooms_for}
pub use Rattle.raw_nodes.specs.LineLending.{WroteLine}
pub use Rattle.raw_nodes.specs.Names.{IsInner, IsName, entry, nodes, records, rooms, spares}
pub use Rattle.raw_nodes.specs.Records.{Record, Records, blank, update, updated, with_child, with_parent, with_sum}
pub use Rattle.raw_nodes.specs.Rows.{kids, kids_of, row}
pub use Rattle.raw_nodes.specs.declared.names.NodePtr.{NodePtr}
pub use Rattle.segments.proofs.MarkLaws.{tied_same}
pub use Rattle.segments.specs.Columns.{LineContent, characters, line_count, plain_line, toggles}
pub use Rattle.std.proofs.Math.Nat.{add-mul, div-mul-le_self, le-max_left, le-max_right, le-min, min-le_left}
pub use Rattle.std.proofs.Math.Nat.{min-le_right, mul-add, mul-le-mul_left, mul-le-mul_right, pow-le-pow_right}
pub use Rattle.std.proofs.Math.Nat.{pow-succ'}
pub use Rattle.std.proofs.Math.Seq.{drop-append-add, drop-append_seam, take-append-add, take-append_seam}
pub use Rattle.std.proofs.lemmas.Bool.{cases_eq, cases_lt, cond-false, cond-true, le-leb, lt-leb}
pub use Rattle.std.proofs.lemmas.List.{append-nil, at_drop_all, at_drop_more, drop-append-le, drop-map, drop_all}
pub use Rattle.std.proofs.lemmas.List.{drop_at, ext_get_or, get_or-drop, get_or-set_other, get_or-set_same, get_or-take}
pub use Rattle.std.proofs.lemmas.List.{get_or_past, length-map, length-take-le, length_push, map-append}
pub use Rattle.std.proofs.lemmas.List.{nil_from_length, reverse-append, take-append-drop, take-append-le, take-map}
pub use Rattle.std.proofs.lemmas.List.{take-take, take_at, take_more}
pub use Rattle.std.proofs.lemmas.List.Concat.{flat_map-append}
pub use Rattle.std.proofs.lemmas.List.Edits.{insert-append_left, insert_end, length-insert, length-remove}
pub use Rattle.std.proofs.lemmas.List.Edits.{remove-append_right, sets, sets-eq, split_between}
pub use Rattle.std.proofs.lemmas.List.Sums.{sum_by-append, sum_by-cons, sum_by-take-le, sum_by_push}
pub use Rattle.std.proofs.lemmas.Nat.{le-div}
pub use Rattle.std.proofs.lemmas.Option.{get_or_from_slice_get, none-some, same_Some, slice_get-get_or, slice_get-map}
pub use Rattle.std.proofs.lemmas.Option.{slice_get_past, slice_get_within}
pub use Rattle.std.specs.Cmp.{nat_cmp_total}
pub use Rattle.std.specs.FinMap.{empty_of_len, get-empty, len-empty, len-insert, len-remove, same_map}
pub use Rattle.std.specs.List.{All, AllByRecursion, count_by, filter_map, flat_map, insert, remove, sum_by}
pub use Rattle.std.specs.Option.{option_map}
pub use Rattle.std.specs.Ordering.{eq_by_cmp, is_lt, nat_cmp}
pub use Rattle.std.specs.Prelude.{⊤, ◌&&◌, OnErr, T}
pub use Rattle.text_model.specs.Content.{Marks, Slots}
pub use Rattle.text_model.specs.SlotSets.{differing}
pub use Rattle.text_model.specs.Splices.{removed}
pub use Rattle.text_model.specs.declared.places.Place.{Place}
pub use Rattle.toggle_sums.specs.CountLaws.{differing-associative, differing-empty, differing-self, either}
pub use Rattle.toggle_sums.specs.CountLaws.{empty-differing, no_text-plus, plus-associative, plus-commutative}
pub use Rattle.toggle_sums.specs.CountLaws.{plus-no_text, same_slots, union-associative, union-commutative, union-empty}
pub use Rattle.toggle_sums.specs.CountLaws.{union-self}
pub use Rattle.toggle_sums.specs.Counts.{CanExchange, Count, CountsFit, HasCounts, IsBare, IsWithin, counting}
pub use Rattle.toggle_sums.specs.Counts.{exchanged, less, no_text, plus, without}
