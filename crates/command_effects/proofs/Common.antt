-- The names that most proofs of this crate cite, passed on from one place. Declares nothing.
pub use Rattle.std.proofs.Common.{[], ap₂, true≢false, ℕ, ℤ, ◌&&◌, ◌++◌, ◌+◌, ◌-◌, ◌<◌, ◌||◌, ◌∙◌, ◌∷◌, ◌≡◌, ◌≤◌, ◌⊎◌}
pub use Rattle.std.proofs.Common.{Bool, Global, List, None, Ok, Option, Some, Vec, ap, append_assoc, arith, chars, cond}
pub use Rattle.std.proofs.Common.{drop, drop-cons, false, filter, get_or, inl, inr, length, length-drop, map, not, refl}
pub use Rattle.std.proofs.Common.{slice_get, subst, suc, sym, take, true, w32, zero}
pub use Rattle.command_effects.specs.Faults.{with_value}
pub use Rattle.command_effects.specs.Lists.{Pair, all_names, and_pairs, listed_names, pair_at, pairs_at, with_name}
pub use Rattle.command_effects.specs.Lists.{with_names}
pub use Rattle.command_effects.specs.Marking.{is_left, marks_left, numbers_named, taken}
pub use Rattle.command_effects.specs.Ranges.{span, spans_of}
pub use Rattle.command_effects.specs.Settings.{line_answer, line_numbered, line_of_word, setting_read, settings_read}
pub use Rattle.command_effects.specs.Tagging.{IsFront, own_slot, piece_of, slot_taken, slots_deleted, slots_named}
pub use Rattle.command_effects.specs.Tagging.{stays, tags_left, with_found}
pub use Rattle.command_effects.specs.Words.{is_among, is_same}
pub use Rattle.command_effects.specs.declared.answers.Fault.{Fault}
pub use Rattle.command_effects.specs.declared.answers.Fault.TheVariants.{BadInteger}
pub use Rattle.mark_table.specs.SharedMarks.{AreMarks, Mark, SharedMarks, number_of}
pub use Rattle.name_list.specs.Moves.{without}
pub use Rattle.name_list.specs.Names.{AreApart}
pub use Rattle.std.proofs.lemmas.List.{append-nil, drop-map, get_or-map, length-append, length-map, map-append}
pub use Rattle.std.proofs.lemmas.List.{take-append-drop, take-append-le, take-take, take_all, take_more, take_rest}
pub use Rattle.std.proofs.lemmas.List.Elements.{All-cons, All-drop, All-head, All-nil, All-push, All-tail, All-take}
pub use Rattle.std.proofs.lemmas.List.Elements.{filter_map-append}
pub use Rattle.std.proofs.lemmas.List.Folds.{find-append, list_any-append}
pub use Rattle.std.proofs.lemmas.Option.{get_or_from_slice_get, none-some, slice_get_within}
pub use Rattle.std.proofs.lemmas.Result.{err_from_is_err_and}
pub use Rattle.std.proofs.lemmas.Slice.Eq.{bytes_eq-Decides}
pub use Rattle.std.proofs.lemmas.Str.{chars-IsAscii, chars-nil, encodes-chars}
pub use Rattle.std.specs.Cmp.{both_ways, nat_cmp_total}
pub use Rattle.std.specs.List.{All, cons_option, filter_map, position_from}
pub use Rattle.std.specs.Option.{option_map, option_or}
pub use Rattle.std.specs.Prelude.{if◌then◌else◌, ◌*◌, Err, IfOk, IfSome, IsNone, OnOk, Result, String, bytes_eq, find}
pub use Rattle.std.specs.Prelude.{min, ok_or, option_and_then, string_bytes}
pub use Rattle.tag_table.specs.Priority.{deleted}
pub use Rattle.tag_table.specs.Tags.{AreTags, IsFull, Tag, Tags, is_named, names_of, sel, slot_of}
pub use Rattle.tcl_words.specs.Unread.{texts_of}
pub use Rattle.text_model.specs.Content.{Content, Slots}
pub use Rattle.text_model.specs.Steps.{Fits, after, after_step}
pub use Rattle.text_model.specs.TagBits.{slot_count}
pub use Rattle.text_model.specs.declared.edits.Step.TheVariants.{ClearSlot, TakeMark}
pub use Rattle.text_model.specs.declared.places.MarkNo.{MarkNo}
pub use Rattle.text_model.specs.declared.places.TagSlot.{TagSlot}
