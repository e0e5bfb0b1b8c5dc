-- The names that most proofs of this crate cite, passed on from one place. Declares nothing.
pub use Rattle.std.proofs.Common.{[], ap₂, ℕ, ◌&&◌, ◌++◌, ◌+◌, ◌-◌, ◌<◌, ◌∙◌, ◌∷◌, ◌≡◌, ◌≤◌, Bool, List, None, Option}
pub use Rattle.std.proofs.Common.{Some, ap, append_assoc, arith, drop, false, get_or, le-leb, length, length-append}
pub use Rattle.std.proofs.Common.{length-drop, length-take, lt-ltb, ne_eqb, refl, suc, sym, take, take_all, true, zero}
pub use Rattle.std.proofs.Math.ListN.{drop_of_length-le}
pub use Rattle.std.proofs.lemmas.List.{drop-append-le, drop-drop, drop_more, get_or-take, get_or_read, take-append-drop}
pub use Rattle.std.proofs.lemmas.List.{take-append-le, take_more}
pub use Rattle.std.proofs.lemmas.Option.{option_and_then_some}
pub use Rattle.std.specs.Prelude.{if◌then◌else◌, ◌==◌, IsSome, bytes_eq, min, nat_le, nat_lt, negsuc, not}
pub use Rattle.std.specs.Prelude.{option_and_then, option_to_list, pos, slice_get, slice_index_or, slice_range, sum}
pub use Rattle.std.specs.Prelude.{unwrap_or}
pub use Rattle.undo_stack.specs.Fits.{FitsText, put_in, repeated, repeated_group, repeated_groups, reverted}
pub use Rattle.undo_stack.specs.Fits.{reverted_group, reverted_groups, take_out}
pub use Rattle.undo_stack.specs.History.{History, after_redo, after_undo, changes_kind, joined, limited, newest}
pub use Rattle.undo_stack.specs.History.{next_redo, next_undo, no_history, noted, onto_last, separated}
pub use Rattle.undo_stack.specs.Modified.{Modified, counted_down, counted_new, counted_up, times}
pub use Rattle.undo_stack.specs.Rings.{AreGroups, Kept, grouped, history_of}
pub use Rattle.undo_stack.specs.declared.actions.Action.{Action}
pub use Rattle.undo_stack.specs.declared.actions.EditKind.{EditKind}
