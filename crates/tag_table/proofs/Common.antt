-- The names that most proofs of this crate cite, passed on from one place. Declares nothing.
pub use Rattle.std.proofs.Common.{[], ap₂, if◌then◌else◌, true≢false, ℕ, ◌++◌, ◌+◌, ◌-◌, ◌<◌, ◌∙◌, ◌∷◌, ◌≡◌, ◌≢◌, ◌≤◌}
pub use Rattle.std.proofs.Common.{Bool, Contains, List, None, Option, Some, ap, arith, false, length, lit<, map, nat_lt}
pub use Rattle.std.proofs.Common.{refl, slice_get, subst, suc, sym, true, zero}
pub use Rattle.name_list.proofs.ListLaws.{Contains-from_stands, Stands, get_push, get_remove_other}
pub use Rattle.name_list.proofs.ListLaws.{stands_from_Contains, stands_map, stood_at}
pub use Rattle.name_list.proofs.ViewLaws.{bytes_eq-chars, map-move_index, map-remove}
pub use Rattle.name_list.specs.Names.{AreApart, AreNames, Named, Names, place_of}
pub use Rattle.std.proofs.lemmas.Bool.Decides.{Decides-eqb, nat_tests}
pub use Rattle.std.proofs.lemmas.List.{length-map, map_push}
pub use Rattle.std.proofs.lemmas.Option.{none-some, same_Some, slice_get-get_or, slice_get-map, slice_get_within}
pub use Rattle.std.proofs.lemmas.Result.{err_from_is_err_and}
pub use Rattle.std.specs.List.{list_any, take-map}
pub use Rattle.std.specs.Option.{option_map}
pub use Rattle.std.specs.Prelude.{◌==◌, ◌||◌, IfSome, IsAscii, IsNone, IsUtf8, bytes_eq, chars, cond, find, insert}
pub use Rattle.std.specs.Prelude.{is_some, not, position, remove, string_bytes, take}
pub use Rattle.tag_table.specs.Kept.{AreKept, GoesTo, slot_of_number, tag, tags_kept}
pub use Rattle.tag_table.specs.Priority.{IsOrdered, IsUnknown, Order, deleted, is_tag, lowered, raised}
pub use Rattle.tag_table.specs.Tags.{AreTags, IsLeastFree, Tag, Tags, first_slot, is_named, names_of, sel, slot_of}
pub use Rattle.tag_table.specs.Tags.{slots_of}
