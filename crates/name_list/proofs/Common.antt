-- The names that most proofs of this crate cite, passed on from one place. Declares nothing.
pub use Rattle.std.proofs.Common.{[], ap₂, if◌then◌else◌, true≢false, ℕ, ◌++◌, ◌+◌, ◌-◌, ◌<◌, ◌^◌, ◌∙◌, ◌∷◌, ◌≡◌, ◌≢◌}
pub use Rattle.std.proofs.Common.{◌≤◌, ◌⊎◌, Bool, Contains, Global, List, None, Option, Some, String, ap, arith, cond}
pub use Rattle.std.proofs.Common.{drop, eq-eqb, false, get_or, inl, inr, le-ltb, length, length-append, length-set}
pub use Rattle.std.proofs.Common.{lt-ltb, map, min, nat_lt, ne_eqb, not, refl, rules, slice_get, slice_set, subst, suc}
pub use Rattle.std.proofs.Common.{sym, take, tests, true, zero}
pub use Rattle.name_list.specs.Moves.{move_index, put_before, put_behind, without}
pub use Rattle.name_list.specs.Names.{AreApart, AreNames, IsLeastFree, Named, Names, names_of, numbers_of, place_of}
pub use Rattle.name_list.specs.Places.{AreKept, AreTrimmed, IsIndex, IsIndexTo, is_taken, named, names_kept}
pub use Rattle.name_list.specs.Places.{with_place_for}
pub use Rattle.std.proofs.lemmas.Bool.{cases_eq, cases_lt}
pub use Rattle.std.proofs.lemmas.Bool.Decides.{nat_tests, same_from_decides}
pub use Rattle.std.proofs.lemmas.List.{append-nil, drop-map, drop_all, length-map, map-append, map_push, take-map}
pub use Rattle.std.proofs.lemmas.List.{take_all}
pub use Rattle.std.proofs.lemmas.List.Edits.{insert_end, length-insert, length-remove}
pub use Rattle.std.proofs.lemmas.Option.{MatchOption-at_none, get_or_from_slice_get, none-some, same_Some}
pub use Rattle.std.proofs.lemmas.Option.{slice_get-get_or, slice_get-map, slice_get_past, slice_get_within}
pub use Rattle.std.specs.List.{IsDistinct, position_or_len}
pub use Rattle.std.specs.Map.{keys_of, lookup, values_of}
pub use Rattle.std.specs.Option.{option_and_then, option_map, option_map_or}
pub use Rattle.std.specs.Prelude.{IsUtf8, bytes_eq, chars, encode_utf8_all, find, insert, is_some, position, remove}
pub use Rattle.std.specs.Prelude.{string_bytes}
