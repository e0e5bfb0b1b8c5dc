-- The names that most proofs of this crate cite, passed on from one place. Declares nothing.
pub use Rattle.std.proofs.Common.{[], ap₂, if◌then◌else◌, true≢false, ℕ, ◌&&◌, ◌*◌, ◌++◌, ◌+◌, ◌-◌, ◌<◌, ◌==◌, ◌||◌}
pub use Rattle.std.proofs.Common.{◌∙◌, ◌∷◌, ◌≡◌, ◌≢◌, ◌≤◌, ◌⊎◌, Bool, Contains, List, None, Option, Ordering, Some, T}
pub use Rattle.std.proofs.Common.{ap, arith, cond, eq-eqb, false, find, inl, inr, le-ltb, length, length-append}
pub use Rattle.std.proofs.Common.{length-set, lt-ltb, map, max, min, nat_le, nat_lt, ne_eqb, not, option_and_then, refl}
pub use Rattle.std.proofs.Common.{slice_get, slice_set, subst, suc, sym, take, true, zero}
pub use Rattle.mark_table.specs.Kept.{AreKept, gravity_at, mark, marks_kept, with_gravity_for}
pub use Rattle.mark_table.specs.Order.{earlier, first, last, next_shown, origin_in, own_mark, own_place, previous_shown}
pub use Rattle.mark_table.specs.Order.{shared_mark, shared_marks, shown_mark, usable}
pub use Rattle.mark_table.specs.SharedMarks.{AreMarks, IsLeastFree, Mark, SharedMarks, first_number, gravity_of}
pub use Rattle.mark_table.specs.SharedMarks.{is_named, names_of, number_of, numbers_of, turned}
pub use Rattle.mark_table.specs.Walk.{IsAt, IsFirst, IsFirstAt, IsLast, IsLastAt, first_of, last_of, shared_at}
pub use Rattle.mark_table.specs.declared.order.MarkView.{MarkView}
pub use Rattle.mark_table.specs.declared.order.Origin.{Origin}
pub use Rattle.mark_table.specs.declared.order.Shown.{Shown}
pub use Rattle.name_list.proofs.ListLaws.{Contains-from_stands, Stands, before_removal, get_push_cases, get_remove}
pub use Rattle.name_list.proofs.ListLaws.{get_set, get_set_other, map-map, map-same, stands_from_Contains, stands_map}
pub use Rattle.name_list.proofs.ListLaws.{stood_at}
pub use Rattle.name_list.specs.Moves.{without}
pub use Rattle.name_list.specs.Names.{AreNames, Named, Names, place_of}
pub use Rattle.std.proofs.lemmas.Bool.{cases_Bool, cases_eq, cases_lt, false_from_ne_true, ltb-false, ltb-true}
pub use Rattle.std.proofs.lemmas.Bool.{true_from_ne_false}
pub use Rattle.std.proofs.lemmas.Bool.Decides.{nat_tests}
pub use Rattle.std.proofs.lemmas.List.{length-map, map_push}
pub use Rattle.std.proofs.lemmas.Option.{none-some, same_Some, slice_get-get_or, slice_get-map, slice_get_read}
pub use Rattle.std.proofs.lemmas.Option.{slice_get_within}
pub use Rattle.std.specs.List.{AllByRecursion, filter, fold, reduce}
pub use Rattle.std.specs.Option.{IsNone, MatchOption, SomeIff, option_map, option_map_or, option_to_list}
pub use Rattle.std.specs.Prelude.{IfSome, bytes_eq, chars, is_some, position, remove, string_bytes, unwrap_or}
pub use Rattle.text_model.specs.Content.{Marks}
pub use Rattle.text_model.specs.MarkOrder.{marks_at, next_mark, previous_mark}
pub use Rattle.text_model.specs.declared.places.Gravity.{Gravity}
pub use Rattle.text_model.specs.declared.places.Gravity.TheVariants.{Right}
pub use Rattle.text_model.specs.declared.places.MarkNo.{MarkNo}
pub use Rattle.text_model.specs.declared.places.Place.{Place}
