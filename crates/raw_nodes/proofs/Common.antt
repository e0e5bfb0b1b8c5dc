-- The names that most proofs of this crate cite, passed on from one place. Declares nothing.
pub use Rattle.std.proofs.Common.{[], ap₂, ℕ, ◌++◌, ◌+◌, ◌-◌, ◌<◌, ◌^◌, ◌∙◌, ◌∷◌, ◌≡◌, ◌≤◌, ◌⊎◌, Bool, List, None}
pub use Rattle.std.proofs.Common.{Option, Some, ap, arith, cond, drop, false, get_or, inl, inr, is_some, length}
pub use Rattle.std.proofs.Common.{length-append, map, max, min, refl, replicate, set, subst, suc, sym, true, zero}
pub use Rattle.raw_nodes.specs.Cells.{AreApart, IsPlace, NotIn, ats, name_cmp, node_at, node_owns, node_right}
pub use Rattle.raw_nodes.specs.Cells.{nodes_lent, nodes_own, number_in, put_at, without}
pub use Rattle.raw_nodes.specs.Chain.{IsChain, after_of, afters_of, before_of, befores_of, behind, content_of}
pub use Rattle.raw_nodes.specs.Chain.{contents_of, flag_of, if_free, if_spare, last_left, mark_of, marks_of, next_of}
pub use Rattle.raw_nodes.specs.Chain.{nexts_of, room_in, room_of}
pub use Rattle.raw_nodes.specs.HeldLending.{IsLine, IsRoom}
pub use Rattle.raw_nodes.specs.Links.{link_name, name_at}
pub use Rattle.raw_nodes.specs.Names.{IsName, entry, records, rooms, spares}
pub use Rattle.raw_nodes.specs.Records.{Record, Records, blank, cell_of, cells_of, if_used, inner_record, is_used}
pub use Rattle.raw_nodes.specs.Records.{line_in, nones, record_in, record_of, records_in, records_of, slot_in, update}
pub use Rattle.raw_nodes.specs.Records.{updated, with_child, with_line, with_parent, with_slot, with_sum}
pub use Rattle.raw_nodes.specs.Rooms.{branch_sum}
pub use Rattle.raw_nodes.specs.declared.names.Link.{Link}
pub use Rattle.raw_nodes.specs.declared.names.NodePtr.{NodePtr}
pub use Rattle.raw_nodes.specs.declared.nodes.Held.{Held}
pub use Rattle.raw_nodes.specs.declared.nodes.Held.TheVariants.{Inner, Line, Spare}
pub use Rattle.raw_nodes.specs.declared.nodes.Node.{Node}
pub use Rattle.raw_nodes.specs.declared.nodes.Room.{Room}
pub use Rattle.std.proofs.BoxSteps.Form.{τ, B, Bx, D, P, R, args, box_ty, box_typed, word}
pub use Rattle.std.proofs.BoxSteps.Steps.{box_in, box_out, el_room}
pub use Rattle.std.proofs.alloc.Calls.{Goes-blank, handle_tells, token}
pub use Rattle.std.proofs.lemmas.Bool.Decides.{eqb_tells, nat_tests}
pub use Rattle.std.proofs.lemmas.List.{get_or-map, get_or-set_other, get_or-set_same, get_or_append_left, length-map}
pub use Rattle.std.proofs.lemmas.List.{length-replicate, map-append, map-set, set-append_left, set-get_or}
pub use Rattle.std.proofs.lemmas.List.Sums.{sum-map, sum_by-cons, sum_by-set, sum_by_push}
pub use Rattle.std.proofs.raw_atomic.Walks.{leaves, proved_at}
pub use Rattle.std.specs.Box.Ownership.{box_owns}
pub use Rattle.std.specs.FinMap.{IsAntisymmetric, empty, empty_of_len, get, get-empty, get-insert, get-remove, insert}
pub use Rattle.std.specs.FinMap.{len, len-insert, len-remove, nat_cmp-IsAntisymmetric, remove, same_map}
pub use Rattle.std.specs.List.{filter_map, sum, sum_by}
pub use Rattle.std.specs.Ordering.{eq_by_cmp, is_eq}
pub use Rattle.std.specs.Prelude.{◌≢◌, IfSome, IsSome, count_by, option_map, slice_get, unwrap_or, vec_capacity}
pub use Rattle.toggle_sums.specs.Counts.{CanExchange, Count, CountsFit, HasCounts, IsBare, counting, exchanged, less}
pub use Rattle.toggle_sums.specs.Counts.{plus}
