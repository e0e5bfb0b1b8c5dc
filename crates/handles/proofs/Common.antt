-- The names that most proofs of this crate cite, passed on from one place. Declares nothing.
pub use Rattle.std.proofs.Common.{[], true≢false, ℕ, ◌++◌, ◌+◌, ◌<◌, ◌∙◌, ◌∷◌, ◌≡◌, ◌≢◌, ◌≤◌, Bool, Err, IsSome, IsUtf8}
pub use Rattle.std.proofs.Common.{List, None, Option, Some, String, add-one, ap, append_assoc, arith, chars, drop}
pub use Rattle.std.proofs.Common.{false, get_or, length, min, option_map, refl, rules, string_bytes, subst, suc, sym}
pub use Rattle.std.proofs.Common.{take, true, zero}
pub use Rattle.core.proofs.alloc.Calls.{Al, Goes-blank, handle_tells}
pub use Rattle.core.proofs.atomic.Steps.{Ptr-Good, fm}
pub use Rattle.core.proofs.cell.Inside.{Good}
pub use Rattle.handles.specs.Calls.{Called, Calls, Fed, Feeds, Gives, Takes, Turns, status_after}
pub use Rattle.handles.specs.Held.{frees, held_value}
pub use Rattle.handles.specs.Room.{Copied, over}
pub use Rattle.handles.specs.State.{State, memory_said, said_text, state_of}
pub use Rattle.handles.specs.Told.{CalledTold, CallsTold, GivesTold, IsTold, TakesTold, TurnsTold, bytes_of, has_lost}
pub use Rattle.handles.specs.Told.{mark_concerns, mark_name, mark_place_in, mark_told, mark_widget, owner_told}
pub use Rattle.handles.specs.Told.{place_of, span_in, spot_in, tag_name, tag_told, tag_widget, text_told, untold}
pub use Rattle.handles.specs.Told.{widget_by, widget_told, word_given}
pub use Rattle.handles.specs.Words.{AreLengths, AreTexts, cut, total, words_at}
pub use Rattle.handles.specs.declared.ends.CallEnd.{CallEnd}
pub use Rattle.handles.specs.declared.ends.Given.{Given}
pub use Rattle.handles.specs.declared.ends.TurnEnd.{TurnEnd}
pub use Rattle.handles.specs.declared.session.Session.{Session}
pub use Rattle.std.proofs.lemmas.List.{append-nil, drop_all, drop_more, length-append, length-drop, length-map, map-set}
pub use Rattle.std.proofs.lemmas.List.{nil_from_length, take-append-drop, take-map}
pub use Rattle.std.proofs.lemmas.Str.{IsCharBoundary-from_take, IsUtf8-append, IsUtf8-drop, IsUtf8-take, encode_ascii}
pub use Rattle.std.proofs.lemmas.Str.{encodes-append, encodes-chars}
pub use Rattle.std.proofs.raw_atomic.Walks.{leaves, proved_at}
pub use Rattle.std.specs.Prelude.{if◌then◌else◌, MatchResult, Ok, Result, encode_utf8_all, is_err, slice_get, slice_set}
pub use Rattle.std.specs.Prelude.{vec_len}
pub use Rattle.std_alloc.proofs.BoxSteps.Steps.{box_in, box_out}
pub use Rattle.std_alloc.proofs.ResultValues.{and_tt}
pub use Rattle.std_alloc.specs.Box.Ownership.{box_owns}
pub use Rattle.tcl_words.specs.Unread.{HasNoCommand, StopsAt, TakesCommand, Unread, texts_of}
