-- The names that most proofs of this crate cite, passed on from one place. Declares nothing.
pub use Rattle.std.proofs.Common.{[], ap₂, ℕ, ◌&&◌, ◌++◌, ◌+◌, ◌-◌, ◌<◌, ◌^◌, ◌∙◌, ◌∷◌, ◌≡◌, ◌≢◌, ◌≤◌, Bool, List, None}
pub use Rattle.std.proofs.Common.{Option, Some, add-one, ap, append_assoc, arith, chars, cond, drop, false, filter}
pub use Rattle.std.proofs.Common.{get_or, le-leb, length, map, refl, subst, suc, sym, take, take_all, to_z, true, w32}
pub use Rattle.std.proofs.Common.{zero}
pub use Rattle.command_table.specs.Entries.{EntryRule, SwitchRule, bad_switch, begins, dashed_words, ends_switches}
pub use Rattle.command_table.specs.Entries.{is_bad_option}
pub use Rattle.command_table.specs.Numbers.{add_digit, integer_of, number_of}
pub use Rattle.command_table.specs.Reading.{behind, decided, found, go_on, reading, subcommand, unknown}
pub use Rattle.command_table.specs.Spelled.{entry_rule, option_rule, spelled, switch_rule}
pub use Rattle.command_table.specs.Table.{IsPlaceOf, destroy_entry, find_in, table, text_entry}
pub use Rattle.command_table.specs.Words.{Word, is_among, is_character, is_dashed, is_same, lent, literal, texts_of}
pub use Rattle.command_table.specs.declared.entries.Entry.{Entry}
pub use Rattle.std.proofs.lemmas.Bool.{false≢true}
pub use Rattle.std.proofs.lemmas.Bool.Decides.{Decides-eqb, Decides-ltb, nat_tests, same_from_decides}
pub use Rattle.std.proofs.lemmas.List.{drop-map, drop_more, get_or-map, length-map, take_rest}
pub use Rattle.std.proofs.lemmas.Slice.Eq.{HasBytesAt, bytes_eq-Decides, starts_is, text_from_reads}
pub use Rattle.std.proofs.lemmas.Str.{char_from_byte, chars-IsAscii, chars-append, encode_ascii, encodes-IsAscii}
pub use Rattle.std.proofs.lemmas.Str.{encodes-append, encodes-chars}
pub use Rattle.std.specs.Char.{is_ascii_digit}
pub use Rattle.std.specs.List.{enumerate_from, find, list_all, list_any, starts_with, take-map}
pub use Rattle.std.specs.Prelude.{if◌then◌else◌, neg_ℤ, ℤ, ◌==◌, Err, IfSome, IsAscii, IsUtf8, String, bytes_eq, codes}
pub use Rattle.std.specs.Prelude.{encode_utf8, encode_utf8_all, fold, nat_eq, nat_le, nat_lt, option_map, pos}
pub use Rattle.std.specs.Prelude.{slice_index, string_bytes}
