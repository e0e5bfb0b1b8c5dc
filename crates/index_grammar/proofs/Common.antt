-- The names that most proofs of this crate cite, passed on from one place. Declares nothing.
pub use Rattle.std.proofs.Common.{[], if◌then◌else◌, ℕ, ◌&&◌, ◌*◌, ◌++◌, ◌+◌, ◌-◌, ◌<◌, ◌==◌, ◌||◌, ◌∙◌, ◌∷◌, ◌≡◌, ◌≢◌}
pub use Rattle.std.proofs.Common.{◌≤◌, Bool, List, None, Option, Some, ap, append_assoc, arith, cond, drop, false}
pub use Rattle.std.proofs.Common.{get_or, length, length-drop, map, min, not, refl, suc, sym, take, true, zero}
pub use Rattle.index_grammar.specs.Characters.{closes, is_blank, is_break, is_sign}
pub use Rattle.index_grammar.specs.Fronts.{IsBound, named, names_in}
pub use Rattle.index_grammar.specs.Grammar.{Token, WholeIndex, abbreviates, add_digit, around_dot, base_of, before}
pub use Rattle.index_grammar.specs.Grammar.{by_count, closed_front, counted, first_tagged, in_line, index_of}
pub use Rattle.index_grammar.specs.Grammar.{keyword_of, last_tagged, longest, longest_front, marked, modifiers_of}
pub use Rattle.index_grammar.specs.Grammar.{number_of, of_length, parts_of, place_base, place_of, run_tokens}
pub use Rattle.index_grammar.specs.Grammar.{saturated_base, saturated_modifier, tagged, tokens_from, tokens_of, unit_of}
pub use Rattle.index_grammar.specs.Grammar.{without_last}
pub use Rattle.index_grammar.specs.Grammar.Token.{Digits, Sign, Word}
pub use Rattle.index_grammar.specs.LentTokens.{before_rest, digits_first, front_digits, token_of, unit_first}
pub use Rattle.index_grammar.specs.Names.{known_marks, known_tags}
pub use Rattle.index_grammar.specs.Reading.{IsClosed, closed_of, found_of, is_dot, read_of, with_rest}
pub use Rattle.index_grammar.specs.Steps.{after, left, saturated, saturated_index, stepped}
pub use Rattle.index_grammar.specs.declared.indices.Base.{Base}
pub use Rattle.index_grammar.specs.declared.indices.Modifier.{Modifier}
pub use Rattle.mark_table.specs.SharedMarks.{Mark}
pub use Rattle.std.proofs.lemmas.Bool.{false≢true}
pub use Rattle.std.proofs.lemmas.Bool.Decides.{Decides-eqb, Decides-ltb, nat_tests, same_from_decides}
pub use Rattle.std.proofs.lemmas.List.{append-nil, drop_more, get_or-drop, get_or-take, length-append, length-take}
pub use Rattle.std.proofs.lemmas.List.{take-append-drop, take-take}
pub use Rattle.std.proofs.lemmas.List.Folds.{list_all-append}
pub use Rattle.std.proofs.lemmas.List.Sums.{prefix_len-le-length}
pub use Rattle.std.proofs.lemmas.Slice.Eq.{bytes_eq-Decides, ends_is, starts_is, strip_prefix_is}
pub use Rattle.std.proofs.lemmas.Str.{IsCharBoundary-after_ascii, IsCharBoundary-before_ascii, IsUtf8-drop}
pub use Rattle.std.proofs.lemmas.Str.{IsUtf8-from_ascii, IsUtf8-take, chars-IsAscii, chars-append, chars-nil}
pub use Rattle.std.proofs.lemmas.Str.{encode_ascii, encodes-IsAscii, encodes-append, encodes-chars}
pub use Rattle.std.specs.Borrow.{Bor}
pub use Rattle.std.specs.Char.{is_ascii_digit}
pub use Rattle.std.specs.List.{ends_with, list_all, prefix_len, starts_with}
pub use Rattle.std.specs.Prelude.{IfSome, IsAscii, IsCharBoundary, IsUtf8, MatchOption, bytes_eq, chars, codes}
pub use Rattle.std.specs.Prelude.{encode_utf8_all, find, fold, nat_eq, nat_le, nat_lt, option_and_then, option_map}
pub use Rattle.std.specs.Prelude.{position, slice_get, slice_index, slice_range}
