-- The names that most proofs of this crate cite, passed on from one place. Declares nothing.
pub use Rattle.std.proofs.Common.{[], ap₂, true≢false, ℕ, ⊎_elim, ◌%◌, ◌&&◌, ◌*◌, ◌++◌, ◌+◌, ◌-◌, ◌/◌, ◌<◌, ◌==◌, ◌||◌}
pub use Rattle.std.proofs.Common.{◌∙◌, ◌∷◌, ◌≡◌, ◌≢◌, ◌≤◌, ◌⊎◌, Bool, Err, Fits, IfNone, IfOk, IfSome, IsCharBoundary}
pub use Rattle.std.proofs.Common.{IsUtf8, List, None, Ok, Option, Result, Some, String, add-one, add_assoc, ap}
pub use Rattle.std.proofs.Common.{append-nil, append_assoc, arith, chars, cond, drop, encode_utf8, encode_utf8_all}
pub use Rattle.std.proofs.Common.{false, get_or, inl, inr, is_some, length, length-append, length-drop, length-take}
pub use Rattle.std.proofs.Common.{ltb, map, not, one-add, refl, rules, slice_set, string_bytes, subst, suc, sym, take}
pub use Rattle.std.proofs.Common.{take-add, take-append-drop, true, vec_len, w8, zero}
pub use Rattle.std.proofs.Math.Seq.{drop-append_seam, take-length, take-suc-set}
pub use Rattle.std.proofs.lemmas.Bool.{agree_below, agree_below_at, cond-false, cond-true, ne_eqb, not-false, not-true}
pub use Rattle.std.proofs.lemmas.Bool.Decides.{leb_tells, nat_tests}
pub use Rattle.std.proofs.lemmas.List.{drop-drop, drop-take, drop_all, drop_more, get_or-drop, get_or_default}
pub use Rattle.std.proofs.lemmas.List.{length-map, length-set, length_push, map-append, map-set, take-map, take-take}
pub use Rattle.std.proofs.lemmas.List.{take_at, take_more, take_more_set, take_rest}
pub use Rattle.std.proofs.lemmas.Simd.{length-chunk, map-map, mask_l-lt, mask_l-mod, none_from_empty_mask}
pub use Rattle.std.proofs.lemmas.Simd.{run_in_chunk_fails, run_in_chunk_stops, splat_is_map, trailing_mask_l}
pub use Rattle.std.proofs.lemmas.Simd.{zip2_of_maps, zip2_splat}
pub use Rattle.std.proofs.lemmas.Str.{IsAscii-append, IsCharBoundary-after_ascii, IsCharBoundary-before_ascii}
pub use Rattle.std.proofs.lemmas.Str.{IsCharBoundary-end, IsCharBoundary-from_take, IsCharBoundary-past_char}
pub use Rattle.std.proofs.lemmas.Str.{IsUtf8-append, IsUtf8-drop, IsUtf8-encode, IsUtf8-from_ascii, IsUtf8-from_is_utf8}
pub use Rattle.std.proofs.lemmas.Str.{IsUtf8-nil, IsUtf8-string_bytes, IsUtf8-take, chars-IsAscii, chars-append}
pub use Rattle.std.proofs.lemmas.Str.{chars-nil, chars_from_encodes, chars_past_char, encode_ascii, encode_same}
pub use Rattle.std.proofs.lemmas.Str.{encodes-IsAscii, encodes-append, encodes-chars, inside_one, is_utf8-from_IsUtf8}
pub use Rattle.std.proofs.lemmas.Str.{len_utf8_bounds, length-encode, length-le-encodes}
pub use Rattle.std.specs.Bool.{⊤}
pub use Rattle.std.specs.Char.{IsScalar, digit_value, is_digit, len_utf8}
pub use Rattle.std.specs.Int.{is_in_range, w16}
pub use Rattle.std.specs.List.{All}
pub use Rattle.std.specs.Prelude.{if◌then◌else◌, ◌^◌, IsAscii, decimal, nat_lt, slice_range}
pub use Rattle.std.specs.Str.{IsValidUpTo, StartsWithNoChar, all_scalars, error_len, is_utf8, valid_up_to}
pub use Rattle.std.specs.Str.Lossy.{error_len_after_one, error_len_after_two, second_byte_max, second_byte_min}
pub use Rattle.std.specs.Str.Lossy.{utf8_error_len}
pub use Rattle.tcl_words.specs.Characters.{begins_name, begins_with, is_blank, is_end, is_expansion, is_joint}
pub use Rattle.tcl_words.specs.Characters.{names_variable}
pub use Rattle.tcl_words.specs.Encoding.{BeginsNoChar, BeginsOneChar, StopsAs}
pub use Rattle.tcl_words.specs.EscapeSteps.{base_of, before, escape_step, given, given_at, is_gap, is_letter}
pub use Rattle.tcl_words.specs.EscapeSteps.{last_given, limit_of, pair_gives, plain_step}
pub use Rattle.tcl_words.specs.Escapes.{Escape, Gives, NoCharacter, Undecided, escape, further, gap, hexadecimal, joins}
pub use Rattle.tcl_words.specs.Escapes.{letter_value, valued}
pub use Rattle.tcl_words.specs.ListGrowth.{Goes, pushed}
pub use Rattle.tcl_words.specs.ListSteps.{close_brace, element_by, last_element_by, last_list_step, list_after}
pub use Rattle.tcl_words.specs.ListSteps.{list_closes, list_keeps, list_passes, list_step, no_list, open_braces}
pub use Rattle.tcl_words.specs.ListSteps.{script_stage, step_at_element, step_in_braces, step_in_element, text_element}
pub use Rattle.tcl_words.specs.ListText.{AtElement, Closed, InElement, ReadsList, Spot, backslashed, balances}
pub use Rattle.tcl_words.specs.ListText.{begin_element, braced_element, close_element, element_rule, element_text}
pub use Rattle.tcl_words.specs.ListText.{end_element, escaped_element, has_special, is_special, is_white, kept_element}
pub use Rattle.tcl_words.specs.ListText.{less, list_rule, list_text, needs_quotes, onto_element, read_list}
pub use Rattle.tcl_words.specs.ListText.{space_behind, white_letter, with_backslashes}
pub use Rattle.tcl_words.specs.PlainWords.{EndsWord, IsClosed, IsFoundWord, IsPlainCommand, IsPlainWord, IsWordText}
pub use Rattle.tcl_words.specs.PlainWords.{is_quoted_from, is_quoted_text, scan_behind, spelled_by, spelled_from}
pub use Rattle.tcl_words.specs.PlainWords.{unquoted, unquoted_from, words_behind}
pub use Rattle.tcl_words.specs.Progression.{IsCommandOf, IsFound, IsNext, IsProgress, last_command, last_found}
pub use Rattle.tcl_words.specs.Progression.{starting_at, text_end}
pub use Rattle.tcl_words.specs.Runs.{AllOrdinary, IsRun, begins_command, begins_word, begun, is_bare, is_braced}
pub use Rattle.tcl_words.specs.Runs.{is_ordinary, is_plain, is_quoted}
pub use Rattle.tcl_words.specs.Scanning.{ended_before, given_bytes, given_onto, kept_bytes, kept_onto, later}
pub use Rattle.tcl_words.specs.Scanning.{onto_piece, pieces_from, prefixed, scan_next, scanned, word_after, word_with}
pub use Rattle.tcl_words.specs.Scanning.{words_after, words_next, words_on, written}
pub use Rattle.tcl_words.specs.ScriptGrammar.{AtCommand, AtWord, Behind, Breaks, Command, Continues, Ending, Ends}
pub use Rattle.tcl_words.specs.ScriptGrammar.{Fault, First, Follows, HoldsNoWhole, HoldsNothing, InBare, InBraces}
pub use Rattle.tcl_words.specs.ScriptGrammar.{InComment, InQuotes, IsCommandBefore, IsWholeCommand, MeetsFault, Nothing}
pub use Rattle.tcl_words.specs.ScriptGrammar.{Open, ReadsFront, ReadsScript, Where, at_end, at_stop, bare_rule}
pub use Rattle.tcl_words.specs.ScriptGrammar.{behind_rule, braced_rule, close_rule, command_rule, end_word, escaped}
pub use Rattle.tcl_words.specs.ScriptGrammar.{first, is_last, is_nil, kept_rule, onto_word, open_rule, quoted_rule}
pub use Rattle.tcl_words.specs.ScriptGrammar.{rule, text_rule, word_rule}
pub use Rattle.tcl_words.specs.Steps.{after, bare_step, behind_step, braced_step, close_step, closes, command_step}
pub use Rattle.tcl_words.specs.Steps.{depth_of, ends_here, fault_behind, inside_step, keeps, last_by, last_in_text}
pub use Rattle.tcl_words.specs.Steps.{last_step, no_output, opening_step, passes, quoted_step, refuses, step_by}
pub use Rattle.tcl_words.specs.Steps.{step_of, text_step, word_step}
pub use Rattle.tcl_words.specs.Unread.{HasFault, HasNoCommand, HasNoFault, IsNextCommand, TakesCommand, Unread}
pub use Rattle.tcl_words.specs.Unread.{texts_of}
pub use Rattle.tcl_words.specs.declared.escapes.EscapeStage.{EscapeStage}
pub use Rattle.tcl_words.specs.declared.escapes.EscapeStage.TheVariants.{Backslash, Digits, Gap, Letter}
pub use Rattle.tcl_words.specs.declared.escapes.EscapeStep.{EscapeStep}
pub use Rattle.tcl_words.specs.declared.escapes.Radix.{Radix}
pub use Rattle.tcl_words.specs.declared.escapes.Radix.TheVariants.{Hexadecimal, Octal}
pub use Rattle.tcl_words.specs.declared.fault.ScriptFault.{ScriptFault}
pub use Rattle.tcl_words.specs.declared.fault.ScriptFault.TheVariants.{BadCharacterCode, Memory, MissingQuote, NotUtf8}
pub use Rattle.tcl_words.specs.declared.fault.ScriptFault.TheVariants.{Substitution}
pub use Rattle.tcl_words.specs.declared.list_steps.ListNext.{ListNext}
pub use Rattle.tcl_words.specs.declared.list_steps.ListNext.TheVariants.{Bad}
pub use Rattle.tcl_words.specs.declared.list_steps.ListStage.{ListStage}
pub use Rattle.tcl_words.specs.declared.list_steps.ListStep.{ListStep}
pub use Rattle.tcl_words.specs.declared.plain_words.PlainWord.{PlainWord}
pub use Rattle.tcl_words.specs.declared.progress.Progress.{Progress}
pub use Rattle.tcl_words.specs.declared.scanner.Scan.{Scan}
pub use Rattle.tcl_words.specs.declared.scanner.Scan.TheVariants.{EndsAt, Reaches, Refused}
pub use Rattle.tcl_words.specs.declared.stage.Closing.{Closing}
pub use Rattle.tcl_words.specs.declared.stage.Closing.TheVariants.{Brace, Expansion, Quote}
pub use Rattle.tcl_words.specs.declared.stage.Next.{Next}
pub use Rattle.tcl_words.specs.declared.stage.Next.TheVariants.{End, Go, Refuse}
pub use Rattle.tcl_words.specs.declared.stage.Output.{Output}
pub use Rattle.tcl_words.specs.declared.stage.Stage.{Stage}
pub use Rattle.tcl_words.specs.declared.stage.Stage.TheVariants.{AfterOpening, BeforeCommand, BeforeWord, Braced}
pub use Rattle.tcl_words.specs.declared.stage.Stage.TheVariants.{Escaped, Text}
pub use Rattle.tcl_words.specs.declared.stage.Step.{Step}
pub use Rattle.tcl_words.specs.declared.stage.TextWord.{TextWord}
pub use Rattle.tcl_words.specs.declared.stage.TextWord.TheVariants.{Bare, Quoted}
