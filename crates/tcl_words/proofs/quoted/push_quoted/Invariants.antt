use Rattle.tcl_words.proofs.Common.{◌≡◌, ◌≤◌, ◌++◌, true, IsUtf8, length, string_bytes, words_on, Text, Quoted}
use Rattle.tcl_words.proofs.Common.{is_quoted_text, unquoted}
use Rattle.tcl_words.proofs.quoted.push_quoted.Given as goal

abbrev pub invariant-loop-bytes : goal.invariant-loop-bytes
invariant-loop-bytes l = record {
  utf8 : IsUtf8 l.rest;
  word : words_on (string_bytes l.fn.word) l.text (Text Quoted) ≡ words_on (string_bytes l.word) l.rest (Text Quoted);
  all : is_quoted_text l.text ≡ true → (is_quoted_text l.rest ≡ true)
      × (string_bytes l.word ++ unquoted l.rest ≡ string_bytes l.fn.word ++ unquoted l.text);
  shorter : length l.rest ≤ length l.text;
}

abbrev pub decreases-loop-bytes : goal.decreases-loop-bytes
decreases-loop-bytes l = length l.rest
