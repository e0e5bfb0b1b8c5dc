use Rattle.tcl_words.proofs.Common.{◌+◌, ◌≤◌, IsUtf8, map, length, chars, string_bytes, depth_of}
use Rattle.tcl_words.proofs.Writing.{IsWritten}
use Rattle.tcl_words.proofs.pieces.words_of.Given as goal

abbrev pub invariant-loop-rest : goal.invariant-loop-rest
invariant-loop-rest l = record {
  utf8 : IsUtf8 l.rest;
  written : IsWritten (chars l.text) (chars l.rest) l.stage (map (λ word. string_bytes word) l.writer.words.items)
      (string_bytes l.writer.word);
  depth : depth_of l.stage + length l.rest ≤ length l.text;
}

abbrev pub decreases-loop-rest : goal.decreases-loop-rest
decreases-loop-rest l = length l.rest
