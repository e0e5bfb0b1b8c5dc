use Rattle.tcl_words.proofs.Common.{◌+◌, ◌≤◌, IsUtf8, map, length, chars, string_bytes, open_braces}
use Rattle.tcl_words.proofs.ListWriting.{IsReading}
use Rattle.tcl_words.proofs.lists.split_list.Given as goal

abbrev pub invariant-loop-rest : goal.invariant-loop-rest
invariant-loop-rest l = record {
  utf8 : IsUtf8 l.rest;
  reading : IsReading (chars l.text) (chars l.rest) l.stage (map (λ word. string_bytes word) l.writer.words.items)
      (string_bytes l.writer.word);
  depth : open_braces l.stage + length l.rest ≤ length l.text;
}

abbrev pub decreases-loop-rest : goal.decreases-loop-rest
decreases-loop-rest l = length l.rest
