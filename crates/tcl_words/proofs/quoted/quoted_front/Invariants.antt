use Rattle.tcl_words.proofs.Common.{◌≡◌, ◌-◌, ◌≤◌, true, length, take, drop, scanned, later, is_quoted_text, Text}
use Rattle.tcl_words.proofs.Common.{Quoted}
use Rattle.tcl_words.proofs.quoted.quoted_front.Given as goal

abbrev pub invariant-loop-index : goal.invariant-loop-index
invariant-loop-index l = record {
  within : l.index ≤ length l.bytes;
  scans : scanned l.bytes (Text Quoted) ≡ later l.index (scanned (drop l.index l.bytes) (Text Quoted));
  front : is_quoted_text (take l.index l.bytes) ≡ true;
}

abbrev pub decreases-loop-index : goal.decreases-loop-index
decreases-loop-index l = length l.bytes - l.index
