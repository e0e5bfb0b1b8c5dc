use Rattle.tcl_words.proofs.Common.{◌≡◌, drop, has_special}
use Rattle.tcl_words.proofs.list_writing.has_special.Given as goal

abbrev pub invariant-loop-byte : goal.invariant-loop-byte
invariant-loop-byte l = has_special (drop l.byte-index l.bytes) ≡ has_special l.bytes
