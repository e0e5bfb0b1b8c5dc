use Rattle.tcl_words.proofs.Common.{◌≡◌, ◌+◌, ◌-◌, ◌≤◌, length, drop, scanned, later, depth_of}
use Rattle.tcl_words.proofs.scanner.scan_bytes.Given as goal

abbrev pub invariant-loop-index : goal.invariant-loop-index
invariant-loop-index l = record {
  scans : scanned l.bytes l.fn.from ≡ later l.index (scanned (drop l.index l.bytes) l.stage);
  depth : depth_of l.stage ≤ depth_of l.fn.from + l.index;
  within : l.index ≤ length l.bytes;
}

abbrev pub decreases-loop-index : goal.decreases-loop-index
decreases-loop-index l = length l.bytes - l.index
