use Rattle.handles.proofs.Common.{drop, IsUtf8}
use Rattle.handles.proofs.WordLaws.{Cutting}
use Rattle.handles.proofs.words.fault_of.Given as goal

abbrev pub invariant-loop-length : goal.invariant-loop-length
invariant-loop-length l = (IsUtf8 l.rest → IsUtf8 l.bytes)
    × Cutting l.lengths l.bytes (drop l.length-index l.lengths) l.rest
