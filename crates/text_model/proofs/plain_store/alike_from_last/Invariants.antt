use Rattle.text_model.proofs.Common.{◌≡◌, ◌+◌, ◌≤◌, length, take, suffix_len, is_alike, flags}
use Rattle.text_model.proofs.plain_store.alike_from_last.Given as goal

abbrev pub invariant-loop-start : goal.invariant-loop-start
invariant-loop-start l = record {
  within : l.start ≤ length l.cells;
  rest : l.start + suffix_len (is_alike l.is_on) (flags l.slot.0 l.cells)
      ≡ length l.cells + suffix_len (is_alike l.is_on) (take l.start (flags l.slot.0 l.cells));
}

abbrev pub decreases-loop-start : goal.decreases-loop-start
decreases-loop-start l = l.start
