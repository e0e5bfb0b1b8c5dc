use Rattle.text_model.proofs.Common.{◌≡◌, ◌+◌, drop, prefix_len, is_alike, flags}
use Rattle.text_model.proofs.plain_store.alike_from_first.Given as goal

abbrev pub invariant-loop-count : goal.invariant-loop-count
invariant-loop-count l =
    prefix_len (is_alike l.is_on) (flags l.slot.0 l.cells)
    ≡ l.count + prefix_len (is_alike l.is_on) (drop l.count (flags l.slot.0 l.cells))
