use Rattle.tcl_words.proofs.Common.{arith, IsUtf8-nil}
use Rattle.tcl_words.proofs.Splitting.{starts}
use Rattle.tcl_words.proofs.splitter.Splitter.new.Goals as goal

pub invariant_of-result : goal.invariant_of-result
invariant_of-result c =
    (omega arith, (λ e. cc), rw (c.new.ensures.items, c.starting.ensures) (starts _ 0 (omega arith) IsUtf8-nil))
