use Rattle.tcl_words.proofs.Common.{valid_up_to, error_len}
use Rattle.tcl_words.proofs.Readings.{after_cut, after_fault}
use Rattle.tcl_words.proofs.encoding.text_front.Goals as goal

pub returns-then-is_some-clause-stop : goal.returns-then-is_some-clause-stop
returns-then-is_some-clause-stop c =
    rw c.valid_up_to.ensures (after_fault c.args.bytes.now (valid_up_to c.in-Err.error) (error_len c.in-Err.error)
    c.in-Err.ensures.cases.1 c.in-Err.ensures.fault cc)

pub returns-else-is_some-clause-stop : goal.returns-else-is_some-clause-stop
returns-else-is_some-clause-stop c =
    rw c.valid_up_to.ensures (after_cut c.args.bytes.now (valid_up_to c.in-Err.error) (error_len c.in-Err.error)
    c.in-Err.ensures.cases.1 c.in-Err.ensures.fault cc)
