use Rattle.tcl_words.proofs.Common.{BeforeWord}
use Rattle.tcl_words.proofs.PlainWords.{found_plain}
use Rattle.tcl_words.proofs.plain_words.found_word.Goals as goal

pub returns-in-BeforeWord-eq123 : goal.returns-in-BeforeWord-eq123
returns-in-BeforeWord-eq123 c = rw c.in-BeforeWord-eq123.is-0
    (found_plain BeforeWord c.args.bytes.now c.braced_word.result c.braced_word.ensures)

pub returns-in_default : goal.returns-in_default
returns-in_default c = found_plain c.args.stage c.args.bytes.now c.bare_word.result c.bare_word.ensures
