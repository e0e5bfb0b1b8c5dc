use Rattle.tcl_words.proofs.Common.{arith}
use Rattle.tcl_words.proofs.PlainWords.{bare_found}
use Rattle.tcl_words.proofs.plain_words.bare_word.Goals as goal

pub returns : goal.returns
returns c =
    let n = c.bare_run-run.result in
    let some = c.if-run-eq0.false in
    let within = c.if-run-bytes.false in
    bare_found c.args.stage c.args.bytes.now n _ (c.opens_bare.ensures c.if-not-opens_bare.false) (omega arith)
    (omega arith) c.bare_run-run.ensures.plain c.in_ok-is_last.ensures.ends
