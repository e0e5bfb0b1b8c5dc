use Rattle.tcl_words.proofs.Common.{◌+◌, ◌∙◌, ap, refl, arith, get_or, balances}
use Rattle.tcl_words.proofs.ListForms.{balance_backslash, balance_opens, balance_low, balance_closes, balance_ends}
use Rattle.tcl_words.proofs.ElementBytes.{balances_of, run_balances, behind_run}
use Rattle.tcl_words.proofs.list_writing.balances.Goals as goal

pub returns-then-index-bytes : goal.returns-then-index-bytes
returns-then-index-bytes c =
    balance_ends c.as_bytes-bytes.result.now (c.loop-index.index + c.braced_run-index.result) c.loop-index.depth
    (omega arith) (run_balances c.as_bytes-bytes.result.now c.loop-index.index c.braced_run-index.result
    c.loop-index.depth c.braced_run-index.ensures.within c.braced_run-index.ensures.plain
    c.loop-index.invariant.balanced)
    ∙ ap (λ l. balances l 0) c.as_bytes-bytes.ensures.value ∙ balances_of c.args.element.now 0 c.utf8.element

pub returns-then-byte-eq92 : goal.returns-then-byte-eq92
returns-then-byte-eq92 c =
    let bytes = c.as_bytes-bytes.result.now in
    let stop = c.loop-index.index + c.braced_run-index.result in
    let at = behind_run bytes c.loop-index.index c.braced_run-index.result c.loop-index.depth
    c.braced_run-index.ensures.within c.braced_run-index.ensures.plain c.loop-index.invariant.balanced
    c.loop-index.invariant.within c.if-index-bytes.false c.braced_run-index.ensures.longest in
    balance_backslash bytes stop (get_or bytes stop 0) c.loop-index.depth at.here at.balanced c.if-byte-eq92.true
    ∙ ap (λ l. balances l 0) c.as_bytes-bytes.ensures.value ∙ balances_of c.args.element.now 0 c.utf8.element

pub loop-index-preserved-then-byte-eq123 : goal.loop-index-preserved-then-byte-eq123
loop-index-preserved-then-byte-eq123 c =
    let bytes = c.as_bytes-bytes.result.now in
    let stop = c.loop-index.index + c.braced_run-index.result in
    let at = behind_run bytes c.loop-index.index c.braced_run-index.result c.loop-index.depth
    c.braced_run-index.ensures.within c.braced_run-index.ensures.plain c.loop-index.invariant.balanced
    c.loop-index.invariant.within c.if-index-bytes.false c.braced_run-index.ensures.longest in
    let low = c.loop-index.invariant.low in
    record {
      within = omega arith;
      balanced = balance_opens bytes stop (get_or bytes stop 0) c.loop-index.depth at.here at.balanced
          c.if-byte-eq123.true refl;
      low = omega arith;
    }

pub returns-then-depth-eq0 : goal.returns-then-depth-eq0
returns-then-depth-eq0 c =
    let bytes = c.as_bytes-bytes.result.now in
    let stop = c.loop-index.index + c.braced_run-index.result in
    let at = behind_run bytes c.loop-index.index c.braced_run-index.result c.loop-index.depth
    c.braced_run-index.ensures.within c.braced_run-index.ensures.plain c.loop-index.invariant.balanced
    c.loop-index.invariant.within c.if-index-bytes.false c.braced_run-index.ensures.longest in
    balance_low bytes stop (get_or bytes stop 0) c.loop-index.depth at.here at.balanced
    (at.closes c.if-byte-eq92.false c.if-byte-eq123.false) c.if-depth-eq0.true
    ∙ ap (λ l. balances l 0) c.as_bytes-bytes.ensures.value ∙ balances_of c.args.element.now 0 c.utf8.element

pub loop-index-preserved : goal.loop-index-preserved
loop-index-preserved c =
    let bytes = c.as_bytes-bytes.result.now in
    let stop = c.loop-index.index + c.braced_run-index.result in
    let at = behind_run bytes c.loop-index.index c.braced_run-index.result c.loop-index.depth
    c.braced_run-index.ensures.within c.braced_run-index.ensures.plain c.loop-index.invariant.balanced
    c.loop-index.invariant.within c.if-index-bytes.false c.braced_run-index.ensures.longest in
    let low = c.loop-index.invariant.low in
    record {
      within = omega arith;
      balanced = balance_closes bytes stop (get_or bytes stop 0) c.loop-index.depth at.here at.balanced
          (at.closes c.if-byte-eq92.false c.if-byte-eq123.false) c.if-depth-eq0.false refl;
      low = omega arith;
    }

pub returns : goal.returns
returns c =
    balance_ends c.as_bytes-bytes.result.now c.loop-index.index c.loop-index.depth c.loop-index-test.false
    c.loop-index.invariant.balanced
    ∙ ap (λ l. balances l 0) c.as_bytes-bytes.ensures.value ∙ balances_of c.args.element.now 0 c.utf8.element
