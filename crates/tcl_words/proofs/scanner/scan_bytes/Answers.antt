use Rattle.tcl_words.proofs.Common.{◌+◌, sym, ap, ◌∙◌, arith, drop, length-drop, take_rest, scanned, later}
use Rattle.tcl_words.proofs.Spelling.{later-later}
use Rattle.tcl_words.proofs.Scans.{scan_by, scan_over, depth_on}
use Rattle.tcl_words.proofs.Plain.{scan_skips}
use Rattle.tcl_words.proofs.scanner.scan_bytes.Goals as goal

pub loop-index-preserved-then-run-gt0 : goal.loop-index-preserved-then-run-gt0
loop-index-preserved-then-run-gt0 c =
    let bytes = c.args.bytes.now in
    let index = c.loop-index.index in
    let run = c.plain_run-run.result in
    let skips = scan_skips bytes _ index run c.loop-index.stage (take_rest bytes index) c.plain_run-run.ensures.within
    c.plain_run-run.ensures.plain in
    let long = skips.1 in
    let depth = c.loop-index.invariant.depth in
    let within = c.loop-index.invariant.within in
    record {
      scans = c.loop-index.invariant.scans ∙ ap (later index) skips.0
          ∙ later-later index run (scanned (drop (index + run) bytes) c.loop-index.stage);
      depth = omega arith;
      within = omega (arith, length-drop index bytes);
    }

pub returns-in-End : goal.returns-in-End
returns-in-End c =
    sym (c.loop-index.invariant.scans ∙ ap (later c.loop-index.index)
    (scan_by c.args.bytes.now c.loop-index.index c.loop-index.stage _ _ _ c.loop-index-test.true c.in-End.is
    c.step_from.ensures c.from.ensures))

pub returns-in-Refuse : goal.returns-in-Refuse
returns-in-Refuse c =
    sym (c.loop-index.invariant.scans ∙ ap (later c.loop-index.index)
    (scan_by c.args.bytes.now c.loop-index.index c.loop-index.stage _ _ _ c.loop-index-test.true c.in-Refuse.is
    c.step_from.ensures c.from.ensures))

pub loop-index-preserved : goal.loop-index-preserved
loop-index-preserved c =
    let deeper = depth_on c.loop-index.stage c.in-Go.next _ _ c.in-Go.is c.step_from.ensures in
    let depth = c.loop-index.invariant.depth in
    let less = c.loop-index-test.true in
    record {
      scans = c.loop-index.invariant.scans
          ∙ ap (later c.loop-index.index) (scan_by c.args.bytes.now c.loop-index.index c.loop-index.stage _ _ _
          c.loop-index-test.true c.in-Go.is c.step_from.ensures c.from.ensures)
          ∙ later-later c.loop-index.index 1 (scanned (drop (c.loop-index.index + 1) c.args.bytes.now) c.in-Go.next);
      depth = omega arith;
      within = omega arith;
    }

pub returns : goal.returns
returns c =
    sym (c.loop-index.invariant.scans ∙ ap (later c.loop-index.index)
    (scan_over c.args.bytes.now c.loop-index.index c.loop-index.stage c.loop-index-test.false))
