use Rattle.tcl_words.proofs.Common.{◌≡◌, ◌+◌, ◌∙◌, sym, ap, arith, true, take, drop, take_rest, scanned, later}
use Rattle.tcl_words.proofs.Common.{pair_gives, is_quoted_text, Text, Quoted}
use Rattle.tcl_words.proofs.Pairs.{scan_pair, scan_plain}
use Rattle.tcl_words.proofs.QuotedTexts.{front_pair, front_run}
use Rattle.tcl_words.proofs.quoted.quoted_front.Goals.{After-quoted_run-index}
use Rattle.tcl_words.proofs.quoted.quoted_front.Goals as goal

ran : (c : After-quoted_run-index) → let run = c.loop-index.index + c.quoted_run-index.result in
    (scanned c.args.bytes.now (Text Quoted) ≡ later run (scanned (drop run c.args.bytes.now) (Text Quoted)))
    × (is_quoted_text (take run c.args.bytes.now) ≡ true)
ran c =
    let rest = take_rest c.args.bytes.now c.loop-index.index in
    let run = c.quoted_run-index.ensures in (
      scan_plain c.args.bytes.now _ c.loop-index.index c.quoted_run-index.result (Text Quoted) rest run.within run.plain
          c.loop-index.invariant.scans,
      front_run c.args.bytes.now _ c.loop-index.index c.quoted_run-index.result rest c.loop-index.invariant.front
          run.plain,
    )

pub returns-then-index-bytes-clause-scans : goal.returns-then-index-bytes-clause-scans
returns-then-index-bytes-clause-scans c =
    (ran (goal.at.returns-then-index-bytes-clause-scans c).After-quoted_run-index).0

pub returns-then-index-bytes-clause-front : goal.returns-then-index-bytes-clause-front
returns-then-index-bytes-clause-front c =
    (ran (goal.at.returns-then-index-bytes-clause-front c).After-quoted_run-index).1

pub returns-in_default-clause-scans : goal.returns-in_default-clause-scans
returns-in_default-clause-scans c = (ran (goal.at.returns-in_default-clause-scans c).After-quoted_run-index).0

pub returns-in_default-clause-front : goal.returns-in_default-clause-front
returns-in_default-clause-front c = (ran (goal.at.returns-in_default-clause-front c).After-quoted_run-index).1

pub loop-index-preserved : goal.loop-index-preserved
loop-index-preserved c =
    let index = c.loop-index.index + c.quoted_run-index.result in
    let less = c.if-index-bytes.false in
    let before = ran (goal.at.loop-index-preserved c).After-quoted_run-index in
    let gives = ap pair_gives (sym c.from.ensures) ∙ sym c.pair_gives.ensures ∙ c.in-Some.is in
    record {
      within = omega arith;
      scans = scan_pair c.args.bytes.now index _ (omega arith) c.if-bytes-index-ne92.false gives before.0;
      front = front_pair c.args.bytes.now index _ (omega arith) c.if-bytes-index-ne92.false gives before.1;
    }
