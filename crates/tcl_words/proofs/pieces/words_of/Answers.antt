use Rattle.tcl_words.proofs.Common.{◌++◌, ◌∙◌, chars, string_bytes, sym, ap, subst, arith, IsUtf8, IsUtf8-drop}
use Rattle.tcl_words.proofs.Scans.{depth_on}
use Rattle.tcl_words.proofs.Plain.{run_at, front_range, char_boundary, after_char, none_left}
use Rattle.tcl_words.proofs.Writing.{writing_same, writing_runs, writing_goes, writing_stops, writing_ends, is_last}
use Rattle.tcl_words.proofs.Pairs.{writing_kept}
use Rattle.tcl_words.proofs.pieces.words_of.Goals as goal

pub loop-rest-preserved-then-run-gt0 : goal.loop-rest-preserved-then-run-gt0
loop-rest-preserved-then-run-gt0 c =
    let rest = c.loop-rest.rest.now in
    let n = c.plain_run-run.result in
    let bytes = c.as_bytes-bytes.ensures.value in
    let run = run_at c.loop-rest.stage rest _ n bytes c.loop-rest.invariant.utf8 c.if-run-gt0.true
    c.plain_run-run.ensures.within c.plain_run-run.ensures.plain c.plain_run-run.ensures.end in
    let after = c.range_from-rest.ensures.value in
    let depth = c.loop-rest.invariant.depth in
    let within = c.plain_run-run.ensures.within in
    let positive = c.if-run-gt0.true in
    let long = c.range_from-rest.ensures.len in
    record {
      utf8 = subst IsUtf8 (sym after) (IsUtf8-drop rest n c.loop-rest.invariant.utf8 run.0);
      written = rw after (writing_same (writing_runs c.loop-rest.invariant.written run.1
          (c.in_ok-keep.ensures.word ∙ ap (λ l. string_bytes c.loop-rest.writer.word ++ l)
          (c.range.ensures.value ∙ front_range n rest)))
          c.keep.ensures.words);
      depth = omega arith;
    }

pub returns-in-End : goal.returns-in-End
returns-in-End c =
    writing_stops c.loop-rest.invariant.written c.first_char-c.ensures.2 c.step_from-step.ensures
    c.in_ok-write.ensures.words c.in_ok-write.ensures.word (is_last c.step_from-step.result.next c.in-End.is)

pub range_from-requires : goal.range_from-requires
range_from-requires c =
    λ h. char_boundary c.loop-rest.rest.now c.first_char-c.ensures.0 c.first_char-c.result c.len_utf8.result
    c.loop-rest.invariant.utf8 c.first_char-c.ensures.1 c.len_utf8.ensures.value

pub loop-rest-preserved : goal.loop-rest-preserved
loop-rest-preserved c =
    let rest = c.loop-rest.rest.now in
    let n = c.len_utf8.result in
    let after = c.range_from.ensures.value in
    let behind = after ∙ after_char rest c.first_char-c.ensures.0 c.first_char-c.result n c.first_char-c.ensures.1
    c.len_utf8.ensures.len in
    let deeper = depth_on c.loop-rest.stage c.in-Go.next _ _ c.in-Go.is c.step_from-step.ensures in
    let depth = c.loop-rest.invariant.depth in
    let long = c.range_from.ensures.len in
    let some = c.len_utf8.ensures.lower_bound in
    let shorter = c.in_ok-rest.ensures.shorter in
    record {
      utf8 = c.in_ok-rest.ensures.utf8;
      written = writing_kept (chars c.args.text.now) c.range_from.result.now _ c.in-Go.next _ _ _ _
          (rw behind (writing_goes c.loop-rest.invariant.written c.first_char-c.ensures.2 c.step_from-step.ensures
          c.in_ok-write.ensures.words c.in_ok-write.ensures.word c.in-Go.is))
          c.keep_front.ensures.words c.in_ok-rest.ensures.word;
      depth = omega arith;
    }

pub returns : goal.returns
returns c =
    writing_ends c.loop-rest.rest.now c.loop-rest.invariant.written
    (none_left c.loop-rest.rest.now c.is_empty.result c.is_empty.ensures c.loop-rest-test.false)
    c.last_from.ensures c.in_ok-write-2.ensures.words
