use Rattle.tcl_words.proofs.Common.{◌++◌, ◌∙◌, string_bytes, sym, ap, subst, arith, IsUtf8, IsUtf8-drop}
use Rattle.tcl_words.proofs.ListWriting.{list_depth, reading_same, reading_runs, reading_goes, reading_fails}
use Rattle.tcl_words.proofs.ListWriting.{reading_ends, reading_ends_badly}
use Rattle.tcl_words.proofs.Plain.{run_at, front_range, char_boundary, after_char, none_left, RunOf}
use Rattle.tcl_words.proofs.lists.split_list.Goals as goal

pub loop-rest-preserved-then-run-gt0 : goal.loop-rest-preserved-then-run-gt0
loop-rest-preserved-then-run-gt0 c =
    let rest = c.loop-rest.rest.now in
    let n = c.plain_run-run.result in
    let run = run_at c.script_stage.result rest _ n c.as_bytes.ensures.value c.loop-rest.invariant.utf8
    c.if-run-gt0.true
    c.plain_run-run.ensures.within c.plain_run-run.ensures.plain c.plain_run-run.ensures.end in
    let after = c.range_from-rest.ensures.value in
    let depth = c.loop-rest.invariant.depth in
    let long = c.range_from-rest.ensures.len in
    record {
      utf8 = subst IsUtf8 (sym after) (IsUtf8-drop rest n c.loop-rest.invariant.utf8 run.0);
      reading = rw after (reading_same (reading_runs c.loop-rest.invariant.reading
          (subst (λ s. RunOf s rest n) c.script_stage.ensures run.1)
          (c.in_ok-keep.ensures.word ∙ ap (λ l. string_bytes c.loop-rest.writer.word ++ l) (c.range.ensures.value
          ∙ front_range n rest))) c.keep.ensures.words);
      depth = omega arith;
    }

pub returns-in-Bad-clause-bad : goal.returns-in-Bad-clause-bad
returns-in-Bad-clause-bad c =
    λ e. reading_fails c.loop-rest.invariant.reading c.first_char-c.ensures.2 c.step_from-step.ensures
    c.in_ok-write.ensures.words c.in_ok-write.ensures.word c.in-Bad.is

pub range_from-rest-requires-in-loop-rest : goal.range_from-rest-requires-in-loop-rest
range_from-rest-requires-in-loop-rest c =
    λ h. char_boundary c.loop-rest.rest.now c.first_char-c.ensures.0 c.first_char-c.result c.len_utf8.result
    c.loop-rest.invariant.utf8 c.first_char-c.ensures.1 c.len_utf8.ensures.value

pub loop-rest-preserved : goal.loop-rest-preserved
loop-rest-preserved c =
    let rest = c.loop-rest.rest.now in
    let n = c.len_utf8.result in
    let boundary = char_boundary rest c.first_char-c.ensures.0 c.first_char-c.result n c.loop-rest.invariant.utf8
    c.first_char-c.ensures.1 c.len_utf8.ensures.value in
    let after = c.range_from-rest-in-loop-rest.ensures.value in
    let behind = after ∙ after_char rest c.first_char-c.ensures.0 c.first_char-c.result n c.first_char-c.ensures.1
    c.len_utf8.ensures.len in
    let deeper = list_depth c.loop-rest.stage c.in-Go.next _ _ c.in-Go.is c.step_from-step.ensures in
    let depth = c.loop-rest.invariant.depth in
    let long = c.range_from-rest-in-loop-rest.ensures.len in
    let some = c.len_utf8.ensures.lower_bound in
    record {
      utf8 = subst IsUtf8 (sym after) (IsUtf8-drop rest n c.loop-rest.invariant.utf8 boundary);
      reading = rw behind (reading_goes c.loop-rest.invariant.reading c.first_char-c.ensures.2
          c.step_from-step.ensures c.in_ok-write.ensures.words c.in_ok-write.ensures.word c.in-Go.is);
      depth = omega arith;
    }

pub returns-in-Go-next-clause-list : goal.returns-in-Go-next-clause-list
returns-in-Go-next-clause-list c =
    reading_ends c.loop-rest.rest.now c.write-2.new.self.words.items c.loop-rest.invariant.reading
    (none_left c.loop-rest.rest.now c.is_empty.result c.is_empty.ensures c.loop-rest-test.false)
    c.last_from-step.ensures c.in-Go-next.is c.in_ok-write-2.ensures.words

pub returns-in-Bad-next-clause-bad : goal.returns-in-Bad-next-clause-bad
returns-in-Bad-next-clause-bad c =
    λ e. reading_ends_badly c.loop-rest.rest.now c.loop-rest.invariant.reading
    (none_left c.loop-rest.rest.now c.is_empty.result c.is_empty.ensures c.loop-rest-test.false)
    c.last_from-step.ensures c.in-Bad-next.is
