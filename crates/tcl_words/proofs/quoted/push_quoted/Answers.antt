use Rattle.tcl_words.proofs.Common.{◌++◌, ◌∙◌, IsUtf8, string_bytes, sym, ap, refl, subst, arith, IsUtf8-drop}
use Rattle.tcl_words.proofs.Common.{pair_gives, Text, Quoted}
use Rattle.tcl_words.proofs.Plain.{run_at, front_range}
use Rattle.tcl_words.proofs.Pairs.{run_kept, pair_written, pair_boundary}
use Rattle.tcl_words.proofs.QuotedTexts.{run_passed, pair_passed, slash_passed, slash_kept, slash_boundary}
use Rattle.tcl_words.proofs.quoted.push_quoted.Goals as goal

pub loop-bytes-preserved-then-run-gt0 : goal.loop-bytes-preserved-then-run-gt0
loop-bytes-preserved-then-run-gt0 c =
    let rest = c.loop-bytes.rest.now in
    let n = c.quoted_run-run.result in
    let same = c.as_bytes-bytes.ensures.value in
    let run = run_at (Text Quoted) rest _ n same c.loop-bytes.invariant.utf8
    c.if-run-gt0.true c.quoted_run-run.ensures.within c.quoted_run-run.ensures.plain
    (λ some. c.quoted_run-run.ensures.end) in
    let after = c.range_from-rest.ensures.value in
    let long = c.range_from-rest.ensures.len in
    let shorter = c.loop-bytes.invariant.shorter in
    let more = c.in_ok-push_str.ensures.bytes ∙ ap (λ l. string_bytes c.loop-bytes.word ++ l)
    (c.range.ensures.value ∙ front_range n rest) in
    record {
      utf8 = subst IsUtf8 (sym after) (IsUtf8-drop rest n c.loop-bytes.invariant.utf8 run.0);
      word = c.loop-bytes.invariant.word
          ∙ run_kept rest _ (string_bytes c.loop-bytes.word) _ n (Text Quoted) run.1 after more;
      all = λ q. let before = c.loop-bytes.invariant.all q in
          run_passed rest _ _ _ _ _ same before.0 before.1 n c.quoted_run-run.ensures.plain after more;
      shorter = omega arith;
    }

pub range_from-rest-requires-then-bytes-gt127 : goal.range_from-rest-requires-then-bytes-gt127
range_from-rest-requires-then-bytes-gt127 c =
    λ h. slash_boundary c.loop-bytes.rest.now _ c.as_bytes-bytes.ensures.value c.loop-bytes.invariant.utf8
    c.if-bytes-lt2.false c.if-bytes-ne92.false

pub loop-bytes-preserved-then-bytes-gt127 : goal.loop-bytes-preserved-then-bytes-gt127
loop-bytes-preserved-then-bytes-gt127 c =
    let rest = c.loop-bytes.rest.now in
    let same = c.as_bytes-bytes.ensures.value in
    let boundary = slash_boundary rest _ same c.loop-bytes.invariant.utf8 c.if-bytes-lt2.false c.if-bytes-ne92.false in
    let after = c.range_from-rest-then-bytes-gt127.ensures.value in
    let long = c.range_from-rest-then-bytes-gt127.ensures.len in
    let shorter = c.loop-bytes.invariant.shorter in
    let utf8 = subst IsUtf8 (sym after) (IsUtf8-drop rest 1 c.loop-bytes.invariant.utf8 boundary) in
    record {
      utf8 = utf8;
      word = c.loop-bytes.invariant.word
          ∙ slash_kept rest _ _ (string_bytes c.loop-bytes.word) same utf8 c.if-bytes-lt2.false c.if-bytes-ne92.false
          c.if-bytes-gt127.true after;
      all = λ q. let before = c.loop-bytes.invariant.all q in
          slash_passed rest _ _ _ _ _ same before.0 before.1 c.if-bytes-lt2.false c.if-bytes-ne92.false
          c.if-bytes-gt127.true after refl;
      shorter = omega arith;
    }

pub range_from-rest-requires-in-loop-bytes : goal.range_from-rest-requires-in-loop-bytes
range_from-rest-requires-in-loop-bytes c =
    λ h. pair_boundary c.loop-bytes.rest.now _ c.as_bytes-bytes.ensures.value c.loop-bytes.invariant.utf8
    c.if-bytes-lt2.false c.if-bytes-gt127.false

pub loop-bytes-preserved : goal.loop-bytes-preserved
loop-bytes-preserved c =
    let rest = c.loop-bytes.rest.now in
    let same = c.as_bytes-bytes.ensures.value in
    let boundary = pair_boundary rest _ same c.loop-bytes.invariant.utf8 c.if-bytes-lt2.false
    c.if-bytes-gt127.false in
    let after = c.range_from-rest-in-loop-bytes.ensures.value in
    let long = c.range_from-rest-in-loop-bytes.ensures.len in
    let shorter = c.loop-bytes.invariant.shorter in
    let gives = ap pair_gives (sym c.from.ensures) ∙ sym c.pair_gives.ensures ∙ c.in-Some.is in
    record {
      utf8 = subst IsUtf8 (sym after) (IsUtf8-drop rest 2 c.loop-bytes.invariant.utf8 boundary);
      word = c.loop-bytes.invariant.word
          ∙ pair_written rest _ _ (string_bytes c.loop-bytes.word) _ _ same c.if-bytes-lt2.false
          c.if-bytes-ne92.false c.if-bytes-gt127.false gives after c.in_ok-push.ensures.bytes;
      all = λ q. let before = c.loop-bytes.invariant.all q in
          pair_passed rest _ _ _ _ _ same before.0 before.1 _ c.if-bytes-lt2.false c.if-bytes-ne92.false
          c.if-bytes-gt127.false gives after c.in_ok-push.ensures.bytes;
      shorter = omega arith;
    }
