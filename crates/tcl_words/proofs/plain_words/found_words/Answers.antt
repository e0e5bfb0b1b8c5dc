use Rattle.tcl_words.proofs.Common.{refl, arith, take_rest, ◌∙◌, length-set}
use Rattle.tcl_words.proofs.FoundWords.{found_more, command_of}
use Rattle.tcl_words.specs.declared.plain_words.WordText.{WordText}
use Rattle.tcl_words.proofs.plain_words.found_words.Goals as goal

pub returns-then-word : goal.returns-then-word
returns-then-word c =
    let k = c.loop-count.invariant in
    let less = c.loop-count-test.true in
    let room = k.room in
    let word : WordText = record {
      text = c.from_utf8_unchecked.result;
      has_escapes = c.in_ok-word.word.has_escapes;
    } in
    let more = found_more (λ (word : WordText). word.has_escapes) (λ (word : WordText). word.text.now)
    c.as_bytes-bytes.result.now _ c.loop-count.index c.loop-count.count c.loop-count.stage c.loop-count.words word
    c.in_ok-word.word (take_rest c.as_bytes-bytes.result.now c.loop-count.index) c.in_ok-word.ensures refl
    c.from_utf8_unchecked.ensures (omega arith) k.utf8 k.within k.texts k.scans k.pieces in (
      omega (arith, length-set c.loop-count.words c.loop-count.count word),
      more.texts,
      command_of c.as_bytes-bytes.result.now c.args.text.now _ _ c.as_bytes-bytes.ensures.value
          (more.last c.if-word.true),
    )

pub loop-count-preserved : goal.loop-count-preserved
loop-count-preserved c =
    let k = c.loop-count.invariant in
    let less = c.loop-count-test.true in
    let room = k.room in
    let word : WordText = record {
      text = c.from_utf8_unchecked.result;
      has_escapes = c.in_ok-word.word.has_escapes;
    } in
    let more = found_more (λ (word : WordText). word.has_escapes) (λ (word : WordText). word.text.now)
    c.as_bytes-bytes.result.now _ c.loop-count.index c.loop-count.count c.loop-count.stage c.loop-count.words word
    c.in_ok-word.word (take_rest c.as_bytes-bytes.result.now c.loop-count.index) c.in_ok-word.ensures refl
    c.from_utf8_unchecked.ensures (omega arith) k.utf8 k.within k.texts k.scans k.pieces in
    record {
      within = more.within;
      room = length-set c.loop-count.words c.loop-count.count word ∙ k.room;
      texts = more.texts;
      utf8 = more.utf8;
      scans = more.scans c.if-word.false;
      pieces = more.pieces c.if-word.false;
    }
