use Rattle.segments.proofs.Common.{◌≡◌, ℕ, cond, true, sym, ap, ◌∙◌, arith, false≢true, has_word, differing, WORDS}
use Rattle.segments.proofs.Common.{before_word, before_word-all, before_word-more, before_word-none, counts_among}
use Rattle.segments.proofs.Common.{word-none, word-some, words_below-more, empty-differing, flipped, toggled_at}
use Rattle.text_model.specs.OneWord.{words_below}
use Rattle.segments.proofs.ToggleLaws.{flips_both, flips_none}
use Rattle.segments.proofs.toggles.flip_words.Goals.{then-not-is_empty, else-not-is_empty}
use Rattle.segments.proofs.toggles.flip_words.Goals as goal

pub loop-index-init : goal.loop-index-init
unfolding words_below
loop-index-init c = record {
  room = omega (arith, c.requires.room);
  lie = λ from to lie above below. lie;
  slots = λ at. flips_none c.args.column (before_word 0 c.args.slots.now) at (toggled_at c.args.toggles.now.items at)
      (before_word-none c.args.slots.now);
}

pub flip_word-requires : goal.flip_word-requires
flip_word-requires c =
    let index = c.loop-index.index in
    let slots = c.args.slots.now in
    let has : has_word index slots ≡ true = word-some index slots (λ none.
    false≢true (sym c.if-not-is_empty.true ∙ c.is_empty.ensures.some (c.word-word.ensures.slots ∙ none))) in
    record { room = omega (arith, c.loop-index.invariant.room, counts_among index slots c.loop-index-test.true has) }

pub loop-index-preserved : goal.loop-index-preserved
loop-index-preserved c =
    let index = c.loop-index.index in
    let slots = c.args.slots.now in
    let column = c.args.column in
    let kept = c.loop-index.invariant in
    let more = words_below-more index slots in
    elim c.if-not-is_empty.branch [
      | then-not-is_empty w ↦
          let has : has_word index slots ≡ true = word-some index slots (λ none.
          false≢true (sym w.if-not-is_empty.true ∙ c.is_empty.ensures.some (c.word-word.ensures.slots ∙ none))) in
          let one : cond (has_word index slots) 1 0 ≡ 1 = ap {B = ℕ} (λ b. cond b 1 0) has in
          rw w.toggles-is (record {
            room = omega (arith, kept.room, more, one, w.flip_word.ensures.len, w.flip_word.ensures.capacity);
            lie = λ from to lie above below.
                w.flip_word.ensures.lie from to (kept.lie from to lie above below) above below;
            slots = λ at.
                let old = toggled_at c.args.toggles.now.items at in
                w.flip_word.ensures.slots at
                ∙ ap (flipped column c.word-word.result at) (kept.slots at)
                ∙ flips_both column c.word-word.result (before_word index slots) at old
                ∙ ap (λ s. flipped column s at old)
                (ap (λ s. differing s (before_word index slots)) c.word-word.ensures.slots
                ∙ sym (before_word-more index slots));
          })
      | else-not-is_empty w ↦
          let none = sym c.word-word.ensures.slots ∙ c.is_empty.ensures.none w.if-not-is_empty.false in
          let no : cond (has_word index slots) 1 0 ≡ 0 = ap {B = ℕ} (λ b. cond b 1 0) (word-none index slots none) in
          rw w.toggles-is (record {
            room = omega (arith, kept.room, more, no);
            lie = kept.lie;
            slots = λ at. kept.slots at
                ∙ ap (λ s. flipped column s at (toggled_at c.args.toggles.now.items at))
                (sym (before_word-more index slots ∙ ap (λ s. differing s (before_word index slots)) none
                ∙ empty-differing (before_word index slots)));
          })
    ]

pub returns-clause-slots : goal.returns-clause-slots
returns-clause-slots c = λ at.
    let slots = c.args.slots.now in
    let all : c.loop-index.index ≡ WORDS = omega (arith, c.loop-index-test.false, c.loop-index.auto.index-end) in
    c.loop-index.invariant.slots at
    ∙ ap (λ s. flipped c.args.column s at (toggled_at c.args.toggles.now.items at))
    (ap (λ n. before_word n slots) all ∙ before_word-all slots c.requires.slots)
