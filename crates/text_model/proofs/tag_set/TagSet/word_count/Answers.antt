use Rattle.text_model.proofs.Common.{◌≡◌, ℕ, ap, cond, refl, subst, arith, AreSlots, has_word, slots_of}
use Rattle.text_model.specs.OneWord.{words_below}
use Rattle.text_model.proofs.InWordLaws.{counts_none, counts_word, slots_are, words_below-le, words_below-more}
use Rattle.text_model.proofs.tag_set.TagSet.word_count.Goals.{then-self-index-ne0, else-self-index-ne0}
use Rattle.text_model.proofs.tag_set.TagSet.word_count.Goals as goal

pub loop-index-init : goal.loop-index-init
unfolding words_below
loop-index-init c = refl

pub overflow_add-count : goal.overflow_add-count
overflow_add-count c =
    omega (
      arith,
      c.loop-index.invariant,
      words_below-le c.loop-index.index c.args.self.now,
      c.loop-index-test.true,
    )

pub loop-index-preserved : goal.loop-index-preserved
loop-index-preserved c =
    let words = c.self.inside.words in
    let index = c.loop-index.index in
    let now = c.args.self.now in
    let more = words_below-more index now in
    let seen : cond (has_word index (slots_of words)) 1 0 ≡ cond (has_word index now) 1 0 =
    ap {B = ℕ} (λ s. cond (has_word index s) 1 0) c.self.view_is in
    elim c.if-self-index-ne0.branch [
      | then-self-index-ne0 w ↦ omega (
        arith,
        w.count-is,
        c.loop-index.invariant,
        more,
        seen,
        ap {B = ℕ} (λ b. cond b 1 0) (counts_word words index c.self.invariant c.loop-index-test.true
            w.if-self-index-ne0.true),
      )
      | else-self-index-ne0 w ↦ omega (
        arith,
        w.count-is,
        c.loop-index.invariant,
        more,
        seen,
        ap {B = ℕ} (λ b. cond b 1 0) (counts_none words index c.self.invariant c.loop-index-test.true
            w.if-self-index-ne0.false),
      )
    ]

pub returns-clause-slots : goal.returns-clause-slots
returns-clause-slots c = subst AreSlots c.self.view_is (slots_are c.self.inside.words)
