use Rattle.text_model.proofs.Common.{◌≡◌, words_below}
use Rattle.text_model.proofs.tag_set.TagSet.word_count.Given as goal

abbrev pub invariant-loop-index : goal.invariant-loop-index
invariant-loop-index l = l.count ≡ words_below l.index l.self
