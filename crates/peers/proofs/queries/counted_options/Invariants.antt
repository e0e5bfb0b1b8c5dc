use Rattle.peers.proofs.Common.{◌≡◌, map, take, texts_of, counted_as}
use Rattle.peers.proofs.queries.counted_options.Given as goal

abbrev pub invariant-loop-word : goal.invariant-loop-word
invariant-loop-word l = l.options.items ≡ map counted_as (texts_of (take l.word-index l.words))
