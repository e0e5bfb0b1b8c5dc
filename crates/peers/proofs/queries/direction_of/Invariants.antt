use Rattle.peers.proofs.Common.{◌≡◌, take, texts_of, direction_of}
use Rattle.peers.proofs.queries.direction_of.Given as goal

abbrev pub invariant-loop-word : goal.invariant-loop-word
invariant-loop-word l = l.direction ≡ direction_of (texts_of (take l.word-index l.words))
